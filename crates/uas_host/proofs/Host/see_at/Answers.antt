use Rattle.std.proofs.Common.{◌≡◌, ◌<◌, ◌∙◌, length, subst, sym}
use Rattle.std.proofs.lemmas.List.{get_or_default}
use Rattle.uas_host.specs.State.{HostState, client_of, new_client}
use Rattle.uas_host.specs.Sights.{notice_by}
use Rattle.uas_host.proofs.LeftOver.{AreMarked-seen}
use Rattle.uas_host.proofs.Seeing.{HasSeen, client_seen-room, has_seen-host, place_seen-client}
use Rattle.uas_host.proofs.Host.see_at.Goals as goal

pub see-saw-requires-clause-room : goal.see-saw-requires-clause-room
see-saw-requires-clause-room c =
    let host : HostState = record { tags = c.self.inside.tags; clients = c.self.inside.clients.items; retirement = c.self.inside.retirement } in
    let place = c.args.place in
    let there : place.client < length host.clients = subst (λ (h : HostState). place.client < length h.clients) (sym c.self.view_is) c.requires.client in
    let held : c.index_mut-held.result.now ≡ client_of host place.client =
    c.index_mut-held.ensures.value ∙ get_or_default host.clients place.client _ new_client there in
    rw held (client_seen-room host.tags (notice_by c.args.sense.now c.args.sight) (client_of host place.client) place.slot c.self.invariant.0.number
    (subst (λ (h : HostState). place.slot < h.tags) (sym c.self.view_is) c.requires.slot) (c.self.invariant.0.clients place.client there))

pub invariant_of-self : goal.invariant_of-self
invariant_of-self c =
    let host : HostState = record { tags = c.self.inside.tags; clients = c.self.inside.clients.items; retirement = c.self.inside.retirement } in
    let place = c.args.place in
    let there : place.client < length host.clients = subst (λ (h : HostState). place.client < length h.clients) (sym c.self.view_is) c.requires.client in
    let held : c.index_mut-held.result.now ≡ client_of host place.client =
    c.index_mut-held.ensures.value ∙ get_or_default host.clients place.client _ new_client there in
    let seen : HasSeen (notice_by c.args.sense.now c.args.sight) (client_of host place.client) place.slot c.see-saw.new.self
    c.see-saw.result = rw held at c.see-saw.ensures in (
      has_seen-host (notice_by c.args.sense.now c.args.sight) host place.client place.slot c.see-saw.new.self c.see-saw.result there
          (subst (λ (h : HostState). place.slot < h.tags) (sym c.self.view_is) c.requires.slot) c.self.invariant.0 seen,
      AreMarked-seen c.self.inside.marks c.settle.new.marks (notice_by c.args.sense.now c.args.sight) host place.client place.slot
          c.see-saw.new.self c.see-saw.result there
          c.self.invariant.1 seen (rw (c.moves_left_over-changed.ensures c.args.sense.now) at c.settle.ensures.here) c.settle.ensures.others,
    )

pub returns : goal.returns
returns c =
    let host : HostState = record { tags = c.self.inside.tags; clients = c.self.inside.clients.items; retirement = c.self.inside.retirement } in
    let place = c.args.place in
    let there : place.client < length host.clients = subst (λ (h : HostState). place.client < length h.clients) (sym c.self.view_is) c.requires.client in
    let held : c.index_mut-held.result.now ≡ client_of host place.client =
    c.index_mut-held.ensures.value ∙ get_or_default host.clients place.client _ new_client there in
    let seen : HasSeen (notice_by c.args.sense.now c.args.sight) (client_of host place.client) place.slot c.see-saw.new.self
    c.see-saw.result = rw held at c.see-saw.ensures in
    rw (← c.self.view_is) (place_seen-client (notice_by c.args.sense.now c.args.sight) host place c.see-saw.new.self c.see-saw.result seen)
