use Rattle.std.proofs.Common.{◌≡◌, ◌<◌, ◌∙◌, Some, drop, length, subst, sym}
use Rattle.std.specs.Prelude.{slice_get}
use Rattle.std.proofs.lemmas.List.{get_or_default}
use Rattle.uas_host.specs.State.{HostState, client_of, new_client}
use Rattle.uas_host.proofs.LeftOver.{AreMarked-released}
use Rattle.uas_host.proofs.Replying.{released-host}
use Rattle.uas_host.proofs.Host.release.Goals as goal

pub invariant_of-self : goal.invariant_of-self
invariant_of-self c =
    let host : HostState = record { tags = c.self.inside.tags; clients = c.self.inside.clients.items; retirement = c.self.inside.retirement } in
    let there : c.args.client < length host.clients = subst (λ (h : HostState). c.args.client < length h.clients) (sym c.self.view_is) c.requires.ready.there in
    let first : slice_get (client_of host c.args.client).ready.items 0 ≡ Some c.args.slot =
    subst (λ (h : HostState). slice_get (client_of h c.args.client).ready.items 0 ≡ Some c.args.slot) (sym c.self.view_is) c.requires.first in
    let held : c.index_mut.result.now ≡ client_of host c.args.client =
    c.index_mut.ensures.value ∙ get_or_default host.clients c.args.client _ new_client there in
    rw (c.release.ensures.client, held) (
      released-host host c.args.client c.args.slot there c.self.invariant.0 first,
      AreMarked-released c.self.inside.marks host c.args.client c.args.slot (drop 1 (client_of host c.args.client).ready.items) there
          c.self.invariant.1,
    )
