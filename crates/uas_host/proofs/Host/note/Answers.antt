use Rattle.std.proofs.Common.{◌≡◌, ◌<◌, ◌∙◌, arith, length, subst, sym}
use Rattle.std.proofs.lemmas.List.{get_or_default}
use Rattle.uas_host.specs.State.{HostState, client_of, new_client}
use Rattle.uas_profile.specs.Tags.{task_slot}
use Rattle.uas_host.specs.Submit.{IsFree}
use Rattle.uas_host.proofs.LeftOver.{AreMarked-noted}
use Rattle.uas_host.proofs.Sound.{noted-host}
use Rattle.uas_host.proofs.Host.note.Goals as goal

pub invariant_of-self : goal.invariant_of-self
invariant_of-self c =
    let host : HostState = record { tags = c.self.inside.tags; clients = c.self.inside.clients.items; retirement = c.self.inside.retirement } in
    let there : c.args.client < length host.clients = subst (λ (h : HostState). c.args.client < length h.clients) (sym c.self.view_is) c.requires.client in
    let free : IsFree (client_of host c.args.client) c.args.slot =
    subst (λ (h : HostState). IsFree (client_of h c.args.client) c.args.slot) (sym c.self.view_is) c.requires.free in
    let within : c.args.slot < host.tags =
    omega (arith, subst (λ (h : HostState). c.args.slot < task_slot h.tags) (sym c.self.view_is) c.requires.slot, c.self.invariant.0.number.least) in
    let held : c.index_mut.result.now ≡ client_of host c.args.client =
    c.index_mut.ensures.value ∙ get_or_default host.clients c.args.client _ new_client there in
    rw (c.submit.ensures, held) (
      noted-host host c.args.client c.args.slot c.args.ticket c.args.op there within free c.self.invariant.0,
      AreMarked-noted c.self.inside.marks host c.args.client c.args.slot c.args.ticket c.args.op there c.self.invariant.1,
    )
