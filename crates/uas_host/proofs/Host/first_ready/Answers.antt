use Rattle.std.proofs.Common.{◌≡◌, ◌<◌, ◌∙◌, arith, ap, length}
use Rattle.std.specs.Prelude.{slice_get}
use Rattle.std.proofs.lemmas.List.{get_or_default}
use Rattle.uas_host.specs.declared.HostClient.{HostClient}
use Rattle.uas_host.specs.State.{HostState, client_of, new_client}
use Rattle.uas_host.proofs.Replying.{first_ready-known}
use Rattle.uas_host.proofs.Host.first_ready.Goals as goal

pub returns-clause-known : goal.returns-clause-known
returns-clause-known c =
    let host : HostState = record { tags = c.self.inside.tags; clients = c.self.inside.clients.items; retirement = c.self.inside.retirement } in
    let there : c.args.client < length host.clients = omega (arith, c.if-len-client.false, c.len.ensures) in
    let held : c.index.result.now ≡ client_of host c.args.client = c.index.ensures ∙ get_or_default host.clients c.args.client _ new_client there in
    rw (← c.self.view_is)
    (first_ready-known host c.args.client c.first_ready.result there c.self.invariant.0 (c.first_ready.ensures
    ∙ ap (λ (client : HostClient). slice_get client.ready.items 0) held))
