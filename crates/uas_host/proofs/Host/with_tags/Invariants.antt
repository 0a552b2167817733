use Rattle.std.proofs.Common.{◌≡◌, replicate}
use Rattle.uas_host.specs.State.{new_client}
use Rattle.uas_host.proofs.Host.with_tags.Given as goal

abbrev pub invariant-loop : goal.invariant-loop
invariant-loop l = l.list.items ≡ replicate l.counter new_client
