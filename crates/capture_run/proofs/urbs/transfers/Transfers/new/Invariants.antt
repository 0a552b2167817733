use Rattle.std.proofs.Common.{◌≡◌, []}
use Rattle.std.specs.Prelude.{replicate}
use Rattle.capture_run.proofs.urbs.transfers.Transfers.new.Given as goal

abbrev pub invariant-loop : goal.invariant-loop
invariant-loop l = l.by_client.items ≡ replicate l.counter []
