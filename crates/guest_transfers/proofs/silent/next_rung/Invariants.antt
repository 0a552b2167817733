use Rattle.std.proofs.Common.{◌≡◌}
use Rattle.guest_transfers.specs.Silent.{rung_from}
use Rattle.guest_transfers.proofs.silent.next_rung.Given as goal

-- no doorbell of the rings before this one is rung
abbrev pub invariant-loop-stream : goal.invariant-loop-stream
invariant-loop-stream l = rung_from l.pipe 0 ≡ rung_from l.pipe l.stream
