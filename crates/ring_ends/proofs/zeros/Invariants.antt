use Rattle.std.proofs.Common.{◌≡◌, replicate}
use Rattle.ring_ends.proofs.zeros.Given as goal

abbrev pub invariant-loop : goal.invariant-loop
invariant-loop l = l.places.items ≡ replicate l.counter (replicate 16 0)
