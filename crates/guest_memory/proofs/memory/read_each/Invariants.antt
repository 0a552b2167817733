use Rattle.std.proofs.Common.{◌≡◌, ◌+◌, ◌<◌, ℕ, length, slice_get}
use Rattle.guest_memory.specs.Held.{held}
use Rattle.guest_memory.proofs.memory.read_each.Given as goal

abbrev pub invariant-loop-i : goal.invariant-loop-i
invariant-loop-i g l = record {
  size : length l.into ≡ length l.fn.into;
  each : (k : ℕ) → k < l.i → held g.P.Piece.part l.pieces (l.at + k) ≡ slice_get l.into k;
}
