use Rattle.std.proofs.Common.{◌≡◌, ◌+◌, ◌<◌, ℕ, true}
use Rattle.std.specs.Prelude.{is_some}
use Rattle.guest_memory.specs.Held.{held}
use Rattle.guest_memory.proofs.memory.has_each.Given as goal

abbrev pub invariant-loop-i : goal.invariant-loop-i
invariant-loop-i g l = (k : ℕ) → k < l.i → is_some (held g.P.Piece.part l.pieces (l.at + k)) ≡ true
