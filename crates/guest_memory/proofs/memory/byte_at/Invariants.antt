use Rattle.std.proofs.Common.{◌≡◌, drop}
use Rattle.guest_memory.specs.Held.{held}
use Rattle.guest_memory.proofs.memory.byte_at.Given as goal

abbrev pub invariant-loop-piece : goal.invariant-loop-piece
invariant-loop-piece g l = held g.P.Piece.part (drop l.piece-index l.pieces) l.at ≡ held g.P.Piece.part l.pieces l.at
