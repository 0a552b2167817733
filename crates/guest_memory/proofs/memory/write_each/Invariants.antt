use Rattle.std.proofs.Common.{◌≡◌, take}
use Rattle.guest_memory.specs.Held.{held}
use Rattle.guest_memory.specs.Bytes.{written}
use Rattle.guest_memory.proofs.memory.write_each.Given as goal

abbrev pub invariant-loop-i : goal.invariant-loop-i
invariant-loop-i g l = held g.P.Piece.part l.pieces ≡ written (held g.P.Piece.part l.fn.pieces) l.at (take l.i l.bytes)
