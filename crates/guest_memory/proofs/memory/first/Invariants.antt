use Rattle.std.proofs.Common.{take}
use Rattle.std.specs.Prelude.{All}
use Rattle.guest_memory.specs.Held.{Misses}
use Rattle.guest_memory.proofs.memory.first.Given as goal

abbrev pub invariant-loop-i : goal.invariant-loop-i
invariant-loop-i g l = All (Misses g.P.Piece.part l.at l.count) (take l.i l.pieces)
