use Rattle.std.proofs.Common.{◌≡◌, ◌+◌, ◌++◌, length}
use Rattle.host_layout.specs.Cutting.{pieces_of}
use Rattle.host_layout.proofs.segments.push_pieces.Given as goal

-- the pieces of the blocks before this one stand behind those that were there
abbrev pub invariant-loop-number : goal.invariant-loop-number
invariant-loop-number l =
    (l.pieces.items ≡ l.fn.pieces.items ++ pieces_of l.done l.segment l.number) × (length l.pieces.items ≡ length l.fn.pieces.items + l.number)
