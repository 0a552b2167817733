use Rattle.std.proofs.Common.{◌≡◌, ◌*◌, ◌≤◌, ◌++◌, length, drop}
use Rattle.host_layout.specs.Cutting.{pieces_from}
use Rattle.host_layout.proofs.segments.cut.Given as goal

-- with the pieces of the segments to come these are all pieces
abbrev pub invariant-loop-segment : goal.invariant-loop-segment
invariant-loop-segment l =
    (l.pieces.items ++ pieces_from l.done (drop l.segment-index l.segments) ≡ pieces_from 0 l.segments)
    × (length l.pieces.items ≤ l.most) × (l.done ≤ 65536 * length l.pieces.items)
