use Rattle.std.proofs.Common.{◌≡◌, ◌+◌, [], map, drop}
use Rattle.uas_script.specs.Script.{lines_after}
use Rattle.uas_script.proofs.lines_of.Given as goal

abbrev pub invariant-loop-index : goal.invariant-loop-index
invariant-loop-index l =
    lines_after l.clients l.tags [] 1 (map (λ piece. piece.now) l.pieces) ≡ lines_after l.clients l.tags l.lines.items (l.index + 1)
    (drop l.index (map (λ piece. piece.now) l.pieces))
