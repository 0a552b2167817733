use Rattle.std.proofs.Common.{ap, sym, refl, ◌∙◌}
use Rattle.std.specs.Prelude.{is_some}
use Rattle.guest_memory.specs.Held.{held, Misses}
use Rattle.std.proofs.lemmas.Option.{slice_get_read}
use Rattle.std.proofs.lemmas.List.Elements.{recursion_from_All}
use Rattle.std.proofs.Common.{length}
use Rattle.guest_memory.specs.Ranges.{there_by_each}
use Rattle.guest_memory.specs.Several.{held_here}
use Rattle.guest_memory.proofs.memory.has.Goals as goal

pub returns-then-has_all : goal.returns-then-has_all
returns-then-has_all g c =
    let part = g.P.Piece.part in
    let pieces = c.args.pieces.now in
    let n = c.args.count in
    let found = c.in-Some.ensures.found in
    let piece = c.index-pieces-i.result in
    let has : g.P.Piece.has piece c.args.at n = c.has_all.ensures.0 c.if-has_all.true in
    let is = slice_get_read pieces (length pieces) c.in-Some.i piece refl found.0 c.index-pieces-i.is in
    sym (there_by_each (held part pieces) c.args.at n
    (λ k below. ap is_some (held_here part pieces c.in-Some.i c.args.at n k piece is (recursion_from_All (Misses part c.args.at n) _ found.1)
    (g.met.P.Piece.there piece c.args.at n k has below) below) ∙ g.met.P.Piece.there piece c.args.at n k has below))
