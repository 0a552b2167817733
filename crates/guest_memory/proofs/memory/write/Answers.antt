use Rattle.std.proofs.Common.{length, ap, ◌∙◌, get_or}
use Rattle.std.specs.Prelude.{is_some}
use Rattle.guest_memory.specs.Held.{held, Misses}
use Rattle.std.proofs.lemmas.Option.{slice_get-get_or}
use Rattle.std.proofs.lemmas.List.Elements.{recursion_from_All}
use Rattle.guest_memory.specs.Ranges.{there_by_each}
use Rattle.guest_memory.specs.Several.{held_here, changed}
use Rattle.guest_memory.proofs.memory.write.Goals as goal

pub returns-then-has_all-clause-written : goal.returns-then-has_all-clause-written
returns-then-has_all-clause-written g c =
    let part = g.P.Piece.part in
    let pieces = c.args.pieces.now in
    let found = c.in-Some.ensures.found in
    changed part pieces c.in-Some.i c.args.at c.args.bytes.now _ c.write.new.self
    (slice_get-get_or pieces c.in-Some.i c.index-pieces-i-then-has_all.result found.0)
    (recursion_from_All (Misses part c.args.at (length c.args.bytes.now)) _ found.1) c.write.ensures

pub returns-then-has_all-clause-there : goal.returns-then-has_all-clause-there
returns-then-has_all-clause-there g c =
    let part = g.P.Piece.part in
    let pieces = c.args.pieces.now in
    let n = length c.args.bytes.now in
    let found = c.in-Some.ensures.found in
    let piece = get_or pieces c.in-Some.i c.index-pieces-i.result in
    let has : g.P.Piece.has piece c.args.at n = c.has_all.ensures.0 c.if-has_all.true in
    let is = slice_get-get_or pieces c.in-Some.i c.index-pieces-i.result found.0 in
    there_by_each (held part pieces) c.args.at n
    (λ k below. ap is_some (held_here part pieces c.in-Some.i c.args.at n k piece is (recursion_from_All (Misses part c.args.at n) _ found.1)
    (g.met.P.Piece.there piece c.args.at n k has below) below) ∙ g.met.P.Piece.there piece c.args.at n k has below)
