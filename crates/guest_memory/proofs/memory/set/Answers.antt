use Rattle.std.proofs.Common.{◌≡◌, ◌+◌, arith, sym, ap, ◌∙◌, refl, [], ◌∷◌}
use Rattle.std.specs.Prelude.{is_some}
use Rattle.guest_memory.specs.Held.{held, Misses}
use Rattle.std.proofs.lemmas.Bool.{false≢true}
use Rattle.std.proofs.lemmas.Option.{slice_get-get_or}
use Rattle.std.proofs.lemmas.List.Elements.{recursion_from_All}
use Rattle.guest_memory.specs.Several.{changed, held_none}
use Rattle.guest_memory.proofs.memory.set.Goals as goal

pub returns-in-Some : goal.returns-in-Some
returns-in-Some g c =
    let pieces = c.args.pieces.now in
    let found = c.in-Some.ensures.found in
    changed g.P.Piece.part pieces c.in-Some.i c.args.at (c.args.byte ∷ []) _ c.write.new.self
    (slice_get-get_or pieces c.in-Some.i c.index-pieces-i.result found.0)
    (recursion_from_All (Misses g.P.Piece.part c.args.at 1) _ found.1) c.write.ensures

pub returns-in-None : goal.returns-in-None
returns-in-None g c =
    let part = g.P.Piece.part in
    let pieces = c.args.pieces.now in
    let here : c.args.at + 0 ≡ c.args.at = omega arith in
    let none = held_none part pieces c.args.at 1 0 (recursion_from_All (Misses part c.args.at 1) pieces (c.in-None.ensures.none refl)) (omega arith) in
    absurd (false≢true (sym (ap is_some (sym (ap (held part pieces) here) ∙ none)) ∙ c.requires))
