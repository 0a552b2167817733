use Rattle.std.proofs.Common.{◌≡◌, ◌<◌, ◌==◌, false, ℕ, length, ap, sym, subst, ◌∙◌, arith, Err}
use Rattle.std.specs.List.{list_any}
use Rattle.std.proofs.lemmas.Bool.Decides.{nat_tests}
use Rattle.host_layout.specs.Cutting.{is_beyond, is_empty, pieces_from}
use Rattle.host_layout.specs.Sizes.{pieces_number}
use Rattle.host_layout.proofs.Cutting.{cut_many, many}
use Rattle.host_layout.proofs.segments.cut.Goals as goal

pub returns-in-Err : goal.returns-in-Err
returns-in-Err c =
    let segments = c.args.segments.now in
    let refused = c.in-Err.ensures.refused in
    let some : (length segments == 0) ≡ false = grind (arith, nat_tests, c.is_empty.ensures, c.if-is_empty.false) in
    let full : list_any is_empty segments ≡ false = sym c.has_empty.ensures ∙ c.if-has_empty.false in
    let near : list_any is_beyond segments ≡ false = sym c.has_beyond.ensures ∙ c.if-has_beyond.false in
    let most : c.from-most.result ≡ pieces_number c.args.most = c.from-most.ensures ∙ c.number.ensures.is in
    let more : c.from-most.result < length (pieces_from 0 segments) =
    many _ segments c.loop-segment.pieces.items c.loop-segment.done c.loop-segment.segment-index _ c.loop-segment.invariant.0 c.loop-segment-test.true refused.1 in
    cut_many (pieces_number c.args.most) segments some full near (let P : ℕ → Type 0 = λ n. n < length (pieces_from 0 segments) in subst P most more)
    ∙ ap Err (sym refused.0)
