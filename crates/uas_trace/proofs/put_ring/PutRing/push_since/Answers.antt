use Rattle.std.proofs.Common.{◌∙◌, ℕ, ◌+◌, ◌-◌, ◌%◌, List, ◌++◌, ap, append_assoc}
use Rattle.std.proofs.Math.Numerals.{suc-eq-add-one}
use Rattle.uas_trace.specs.Written.{place_lines, places_in, put_lines}
use Rattle.uas_trace.proofs.put_ring.PutRing.push_since.Goals as goal

pub loop-passed-preserved : goal.loop-passed-preserved
loop-passed-preserved c =
    let l = c.loop-passed in
    let rings = c.args.lines.now in
    let place = λ (turn : ℕ). place_lines rings c.args.self ((c.args.from + l.passed) % turn) in
    let passed = put_lines rings c.args.self c.args.from l.passed in
    c.in_ok-push_place.ensures
    ∙ ap (λ (n : ℕ). l.text.items ++ place (n - 1)) c.places-turn.ensures.places
    ∙ ap (λ (text : List ℕ). text ++ place (places_in c.args.self - 1)) l.invariant
    ∙ append_assoc c.args.text.now.items passed (place (places_in c.args.self - 1))
    ∙ ap (λ (n : ℕ). c.args.text.now.items ++ put_lines rings c.args.self c.args.from n) (suc-eq-add-one l.passed)
