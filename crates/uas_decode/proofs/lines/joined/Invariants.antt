use Rattle.std.proofs.Common.{◌≡◌, [], map, fold, drop}
use Rattle.uas_decode.specs.Line.{with_word}
use Rattle.uas_decode.proofs.lines.joined.Given as goal

abbrev pub invariant-loop-word : goal.invariant-loop-word
invariant-loop-word l =
    fold with_word l.digits.items (map (λ word. word.now) (drop l.word-index l.words)) ≡ fold with_word [] (map (λ word. word.now) l.words)
