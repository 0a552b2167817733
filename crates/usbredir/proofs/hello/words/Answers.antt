use Rattle.std.proofs.Common.{◌≡◌, ℕ, ◌-◌, ◌/◌, List, ◌++◌, length, take, drop, replicate, ap, ◌∙◌, arith, rules}
use Rattle.std.proofs.lemmas.List.{length-drop, take_all}
use Rattle.usbredir.specs.Device.{numbers_in}
use Rattle.usbredir.proofs.Tables.{placed}
use Rattle.usbredir.proofs.hello.words.Goals as goal

pub returns : goal.returns
returns c =
    let bytes : List ℕ = c.args.bytes.now in
    let count : ℕ = (length bytes - 64) / 4 in
    let long : length c.read_words.new.into ≡ count = search rules in
    let tail : take (length bytes - 64) (drop 64 bytes) ≡ drop 64 bytes = take_all _ _ (omega (arith, length-drop 64 bytes)) in
    let all : c.read_words.new.into ≡ numbers_in 4 count (take (length bytes - 64) (drop 64 bytes)) = search rules in
    let rest : List ℕ = drop count (replicate 16 0) in
    c.put.ensures.items ∙ ap (λ (xs : List ℕ). xs ++ take count (c.read_words.new.into ++ rest)) c.new-words.ensures
    ∙ placed count c.read_words.new.into rest long ∙ all ∙ ap (numbers_in 4 count) tail
