-- Units out of an image. Cited by the answers of the function that makes them.
use Rattle.std.proofs.Common.{◌≡◌, ℕ, ◌+◌, List, [], ◌∷◌, ◌++◌, map, ap, sym, ◌∙◌, arith}
use Rattle.std.specs.List.{range_with_len}
use Rattle.std.proofs.lemmas.List.FromFn.{map-range_with_len_more}
use Rattle.block_unit.specs.BlockMaps.{BlockMaps}

-- one unit more
pub unit_more : (f : ℕ → BlockMaps) (items now : List BlockMaps) (unit : BlockMaps) (place : ℕ) → now ≡ items ++ (unit ∷ []) →
    items ≡ map f (range_with_len 0 place) → unit ≡ f place → now ≡ map f (range_with_len 0 (place + 1))
unit_more f items now unit place is before one =
    is ∙ ap (λ front. front ++ (unit ∷ [])) before ∙ ap (λ x. map f (range_with_len 0 place) ++ (x ∷ [])) one
    ∙ sym (map-range_with_len_more f 0 place place (omega arith))
