-- A list whose items were changed one by one.
use Rattle.std.proofs.Common.{◌≡◌, ◌≤◌, ℕ, List, ◌++◌, length, map, take, drop, ap, ◌∙◌}
use Rattle.std.proofs.lemmas.List.{append-nil, drop_all, take_all}

-- so many items changed, of which there are no more
pub map-all : {T : Type 0} (f : T → T) (items now : List T) (many : ℕ) → now ≡ map f (take many items) ++ drop many items →
    length items ≤ many → now ≡ map f items
map-all f items now many is all =
    is ∙ ap (λ front. map f front ++ drop many items) (take_all many items all) ∙ ap (λ rest. map f items ++ rest) (drop_all many items all)
    ∙ append-nil (map f items)
