-- A part of a list, behind the parts before it.
use Rattle.std.proofs.Common.{◌≡◌, ℕ, ◌+◌, ◌-◌, ◌≤◌, List, ◌++◌, take, drop, sym, ap, ◌∙◌, arith}
use Rattle.std.proofs.lemmas.List.{take-append-drop, take-take, drop-take}

-- the part from one place to another, behind what stands before it
pub take-part : (done end : ℕ) (xs : List ℕ) → done ≤ end → take end xs ≡ take done xs ++ take (end - done) (drop done xs)
take-part done end xs before =
    let whole : done + (end - done) ≡ end = omega arith in
    sym (take-append-drop done (take end xs))
    ∙ (ap (λ (ys : List ℕ). ys ++ drop done (take end xs)) (take-take done end xs before)
    ∙ ap (λ (ys : List ℕ). take done xs ++ ys) (ap (λ (n : ℕ). drop done (take n xs)) (sym whole) ∙ drop-take done (end - done) xs))
