-- The items of a list that pass a test, matched one by one with those of another list.
use Rattle.std.proofs.Common.{◌≡◌, ℕ, ◌+◌, ◌<◌, ◌≤◌, ◌==◌, ◌↔◌, Bool, true, cond, IsTrue, List, ◌∷◌, ◌++◌, filter, take, drop, length, get_or}
use Rattle.std.proofs.Common.{arith, ap, sym, ◌∙◌, append_assoc, length-append}
use Rattle.std.proofs.Math.Seq.{get_or-append_seam}
use Rattle.std.proofs.lemmas.Bool.{eqb-true, eq-eqb}
use Rattle.std.proofs.lemmas.List.{at_drop_more, length-take-le, take-append-drop, take_all}
use Rattle.std.proofs.lemmas.List.Elements.{filter-append}

-- the items that pass, at one that does
filter-at : {X : Type 0} (p : X → Bool) (xs : List X) (k : ℕ) (x : X) → k < length xs → x ≡ get_or xs k x → p x ≡ true
    → filter p xs ≡ filter p (take k xs) ++ x ∷ filter p (drop (k + 1) xs)
filter-at p xs k x within is passes =
    ap (filter p) (sym (take-append-drop k xs))
    ∙ filter-append p (take k xs) (drop k xs)
    ∙ ap (λ rest. filter p (take k xs) ++ rest)
    (at_drop_more (filter p) xs k x within
    ∙ ap (λ y. filter p (y ∷ drop (k + 1) xs)) (sym is)
    ∙ ap (λ b. cond b (x ∷ filter p (drop (k + 1) xs)) (filter p (drop (k + 1) xs))) passes)

-- the item behind the first ones of a list
pub record GoesOn {X : Type 0} (ys : List X) (next : ℕ) (x : X) : Type 0 where
  pub within : next < length ys
  pub is : (other : X) → get_or ys next other ≡ x

goes_on : {X : Type 0} (ys : List X) (next : ℕ) (x : X) (rest : List X) → next ≤ length ys → ys ≡ take next ys ++ x ∷ rest → GoesOn ys next x
goes_on ys next x rest most is =
    let front : length (take next ys) ≡ next = length-take-le next ys most in
    let long : length ys ≡ length (take next ys) + length (x ∷ rest) = ap length is ∙ length-append (take next ys) (x ∷ rest) in
    record {
      within = omega arith;
      is = λ other. ap (λ n. get_or ys n other) (sym front) ∙ ap (λ list. get_or list (length (take next ys)) other) is
          ∙ get_or-append_seam (take next ys) x rest other;
    }

-- where all that passed was matched with a list's first items, and the list begins with all that pass, it goes on with the next that passes
pub next-matched : {X : Type 0} (p : X → Bool) (xs ys rest : List X) (k next : ℕ) (x : X) → k < length xs → x ≡ get_or xs k x → p x ≡ true
    → next ≤ length ys → filter p (take k xs) ≡ take next ys → ys ≡ filter p xs ++ rest → GoesOn ys next x
next-matched p xs ys rest k next x within is passes most matched begins =
    goes_on ys next x (filter p (drop (k + 1) xs) ++ rest) most
    (begins
    ∙ ap (λ list. list ++ rest) (filter-at p xs k x within is passes)
    ∙ ap (λ list. (list ++ x ∷ filter p (drop (k + 1) xs)) ++ rest) matched
    ∙ append_assoc (take next ys) (x ∷ filter p (drop (k + 1) xs)) rest)

-- once all are matched, a list begins with them
pub all-begin : {X : Type 0} (p : X → Bool) (xs ys : List X) (k next : ℕ) → length xs ≤ k → filter p (take k xs) ≡ take next ys
    → ys ≡ filter p xs ++ drop next ys
all-begin p xs ys k next all matched =
    sym (take-append-drop next ys) ∙ ap (λ list. list ++ drop next ys) (sym matched ∙ ap (filter p) (take_all k xs all))

-- and is them where nothing is left
pub all-match : {X : Type 0} (p : X → Bool) (xs ys : List X) (k next : ℕ) → length xs ≤ k → next ≤ length ys → filter p (take k xs) ≡ take next ys
    → IsTrue (next == length ys) ↔ (filter p xs ≡ ys)
all-match p xs ys k next all most matched =
    let whole : filter p xs ≡ take next ys = ap (filter p) (sym (take_all k xs all)) ∙ matched in (
      λ is. let ends : next ≡ length ys = eqb-true _ _ is in whole ∙ take_all next ys (omega arith),
      λ is. eq-eqb _ _ (let long = ap length (sym whole ∙ is) in omega (arith, length-take-le next ys most, long)),
    )
