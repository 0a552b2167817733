-- Lists that are gone through from the front while others grow at the end.
use Rattle.std.specs.Prelude.{All}
use Rattle.std.proofs.Common.{◌≡◌, ℕ, ◌+◌, ◌<◌, List, [], ◌∷◌, ◌++◌, length, get_or, refl, sym, ap, subst, ◌∙◌, below_more, arith}
use Rattle.std.proofs.lemmas.List.{get_or_append_left, get_or-append-add, get_or_push, length-append}

-- what holds of all holds of those in front
pub front_all : {A : Type 0} (P : A → Type 0) (old new more : List A) → old ≡ new ++ more → All P old → All P new
front_all {A} P old new more is all k d below =
    let count : length old ≡ length new + length more = ap length is ∙ length-append new more in
    subst P (ap (λ (l : List A). get_or l k d) is ∙ get_or_append_left new more d k below) (all k d (omega arith))

-- and of the last
pub last_of : {A : Type 0} (P : A → Type 0) (old new : List A) (x : A) → old ≡ new ++ x ∷ [] → All P old → P x
last_of {A} P old new x is all =
    let count : length old ≡ length new + length (x ∷ []) = ap length is ∙ length-append new (x ∷ []) in
    let one : length (x ∷ []) ≡ 1 = refl in
    subst P (ap (λ (l : List A). get_or l (length new) x) is ∙ get_or_push new x x (length new) refl) (all (length new) x (omega arith))

-- what holds of each item by its place, once one more is there
pub pushed_each : {A : Type 0} (P : ℕ → A → Type 0) (n : ℕ) (old new : List A) (x : A) → length old ≡ n → new ≡ old ++ x ∷ []
    → ((k : ℕ) (d : A) → k < n → P k (get_or old k d)) → P n x
    → (k : ℕ) (d : A) → k < n + 1 → P k (get_or new k d)
pushed_each {A} P n old new x count is each here k d below =
    below_more (λ (i : ℕ). P i (get_or new i d)) n
    (λ i low. subst (P i) (sym (ap (λ (l : List A). get_or l i d) is ∙ get_or_append_left old (x ∷ []) d i (omega arith))) (each i d low))
    (subst (P n) (sym (ap (λ (l : List A). get_or l n d) is ∙ get_or_push old x d n count)) here)
    k below

-- what holds of each item by its place holds of the first
pub first_of : {A : Type 0} (P : ℕ → A → Type 0) (n m r : ℕ) (was rest : List A) (x : A) → was ≡ x ∷ rest → r + 1 ≡ m
    → ((k : ℕ) (d : A) → k < m → P (n + k) (get_or was k d)) → P n x
first_of {A} P n m r was rest x is count each =
    let there : P (n + 0) (get_or was 0 x) = each 0 x (omega arith) in
    let same : n + 0 ≡ n = omega arith in
    subst (λ (i : ℕ). P i x) same (subst (λ (l : List A). P (n + 0) (get_or l 0 x)) is there)

-- and of the others one place on
pub rest_of : {A : Type 0} (P : ℕ → A → Type 0) (n m r next : ℕ) (was rest : List A) (x : A) → was ≡ x ∷ rest → r + 1 ≡ m → next ≡ n + 1
    → ((k : ℕ) (d : A) → k < m → P (n + k) (get_or was k d))
    → (k : ℕ) (d : A) → k < r → P (next + k) (get_or rest k d)
rest_of {A} P n m r next was rest x is count on each k d below =
    let there : P (n + (1 + k)) (get_or was (1 + k) d) = each (1 + k) d (omega arith) in
    let same : n + (1 + k) ≡ next + k = omega arith in
    let it : get_or was (1 + k) d ≡ get_or rest k d = ap (λ (l : List A). get_or l (1 + k) d) is ∙ get_or-append-add (x ∷ []) rest k d in
    subst (λ (i : ℕ). P i (get_or rest k d)) same (subst (P (n + (1 + k))) it there)
