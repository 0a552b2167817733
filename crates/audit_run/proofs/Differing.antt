-- Where two lists differ first, one of them a map of a third.
use Rattle.std.proofs.Common.{◌≡◌, ℕ, zero, suc, ◌<◌, ◌≤◌, List, [], ◌∷◌, length, map, take, get_or, Some, None, refl, arith, ap, sym, ◌∙◌}
use Rattle.std.specs.Prelude.{slice_get}
use Rattle.std.proofs.lemmas.Option.{none-some}
use Rattle.audit_run.specs.replay.Replaying.{DifferFirst}

map-take : {A B : Type 0} (f : A → B) (xs : List A) (k : ℕ) → take k (map f xs) ≡ map f (take k xs)
map-take f [] zero = refl
map-take f [] (suc k) = refl
map-take f (x ∷ xs) zero = refl
map-take f (x ∷ xs) (suc k) = ap (λ rest. f x ∷ rest) (map-take f xs k)

get-at : {A : Type 0} (xs : List A) (k : ℕ) (x : A) → k < length xs → x ≡ get_or xs k x → slice_get xs k ≡ Some x
get-at [] k x within is = absurd (omega arith)
get-at (y ∷ ys) zero x within is = ap Some (sym is)
get-at (y ∷ ys) (suc k) x within is = get-at ys k x (omega arith) is

get-map : {A B : Type 0} (f : A → B) (xs : List A) (k : ℕ) (x : A) → k < length xs → x ≡ get_or xs k x → slice_get (map f xs) k ≡ Some (f x)
get-map f [] k x within is = absurd (omega arith)
get-map f (y ∷ ys) zero x within is = ap (λ z. Some (f z)) (sym is)
get-map f (y ∷ ys) (suc k) x within is = get-map f ys k x (omega arith) is

get-past : {A : Type 0} (xs : List A) (k : ℕ) → length xs ≤ k → slice_get xs k ≡ None
get-past [] k past = refl
get-past (x ∷ xs) zero past = absurd (omega arith)
get-past (x ∷ xs) (suc k) past = get-past xs k (omega arith)

get-past-map : {A B : Type 0} (f : A → B) (xs : List A) (k : ℕ) → length xs ≤ k → slice_get (map f xs) k ≡ None
get-past-map f [] k past = refl
get-past-map f (x ∷ xs) zero past = absurd (omega arith)
get-past-map f (x ∷ xs) (suc k) past = get-past-map f xs k (omega arith)

get-some : {A : Type 0} (xs : List A) (k : ℕ) → k < length xs → (x : A) × (slice_get xs k ≡ Some x)
get-some [] k within = absurd (omega arith)
get-some (x ∷ xs) zero within = (x, refl)
get-some (x ∷ xs) (suc k) within = get-some xs k (omega arith)

-- the other list ends before an item
pub ends-before : {A B : Type 0} (f : A → B) (xs : List A) (ys : List B) (k : ℕ) (x : A) → k < length xs → x ≡ get_or xs k x → length ys ≤ k
    → map f (take k xs) ≡ take k ys → DifferFirst k (map f xs) ys
ends-before f xs ys k x within is ends alike = record {
  alike = map-take f xs k ∙ alike;
  differ = λ same. none-some (f x) (sym (get-past ys k ends) ∙ sym same ∙ get-map f xs k x within is);
}

-- or has another
pub has-another : {A B : Type 0} (f : A → B) (xs : List A) (ys : List B) (k : ℕ) (x : A) (y : B) → k < length xs → x ≡ get_or xs k x
    → k < length ys → y ≡ get_or ys k y → (f x ≡ y → ⊥) → map f (take k xs) ≡ take k ys → DifferFirst k (map f xs) ys
has-another f xs ys k x y within is there its other alike = record {
  alike = map-take f xs k ∙ alike;
  differ = λ same. let both : Some (f x) ≡ Some y = sym (get-map f xs k x within is) ∙ same ∙ get-at ys k y there its in other cc;
}

-- or goes on past the end of the first
pub goes-past : {A B : Type 0} (f : A → B) (xs : List A) (ys : List B) (k : ℕ) → length xs ≤ k → k < length ys
    → map f (take k xs) ≡ take k ys → DifferFirst k (map f xs) ys
goes-past f xs ys k ends there alike =
    let more = get-some ys k there in
    record {
      alike = map-take f xs k ∙ alike;
      differ = λ same. none-some more.0 (sym (get-past-map f xs k ends) ∙ same ∙ more.1);
    }
