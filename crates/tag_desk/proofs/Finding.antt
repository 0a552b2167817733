-- The first of some seats with a number, and what is found when one is taken out or changed. Cited by the steps of `close`.
use Rattle.std.proofs.Common.{◌≡◌, ◌≢◌, ℕ, zero, suc, ◌<◌, ◌==◌, List, [], ◌∷◌, length, set, get_or, sym, refl, ap, subst, ◌∙◌, ⊎_elim, inl, inr, arith}
use Rattle.std.proofs.Common.{All, if◌then◌else◌, eq-eqb, ne_eqb}
use mathlib.Core.Logic.{dite}
use native.Mathlib.Decide.{ℕ_discrete}
use Rattle.std.specs.List.{remove}
use Rattle.tag_desk.specs.Seats.{MadeDesk, Customer, Server}
use Rattle.tag_desk.specs.Left.{numbered, HasNumber, IsFirst, IsAllClientsOf, IsAllPumpsOf, HasEachClientOf, HasEachPumpOf, client_number, pump_number, no_customer, no_server}

-- what has the number stands somewhere
pub place_of : {A : Type 0} (number : A → ℕ) (xs : List A) (n : ℕ) → HasNumber number xs n
    → (k : ℕ) × (k < length xs) × ((d : A) → number (get_or xs k d) ≡ n)
place_of number [] n has = absurd has
place_of number (x ∷ xs) n has =
    ⊎_elim (λ (e : number x ≡ n). (0, omega arith, λ d. e)) (λ more.
    let rest = place_of number xs n more in
    (suc rest.0, let within = rest.1 in omega arith, rest.2)) has

pub number_at : {A : Type 0} (number : A → ℕ) (xs : List A) (n k : ℕ) (d : A) → k < length xs → number (get_or xs k d) ≡ n → HasNumber number xs n
number_at number [] n k d within is = absurd (omega arith)
number_at number (x ∷ xs) n zero d within is = inl is
number_at number (x ∷ xs) n (suc k) d within is = inr (number_at number xs n k d (omega arith) is)

if_same : {A : Type 0} (m n : ℕ) (x y : A) → m ≡ n → (if m == n then x else y) ≡ x
if_same m n x y e = ap (λ b. if b then x else y) (eq-eqb m n e)

if_else : {A : Type 0} (m n : ℕ) (x y : A) → m ≢ n → (if m == n then x else y) ≡ y
if_else m n x y e = ap (λ b. if b then x else y) (ne_eqb m n e)

later : {A : Type 0} (number : A → ℕ) (x : A) (xs : List A) (n k : ℕ) → IsFirst number (x ∷ xs) n (suc k) → IsFirst number xs n k
later number x xs n k first = record {
  within = let h = first.within in omega arith;
  is = first.is;
  before = λ j d below. first.before (suc j) d (omega arith);
}

-- the one at the first place is what is found
pub first_found : {A : Type 0} (number : A → ℕ) (xs : List A) (n k : ℕ) (none d : A) → IsFirst number xs n k
    → numbered number xs n none ≡ get_or xs k d
first_found number [] n k none d first = absurd (let h = first.within in omega arith)
first_found number (x ∷ xs) n zero none d first = if_same (number x) n x _ (first.is d)
first_found number (x ∷ xs) n (suc k) none d first =
    if_else (number x) n x _ (first.before 0 d (omega arith)) ∙ first_found number xs n k none d (later number x xs n k first)

-- without it the others are found as before
pub found_without : {A : Type 0} (number : A → ℕ) (xs : List A) (n m k : ℕ) (none : A) → IsFirst number xs n k → m ≢ n
    → numbered number (remove xs k) m none ≡ numbered number xs m none
found_without number [] n m k none first other = absurd (let h = first.within in omega arith)
found_without number (x ∷ xs) n m zero none first other =
    sym (if_else (number x) m x _ (λ (e : number x ≡ m). other (sym e ∙ first.is x)))
found_without number (x ∷ xs) n m (suc k) none first other =
    ap (λ y. if number x == m then x else y) (found_without number xs n m k none (later number x xs n k first) other)

pub has_without : {A : Type 0} (number : A → ℕ) (xs : List A) (n m k : ℕ) → IsFirst number xs n k → m ≢ n → HasNumber number xs m
    → HasNumber number (remove xs k) m
has_without number [] n m k first other has = absurd has
has_without number (x ∷ xs) n m zero first other has =
    ⊎_elim (λ (e : number x ≡ m). absurd (other (sym e ∙ first.is x))) (λ more. more) has
has_without number (x ∷ xs) n m (suc k) first other has =
    ⊎_elim (λ (e : number x ≡ m). inl e) (λ more. inr (has_without number xs n m k (later number x xs n k first) other more)) has

-- once it is changed, but for its number, it is found changed, and the others as before
pub found_set : {A : Type 0} (number : A → ℕ) (xs : List A) (n k : ℕ) (none y : A) → IsFirst number xs n k → number y ≡ n
    → numbered number (set xs k y) n none ≡ y
found_set number [] n k none y first is = absurd (let h = first.within in omega arith)
found_set number (x ∷ xs) n zero none y first is = if_same (number y) n y _ is
found_set number (x ∷ xs) n (suc k) none y first is =
    if_else (number x) n x _ (first.before 0 x (omega arith)) ∙ found_set number xs n k none y (later number x xs n k first) is

pub found_beside : {A : Type 0} (number : A → ℕ) (xs : List A) (n m k : ℕ) (none y : A) → IsFirst number xs n k → number y ≡ n → m ≢ n
    → numbered number (set xs k y) m none ≡ numbered number xs m none
found_beside number [] n m k none y first is other = refl
found_beside number (x ∷ xs) n m zero none y first is other =
    if_else (number y) m y _ (λ (e : number y ≡ m). other (sym e ∙ is))
    ∙ sym (if_else (number x) m x _ (λ (e : number x ≡ m). other (sym e ∙ first.is x)))
found_beside number (x ∷ xs) n m (suc k) none y first is other =
    ap (λ z. if number x == m then x else z) (found_beside number xs n m k none y (later number x xs n k first) is other)

pub has_set : {A : Type 0} (number : A → ℕ) (xs : List A) (n m k : ℕ) (y : A) → IsFirst number xs n k → number y ≡ n → HasNumber number xs m
    → HasNumber number (set xs k y) m
has_set number [] n m k y first is has = absurd has
has_set number (x ∷ xs) n m zero y first is has =
    ⊎_elim (λ (e : number x ≡ m). inl (is ∙ sym (first.is x) ∙ e)) (λ more. inr more) has
has_set number (x ∷ xs) n m (suc k) y first is has =
    ⊎_elim (λ (e : number x ≡ m). inl e) (λ more. inr (has_set number xs n m k y (later number x xs n k first) is more)) has

-- what holds of all holds of the one that is found
pub found_all : {A : Type 0} (number : A → ℕ) (P : A → Type 0) (xs : List A) (n : ℕ) (none : A) → All P xs → HasNumber number xs n
    → P (numbered number xs n none) × (number (numbered number xs n none) ≡ n)
found_all {A = A} number P [] n none all has = absurd has
found_all {A = A} number P (x ∷ xs) n none all has =
    dite (ℕ_discrete (number x) n)
    (λ (e : number x ≡ n).
    subst (λ (y : A). P y × (number y ≡ n)) (sym (if_same (number x) n x (numbered number xs n none) e)) (all 0 x (omega arith), e))
    (λ (e : number x ≢ n).
    subst (λ (y : A). P y × (number y ≡ n)) (sym (if_else (number x) n x (numbered number xs n none) e))
    (found_all number P xs n none (λ k d within. all (suc k) d (omega arith)) (⊎_elim (λ (same : number x ≡ n). absurd (e same)) (λ more. more) has)))

-- seats in order are each there
pub clients_in_order : (desk : MadeDesk) (seats : List Customer) → IsAllClientsOf desk seats → HasEachClientOf desk seats
clients_in_order desk seats all =
    let count = all.count in
    record {
      own = λ k d within. all.own k d (omega arith);
      there = λ c below. number_at client_number seats c c no_customer (omega arith) (all.order c _ below);
    }

pub pumps_in_order : (desk : MadeDesk) (seats : List Server) → IsAllPumpsOf desk seats → HasEachPumpOf desk seats
pumps_in_order desk seats all =
    let count = all.count in
    record {
      own = λ k d within. all.own k d (omega arith);
      there = λ p below. number_at pump_number seats p p no_server (omega arith) (all.order p _ below);
    }
