-- Descriptors of bytes, one step at a time.
use Rattle.std.proofs.Common.{◌≡◌, ℕ, zero, suc, ◌+◌, ◌≤◌, ◌==◌, ◌&&◌, ◌||◌, Bool, true, false, cond, List, [], ◌∷◌, length, refl, sym, ap, ◌∙◌, arith}
use Rattle.std.specs.Prelude.{nat_le}
use Rattle.std.proofs.lemmas.Bool.{and_parts, leb-true}
use Rattle.std.proofs.lemmas.Bool.Decides.{nat_tests}
use Rattle.std.proofs.lemmas.List.{length-append, length-drop, length-take}
use Rattle.usb_descriptors.specs.Cutting.{behind, descriptors, descriptors_within, front, is_cut, is_front, joined, kind_of, least_length, told_length}

-- what is known where a descriptor stands at the front
pub record HasFront (bytes : List ℕ) : Type 0 where
  pub some : 2 ≤ length bytes
  pub two : 2 ≤ told_length bytes
  pub least : least_length (kind_of bytes) ≤ told_length bytes
  pub within : told_length bytes ≤ length bytes
  pub shorter : length (behind bytes) + told_length bytes ≡ length bytes
  pub size : length (front bytes) ≡ told_length bytes

pub two_least : (configuration endpoint companion : Bool) → 2 ≤ cond configuration 9 (cond endpoint 7 (cond companion 6 2))
two_least true e c = omega arith
two_least false true c = omega arith
two_least false false true = omega arith
two_least false false false = omega arith

pub front_there : (bytes : List ℕ) → is_front bytes ≡ true → HasFront bytes
unfolding is_front
front_there bytes e =
    let outer = and_parts (nat_le 2 (length bytes) && nat_le (least_length (kind_of bytes)) (told_length bytes)) (nat_le (told_length bytes) (length bytes)) e in
    let inner = and_parts (nat_le 2 (length bytes)) (nat_le (least_length (kind_of bytes)) (told_length bytes)) outer.0 in
    let some : 2 ≤ length bytes = leb-true _ _ inner.0 in
    let least : least_length (kind_of bytes) ≤ told_length bytes = leb-true _ _ inner.1 in
    let within : told_length bytes ≤ length bytes = leb-true _ _ outer.1 in
    let two : 2 ≤ least_length (kind_of bytes) = two_least (kind_of bytes == 2 || kind_of bytes == 4) (kind_of bytes == 5) (kind_of bytes == 0x30) in
    record {
      some = some;
      two = omega (arith, two, least);
      least = least;
      within = within;
      shorter = omega (arith, length-drop (told_length bytes) bytes, within);
      size = omega (arith, length-take (told_length bytes) bytes, within);
    }

-- HOW MANY ARE ALLOWED DOESN'T MATTER

pub absent : (n : ℕ) (bytes : List ℕ) → is_front bytes ≡ false → descriptors_within n bytes ≡ []
unfolding descriptors_within
absent zero bytes e = refl
absent (suc n) bytes e = rw e refl

pub first_of : (n : ℕ) (bytes : List ℕ) → is_front bytes ≡ true → descriptors_within (suc n) bytes ≡ front bytes ∷ descriptors_within n (behind bytes)
unfolding descriptors_within
first_of n bytes e = rw e refl

enough : (n m : ℕ) (bytes : List ℕ) → length bytes ≤ n → length bytes ≤ m → descriptors_within n bytes ≡ descriptors_within m bytes
enough zero m bytes few enough' = by_front (is_front bytes) refl
  where
    by_front : (b : Bool) → is_front bytes ≡ b → descriptors_within zero bytes ≡ descriptors_within m bytes
    by_front true e = absurd (omega (arith, (front_there bytes e).some, few))
    by_front false e = absent zero bytes e ∙ sym (absent m bytes e)
enough (suc n) zero bytes few enough' = by_front (is_front bytes) refl
  where
    by_front : (b : Bool) → is_front bytes ≡ b → descriptors_within (suc n) bytes ≡ descriptors_within zero bytes
    by_front true e = absurd (omega (arith, (front_there bytes e).some, enough'))
    by_front false e = absent (suc n) bytes e ∙ sym (absent zero bytes e)
enough (suc n) (suc m) bytes few enough' = by_front (is_front bytes) refl (enough n m (behind bytes))
  where
    by_front : (b : Bool) → is_front bytes ≡ b
        → (length (behind bytes) ≤ n → length (behind bytes) ≤ m → descriptors_within n (behind bytes) ≡ descriptors_within m (behind bytes))
        → descriptors_within (suc n) bytes ≡ descriptors_within (suc m) bytes
    by_front true e more =
        let there = front_there bytes e in
        first_of n bytes e
        ∙ ap (λ (ds : List (List ℕ)). front bytes ∷ ds) (more (omega (arith, there.shorter, there.two, few)) (omega (arith, there.shorter, there.two, enough')))
        ∙ sym (first_of m bytes e)
    by_front false e more = absent (suc n) bytes e ∙ sym (absent (suc m) bytes e)

pub no_descriptors : (bytes : List ℕ) → is_front bytes ≡ false → descriptors bytes ≡ []
unfolding descriptors
no_descriptors bytes e = absent (length bytes) bytes e

pub next_descriptors : (bytes : List ℕ) → is_front bytes ≡ true → descriptors bytes ≡ front bytes ∷ descriptors (behind bytes)
unfolding descriptors
next_descriptors bytes e = by_length (length bytes) refl
  where
    by_length : (n : ℕ) → length bytes ≡ n → descriptors_within (length bytes) bytes ≡ front bytes ∷ descriptors_within (length (behind bytes)) (behind bytes)
    by_length zero none = absurd (omega (arith, (front_there bytes e).some, none))
    by_length (suc n) some =
        let there = front_there bytes e in
        ap (λ n. descriptors_within n bytes) some ∙ first_of n bytes e
        ∙ ap (λ (ds : List (List ℕ)). front bytes ∷ ds)
        (enough n (length (behind bytes)) (behind bytes) (omega (arith, there.shorter, there.two, some)) (omega arith))

-- NOTHING IS LEFT

same_less : (front a b x y : ℕ) → a ≡ front + x → b ≡ front + y → (a == b) ≡ (x == y)
same_less front a b x y p q = grind (arith, nat_tests)

pub cut_behind : (bytes : List ℕ) → is_front bytes ≡ true → is_cut bytes ≡ is_cut (behind bytes)
unfolding is_cut
cut_behind bytes e =
    let there = front_there bytes e in
    same_less (told_length bytes) (length bytes) (length (joined (descriptors bytes))) (length (behind bytes)) (length (joined (descriptors (behind bytes))))
    (omega (arith, there.shorter))
    (ap (λ (ds : List (List ℕ)). length (joined ds)) (next_descriptors bytes e)
    ∙ length-append (front bytes) (joined (descriptors (behind bytes)))
    ∙ ap (λ n. n + length (joined (descriptors (behind bytes)))) there.size)

pub cut_end : (bytes : List ℕ) → is_front bytes ≡ false → is_cut bytes ≡ (length bytes == 0)
unfolding is_cut
cut_end bytes e = ap (λ (ds : List (List ℕ)). length bytes == length (joined ds)) (no_descriptors bytes e)
