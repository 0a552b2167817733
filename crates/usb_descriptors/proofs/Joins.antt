-- Bytes cut and joined, and descriptors joined and cut.
use Rattle.std.proofs.Common.{◌≡◌, ℕ, zero, suc, ◌+◌, ◌≤◌, ◌==◌, ◌&&◌, ◌||◌, Bool, true, false, List, [], ◌∷◌, ◌++◌, length, take, drop, refl, sym, ap, ◌∙◌, arith}
use Rattle.std.specs.Prelude.{nat_le}
use Rattle.std.proofs.lemmas.Bool.{eq-eqb, eqb-true, le-leb}
use Rattle.std.proofs.lemmas.Grind.{common_steps}
use Rattle.std.proofs.lemmas.List.{drop_at, length-append, nil_from_length, take_at, take-append-drop}
use Rattle.usb_descriptors.specs.Cutting.{EachDescriptor, IsDescriptor, behind, descriptors, descriptors_within, front, is_cut, is_front, joined, kind_of, least_length, told_length}
use Rattle.usb_descriptors.proofs.Cuts.{absent, first_of, front_there, next_descriptors, two_least}

-- WHAT IS CUT

front_is : (bytes : List ℕ) → is_front bytes ≡ true → IsDescriptor (front bytes)
front_is bytes e =
    let there = front_there bytes e in
    let told : told_length (front bytes) ≡ told_length bytes = grind (arith, common_steps) in
    let kind : kind_of (front bytes) ≡ kind_of bytes = grind (arith, common_steps) in
    record { told = told ∙ sym there.size; least = rw (kind, there.size) there.least }

each_is : (n : ℕ) (bytes : List ℕ) → EachDescriptor (descriptors_within n bytes)
unfolding descriptors_within
each_is zero bytes = tt
each_is (suc n) bytes = by_front (is_front bytes) refl (each_is n (behind bytes))
  where
    by_front : (b : Bool) → is_front bytes ≡ b → EachDescriptor (descriptors_within n (behind bytes)) → EachDescriptor (descriptors_within (suc n) bytes)
    by_front true e more = rw e (front_is bytes e, more)
    by_front false e more = rw e tt

all_joined : (n : ℕ) (bytes : List ℕ) → length bytes ≡ length (joined (descriptors_within n bytes)) → joined (descriptors_within n bytes) ≡ bytes
unfolding descriptors_within
all_joined zero bytes e = sym (nil_from_length bytes e)
all_joined (suc n) bytes same = by_front (is_front bytes) refl (all_joined n (behind bytes))
  where
    by_front : (b : Bool) → is_front bytes ≡ b
        → (length (behind bytes) ≡ length (joined (descriptors_within n (behind bytes))) → joined (descriptors_within n (behind bytes)) ≡ behind bytes)
        → joined (descriptors_within (suc n) bytes) ≡ bytes
    by_front true e more =
        let there = front_there bytes e in
        let step = first_of n bytes e in
        let total : length bytes ≡ told_length bytes + length (joined (descriptors_within n (behind bytes))) =
        same ∙ ap (λ (ds : List (List ℕ)). length (joined ds)) step
        ∙ length-append (front bytes) (joined (descriptors_within n (behind bytes)))
        ∙ ap (λ k. k + length (joined (descriptors_within n (behind bytes)))) there.size in
        ap joined step ∙ ap (λ (rest : List ℕ). front bytes ++ rest) (more (omega (arith, total, there.shorter)))
        ∙ take-append-drop (told_length bytes) bytes
    by_front false e more =
        let none = absent (suc n) bytes e in
        ap joined none ∙ sym (nil_from_length bytes (same ∙ ap (λ (ds : List (List ℕ)). length (joined ds)) none))

pub cut_joins : (bytes : List ℕ) → is_cut bytes ≡ true → (joined (descriptors bytes) ≡ bytes) × EachDescriptor (descriptors bytes)
unfolding is_cut descriptors
cut_joins bytes cut =
    (all_joined (length bytes) bytes (eqb-true (length bytes) (length (joined (descriptors bytes))) cut), each_is (length bytes) bytes)

-- WHAT IS JOINED

both : (a b c : Bool) → a ≡ true → b ≡ true → c ≡ true → (a && b && c) ≡ true
both a b c p q r = rw (p, q, r) refl

record Stands (d rest : List ℕ) : Type 0 where
  there : is_front (d ++ rest) ≡ true
  front_d : front (d ++ rest) ≡ d
  behind_d : behind (d ++ rest) ≡ rest

stands : (d rest : List ℕ) → IsDescriptor d → Stands d rest
unfolding is_front
stands d rest is =
    let two : 2 ≤ least_length (kind_of d) = two_least (kind_of d == 2 || kind_of d == 4) (kind_of d == 5) (kind_of d == 0x30) in
    let some : 2 ≤ length d = omega (arith, two, is.least) in
    let size = length-append d rest in
    let told : told_length (d ++ rest) ≡ length d = let same : told_length (d ++ rest) ≡ told_length d = grind (arith, common_steps) in same ∙ is.told in
    let kind : kind_of (d ++ rest) ≡ kind_of d = grind (arith, common_steps) in
    record {
      there =
          both _ _ _ (le-leb 2 (length (d ++ rest)) (omega (arith, some, size)))
          (ap (λ k. nat_le (least_length k) (told_length (d ++ rest))) kind ∙ le-leb (least_length (kind_of d)) (told_length (d ++ rest)) (omega (arith, told, is.least)))
          (le-leb (told_length (d ++ rest)) (length (d ++ rest)) (omega (arith, told, size)));
      front_d = ap (λ n. take n (d ++ rest)) told ∙ take_at d rest (length d) refl;
      behind_d = ap (λ n. drop n (d ++ rest)) told ∙ drop_at d rest (length d) refl;
    }

no_bytes : descriptors [] ≡ []
unfolding descriptors descriptors_within
no_bytes = refl

again : (ds : List (List ℕ)) → EachDescriptor ds → descriptors (joined ds) ≡ ds
again [] each = no_bytes
again (d ∷ ds) each =
    let it = stands d (joined ds) each.0 in
    next_descriptors (d ++ joined ds) it.there ∙ ap (λ (front : List ℕ). front ∷ descriptors (behind (d ++ joined ds))) it.front_d
    ∙ ap (λ (rest : List ℕ). d ∷ descriptors rest) it.behind_d ∙ ap (λ (rest : List (List ℕ)). d ∷ rest) (again ds each.1)

pub joined_cut : (ds : List (List ℕ)) → EachDescriptor ds → (descriptors (joined ds) ≡ ds) × (is_cut (joined ds) ≡ true)
unfolding is_cut
joined_cut ds each =
    let same = again ds each in
    (same, eq-eqb (length (joined ds)) (length (joined (descriptors (joined ds)))) (ap (λ (those : List (List ℕ)). length (joined those)) (sym same)))
