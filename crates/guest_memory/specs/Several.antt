-- Laws of what several pieces hold.
use Rattle.std.proofs.Common.{◌≡◌, ℕ, zero, suc, ◌+◌, ◌^◌, ◌<◌, true, List, [], ◌∷◌, length, take, set, slice_get, refl, sym, ap, ◌∙◌, inl, inr}
use Rattle.std.proofs.Math.Path.{fun_ext}
use Rattle.std.proofs.lemmas.Bool.{false≢true, cases_lt}
use Rattle.std.proofs.lemmas.Option.{slice_get-get_or, none-some, same_Some}
use Rattle.std.specs.Prelude.{Option, Some, None, is_some}
use Rattle.std.specs.Option.{option_or}
use Rattle.std.specs.List.{AllByRecursion}
use Rattle.guest_memory.specs.Held.{held, Misses}
use Rattle.guest_memory.specs.Bytes.{Memory, written, IsWithinAddresses}
use Rattle.guest_memory.specs.Ranges.{range_cases, written_ahead, written_beside}

-- a byte that is there comes first
first_of : (m rest : Option ℕ) → is_some m ≡ true → option_or m rest ≡ m
first_of None rest there = absurd (false≢true there)
first_of (Some b) rest there = refl

-- a change of the first of two memories that has the range, and of the second
by_range : (at : ℕ) (bytes : List ℕ) (m rest : Memory) (a : ℕ)
    → option_or (written m at bytes a) (rest a) ≡ written (λ x. option_or (m x) (rest x)) at bytes a
by_range at bytes m rest a = elim (range_cases at (length bytes) a) [
  | inl inside ↦
      let byte = slice_get-get_or bytes inside.0 0 inside.1 in
      rw (inside.2, written_ahead m at bytes inside.0 inside.1, byte) (sym (written_ahead (λ x. option_or (m x) (rest x)) at bytes inside.0 inside.1 ∙ byte))
  | inr outside ↦ rw (written_beside m at bytes a outside) (sym (written_beside (λ x. option_or (m x) (rest x)) at bytes a outside))
]

beside : (at : ℕ) (bytes : List ℕ) (m rest : Memory) (a : ℕ) → ((k : ℕ) → k < length bytes → m (at + k) ≡ None)
    → option_or (m a) (written rest at bytes a) ≡ written (λ x. option_or (m x) (rest x)) at bytes a
beside at bytes m rest a misses = elim (range_cases at (length bytes) a) [
  | inl inside ↦ rw (inside.2, misses inside.0 inside.1, written_ahead rest at bytes inside.0 inside.1)
      (sym (written_ahead (λ x. option_or (m x) (rest x)) at bytes inside.0 inside.1))
  | inr outside ↦ rw (written_beside rest at bytes a outside) (sym (written_beside (λ x. option_or (m x) (rest x)) at bytes a outside))
]

module _ {P : Type 0} (part : P → Memory) where
  pub held_ends : ((piece : P) → IsWithinAddresses (part piece)) → (pieces : List P) → IsWithinAddresses (held part pieces)
  unfolding held
  held_ends ends [] a past = refl
  held_ends ends (piece ∷ pieces) a past = rw (ends piece a past) (held_ends ends pieces a past)

  -- where all pieces miss a range
  pub held_none : (pieces : List P) (at n k : ℕ) → AllByRecursion (Misses part at n) pieces → k < n → held part pieces (at + k) ≡ None
  unfolding held
  held_none [] at n k all below = refl
  held_none (piece ∷ pieces) at n k all below = rw (all.0 k below) (held_none pieces at n k all.1 below)

  -- what the first piece holds that doesn't miss it
  pub held_here : (pieces : List P) (i at n k : ℕ) (piece : P) → slice_get pieces i ≡ Some piece
      → AllByRecursion (Misses part at n) (take i pieces) → is_some (part piece (at + k)) ≡ true → k < n → held part pieces (at + k) ≡ part piece (at + k)
  unfolding held
  held_here [] i at n k piece is before there below = absurd (none-some piece is)
  held_here (first ∷ pieces) zero at n k piece is before there below =
      let same : first ≡ piece = same_Some first piece is in
      rw same (first_of (part piece (at + k)) (held part pieces (at + k)) there)
  held_here (first ∷ pieces) (suc i) at n k piece is before there below =
      rw (before.0 k below) (held_here pieces i at n k piece is before.1 there below)

  -- and what all hold once it has changed there
  changed_at : (pieces : List P) (i at : ℕ) (bytes : List ℕ) (old new : P) (a : ℕ) → slice_get pieces i ≡ Some old
      → AllByRecursion (Misses part at (length bytes)) (take i pieces) → part new ≡ written (part old) at bytes
      → held part (set pieces i new) a ≡ written (held part pieces) at bytes a
  unfolding held
  changed_at [] i at bytes old new a is before change = absurd (none-some old is)
  changed_at (first ∷ pieces) zero at bytes old new a is before change =
      let same : first ≡ old = same_Some first old is in
      let here : part new a ≡ written (part old) at bytes a = ap (λ m. m a) change in
      rw (here, same) (by_range at bytes (part old) (held part pieces) a)
  changed_at (first ∷ pieces) (suc i) at bytes old new a is before change =
      rw (changed_at pieces i at bytes old new a is before.1 change) (beside at bytes (part first) (held part pieces) a before.0)

  pub changed : (pieces : List P) (i at : ℕ) (bytes : List ℕ) (old new : P) → slice_get pieces i ≡ Some old
      → AllByRecursion (Misses part at (length bytes)) (take i pieces) → part new ≡ written (part old) at bytes
      → held part (set pieces i new) ≡ written (held part pieces) at bytes
  changed pieces i at bytes old new is before change = fun_ext (λ a. changed_at pieces i at bytes old new a is before change)

  pub below_end : ((piece : P) → IsWithinAddresses (part piece)) → (pieces : List P) (a : ℕ) → is_some (held part pieces a) ≡ true → a < 2 ^ 64
  below_end ends pieces a there = elim (cases_lt a (2 ^ 64)) [
    | inl below ↦ below
    | inr past ↦ absurd (false≢true (sym (ap is_some (held_ends ends pieces a past)) ∙ there))
  ]
