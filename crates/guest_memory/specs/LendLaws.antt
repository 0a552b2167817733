-- Laws of lent bytes.
use Rattle.std.proofs.Common.{◌≡◌, ℕ, ◌+◌, ◌-◌, ◌^◌, ◌<◌, ◌≤◌, true, List, length, slice_get, refl, ap, ◌∙◌, arith, inl, inr}
use Rattle.std.proofs.Math.Path.{fun_ext}
use Rattle.std.proofs.lemmas.Bool.{le-leb, lt-leb, cases_lt, lt-ltb, le-ltb}
use Rattle.std.proofs.lemmas.Option.{slice_get_past, slice_get-get_or}
use Rattle.std.specs.Prelude.{is_some}
use Rattle.guest_memory.specs.declared.lend.Lent.{Lent}
use Rattle.guest_memory.specs.Lend.{lent_in, HasAll}
use Rattle.guest_memory.specs.Held.{Misses}
use Rattle.guest_memory.specs.Bytes.{written, IsWithinAddresses}

pub lent_ends : (lent : Lent) → IsWithinAddresses (lent_in lent)
unfolding lent_in
lent_ends lent a past = elim (cases_lt a lent.base) [
  | inl before ↦ rw (lt-leb lent.base a before) refl
  | inr from ↦ rw (le-leb lent.base a from, le-ltb a (2 ^ 64) past) refl
]

pub read_part : (lent : Lent) (at n k : ℕ) → HasAll lent at n → k < n → lent_in lent (at + k) ≡ slice_get lent.bytes.now (at - lent.base + k)
unfolding lent_in
read_part lent at n k all below =
    let e : at + k - lent.base ≡ at - lent.base + k = omega (arith, all.0) in
    rw (le-leb lent.base (at + k) (omega (arith, all.0)), lt-ltb (at + k) (2 ^ 64) (omega (arith, all.2)), e) refl

pub part_there : (lent : Lent) (at n k : ℕ) → HasAll lent at n → k < n → is_some (lent_in lent (at + k)) ≡ true
part_there lent at n k all below =
    ap is_some (read_part lent at n k all below ∙ slice_get-get_or lent.bytes.now (at - lent.base + k) 0 (omega (arith, all.0, all.1)))

pub misses_before : (at n : ℕ) (lent : Lent) → at < lent.base → n ≤ lent.base - at → Misses lent_in at n lent
unfolding lent_in
misses_before at n lent before short k below = rw (lt-leb lent.base (at + k) (omega arith)) refl

pub misses_behind : (at n : ℕ) (lent : Lent) → lent.base ≤ at → length lent.bytes.now ≤ at - lent.base → Misses lent_in at n lent
unfolding lent_in
misses_behind at n lent from past k below = elim (cases_lt (at + k) (2 ^ 64)) [
  | inl inside ↦ rw (le-leb lent.base (at + k) (omega arith), lt-ltb (at + k) (2 ^ 64) inside)
      (slice_get_past lent.bytes.now (at + k - lent.base) (omega arith))
  | inr end ↦ lent_ends lent (at + k) end
]

-- what is lent once its bytes have changed
pub write_part : (at : ℕ) (bytes : List ℕ) (old new : Lent) → HasAll old at (length bytes) → new.base ≡ old.base
    → slice_get new.bytes.now ≡ written (slice_get old.bytes.now) (at - old.base) bytes → lent_in new ≡ written (lent_in old) at bytes
unfolding lent_in written
write_part at bytes old new all base change = fun_ext (λ a. elim (cases_lt a old.base) [
  | inl before ↦ rw (base, lt-leb old.base a before, lt-leb at a (omega (arith, all.0))) refl
  | inr from ↦ rw (base, le-leb old.base a from, change) (elim (cases_lt a at) [
    | inl before ↦ rw (lt-leb at a before, lt-leb (at - old.base) (a - old.base) (omega (arith, all.0))) refl
    | inr behind ↦
        let e : a - old.base - (at - old.base) ≡ a - at = omega (arith, all.0) in
        elim (cases_lt a (at + length bytes)) [
          | inl below ↦ rw (
            lt-ltb a (2 ^ 64) (omega (arith, all.2)),
            le-leb at a behind,
            lt-ltb a (at + length bytes) below,
            le-leb (at - old.base) (a - old.base) (omega (arith, all.0)),
            lt-ltb (a - old.base) (at - old.base + length bytes) (omega (arith, all.0)),
            e,
          ) refl
          | inr past ↦ rw (
            le-leb at a behind,
            le-ltb a (at + length bytes) past,
            le-leb (at - old.base) (a - old.base) (omega (arith, all.0)),
            le-ltb (a - old.base) (at - old.base + length bytes) (omega (arith, all.0)),
          ) refl
        ]
  ])
])
