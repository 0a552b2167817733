-- An address and the item that it names.
use Rattle.std.proofs.Common.{◌≡◌, ℕ, ◌+◌, ◌-◌, ◌*◌, ◌/◌, ◌%◌, ◌<◌, ◌≤◌, ◌==◌, Some, None, nat_lt, nat_le, refl, arith, inl, inr, if◌then◌else◌}
use Rattle.std.proofs.Math.Nat.{mod-lt, div-add-mod}
use Rattle.std.proofs.lemmas.Nat.{div-mul-add, mod-mul-add}
use Rattle.std.proofs.lemmas.Bool.{le-ltb, lt-leb, le-leb, ltb-false, leb-false, eqb-true, cases_Bool}
use Rattle.cycle_ring.specs.Ring.{RingOf, place_of, pointer_of, consumed_at, item_at, item_in, AddressesNameItemsOf, NamedItemsHaveAddressesOf}
use Rattle.ring_ends.specs.EndLaws.{distance-ahead, distance-place}

-- the address of an item names it
pub item_at-pointer_of : {A : Type 0} → AddressesNameItemsOf A
item_at-pointer_of n k r places below =
    let turn : 0 < n - 1 = omega arith in
    let within : (r.at + k) % (n - 1) < n - 1 = mod-lt (r.at + k) turn in
    let offset : r.base + 16 * place_of n r k - r.base ≡ place_of n r k * 16 + 0 = omega arith in
    rw (
      le-ltb (pointer_of n r k) r.base (omega arith),
      offset,
      mod-mul-add (place_of n r k) 16 0 (omega arith),
      div-mul-add (place_of n r k) 16 0 (omega arith),
      lt-leb (n - 1) (place_of n r k) within,
      distance-ahead (n - 1) r.at k below,
    ) refl

-- what is left of an address's three tests
only_inside : {A : Type 0} (n k offset : ℕ) (r : RingOf A) → 0 < n - 1 → offset % 16 ≡ 0
    → (if nat_le (n - 1) (offset / 16) then None else Some (item_in (n - 1) (r.at % (n - 1)) (offset / 16))) ≡ Some k
    → (k < n - 1) × (r.base + offset ≡ pointer_of n r k)
only_inside n k offset r turn whole is =
    elim (cases_Bool (nat_le (n - 1) (offset / 16))) as (λ _. (k < n - 1) × (r.base + offset ≡ pointer_of n r k)) [
      | inl past ↦ let none : None ≡ Some k = rw past at is in absurd (cc)
      | inr inside ↦
          let some : Some (item_in (n - 1) (r.at % (n - 1)) (offset / 16)) ≡ Some k = rw inside at is in
          let same : item_in (n - 1) (r.at % (n - 1)) (offset / 16) ≡ k = cc in
          let stands = distance-place (n - 1) r.at (offset / 16) (leb-false (n - 1) (offset / 16) inside) in
          let split : 16 * (offset / 16) + offset % 16 ≡ offset = div-add-mod offset 16 in
          rw (← same) (stands.0, omega (arith, stands.1))
    ]

pub item_at-only : {A : Type 0} → NamedItemsHaveAddressesOf A
item_at-only n k pointer r places is =
    let turn : 0 < n - 1 = omega arith in
    elim (cases_Bool (nat_lt pointer r.base)) as (λ _. (k < n - 1) × (pointer ≡ pointer_of n r k)) [
      | inl below ↦ let none : None ≡ Some k = rw below at is in absurd (cc)
      | inr above ↦
          let here = rw above at is in
          let reach = ltb-false pointer r.base above in
          elim (cases_Bool ((pointer - r.base) % 16 == 0)) as (λ _. (k < n - 1) × (pointer ≡ pointer_of n r k)) [
            | inl whole ↦
                let found = only_inside n k (pointer - r.base) r turn (eqb-true ((pointer - r.base) % 16) 0 whole) (rw whole at here) in
                (found.0, omega (arith, found.1))
            | inr part ↦ let none : None ≡ Some k = rw part at here in absurd (cc)
          ]
    ]

-- the address of a place that isn't the Link's names the item that stands there, or would stand there
pub item_at-place : {A : Type 0} (n place : ℕ) (r : RingOf A) → place < n - 1
    → item_at n r (r.base + 16 * place) ≡ Some (item_in (n - 1) (r.at % (n - 1)) place)
item_at-place n place r within =
    let offset : r.base + 16 * place - r.base ≡ place * 16 + 0 = omega arith in
    rw (
      le-ltb (r.base + 16 * place) r.base (omega arith),
      offset,
      mod-mul-add place 16 0 (omega arith),
      div-mul-add place 16 0 (omega arith),
      lt-leb (n - 1) place within,
    ) refl

-- so what is consumed there is none at the Link's place and past it, and at that of an item that isn't consumed
pub consumed_at-past : {A : Type 0} (n place : ℕ) (r : RingOf A) → n - 1 ≤ place → consumed_at n r (r.base + 16 * place) ≡ None
consumed_at-past n place r past =
    let offset : r.base + 16 * place - r.base ≡ place * 16 + 0 = omega arith in
    rw (
      le-ltb (r.base + 16 * place) r.base (omega arith),
      offset,
      mod-mul-add place 16 0 (omega arith),
      div-mul-add place 16 0 (omega arith),
      le-leb (n - 1) place past,
    ) refl

pub consumed_at-pending : {A : Type 0} (n place : ℕ) (r : RingOf A) → place < n - 1 → r.got ≤ item_in (n - 1) (r.at % (n - 1)) place
    → consumed_at n r (r.base + 16 * place) ≡ None
consumed_at-pending n place r within pending =
    rw (item_at-place n place r within, le-ltb (item_in (n - 1) (r.at % (n - 1)) place) r.got pending) refl

pub ruleset addresses = (item_at-pointer_of, item_at-only)
