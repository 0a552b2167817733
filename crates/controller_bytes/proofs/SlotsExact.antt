-- The forms of the event ring's producer and of the slot are exact.
use Rattle.std.proofs.Common.{◌≡◌, ℕ, zero, suc, ◌<◌, refl, arith}
use Rattle.guest_memory.specs.rings.Saved.{has_segment}
use Rattle.machine_bytes.specs.Exact.{IsExact}
use Rattle.machine_bytes.proofs.Exact.{checked-exact, flag-exact, mapped-exact, named-exact, number-exact, optional-exact, pair-exact}
use Rattle.controller_bytes.specs.Slots.{ring_form, slot_form, slot_state_at, slot_state_form, slot_state_number}

pub ring-exact : IsExact ring_form
ring-exact =
    checked-exact has_segment _ (mapped-exact _ _ _ (pair-exact _ _ (number-exact 8) (pair-exact _ _ (number-exact 2) (pair-exact _ _ (number-exact 2)
    (pair-exact _ _ (number-exact 2) (pair-exact _ _ flag-exact flag-exact))))) (λ r has. refl))

pub slot_state-exact : IsExact slot_state_form
slot_state-exact = named-exact 4 slot_state_number slot_state_at same
  where
    same : (k : ℕ) → k < 4 → slot_state_number (slot_state_at k) ≡ k
    same zero few = refl
    same (suc zero) few = refl
    same (suc (suc zero)) few = refl
    same (suc (suc (suc zero))) few = refl
    same (suc (suc (suc (suc k)))) few = absurd (omega (arith, few))

pub slot-exact : IsExact slot_form
slot-exact = mapped-exact _ _ _ (pair-exact _ _ (optional-exact _ slot_state-exact) (number-exact 8)) (λ s has. refl)
