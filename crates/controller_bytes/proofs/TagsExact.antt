-- The form of the tags is exact.
use Rattle.std.proofs.Common.{◌≡◌, ℕ, ◌==◌, true, false, List, [], ◌∷◌, length, refl, arith}
use Rattle.std.specs.Prelude.{not}
use Rattle.std.proofs.lemmas.Bool.{and_parts, eqb-true}
use Rattle.guest_transfers.specs.declared.slot.Slot.{Slot}
use Rattle.guest_transfers.specs.State.{empty_slot}
use Rattle.machine_bytes.specs.Exact.{IsExact}
use Rattle.machine_bytes.proofs.Exact.{checked-exact, counted-exact, flag-exact, mapped-exact, number-exact, pair-exact}
use Rattle.machine_bytes.proofs.SparseExact.{sparse-exact}
use Rattle.controller_bytes.specs.Tags.{is_empty, slot_form, slot_place, slots_form, unit_form}
use Rattle.controller_bytes.proofs.PipesExact.{is_off}

unit-exact : IsExact unit_form
unit-exact = checked-exact _ _ (mapped-exact _ _ _ (pair-exact _ _ (counted-exact 1 112) (number-exact 1)) (λ u has. refl))

pub slot-exact : IsExact slot_form
slot-exact =
    mapped-exact _ _ _ (pair-exact _ _ (counted-exact 2 4096) (pair-exact _ _ flag-exact (pair-exact _ _ flag-exact (pair-exact _ _ unit-exact
    (pair-exact _ _ (number-exact 4) (counted-exact 2 4096)))))) (λ s has. refl)

none_left : (bytes : List ℕ) → length bytes == 0 ≡ true → bytes ≡ []
none_left [] e = refl
none_left (b ∷ bytes) e = let h = eqb-true _ _ e in absurd (omega (arith, h))

-- a tag with these parts is empty
empty_of : (s : Slot) → s.tag.chunk ≡ [] → s.tag.gave ≡ false → s.tag.drops ≡ false → s.tag.unit.text ≡ [] → s.tag.unit.sent ≡ 0 → s.tag.overlaps ≡ 0 → s.taken ≡ []
    → s ≡ empty_slot
empty_of s a b c d e f g =
    let q : Slot = record {
      tag = record { chunk = s.tag.chunk; gave = s.tag.gave; drops = s.tag.drops; unit = record { text = s.tag.unit.text; sent = s.tag.unit.sent }; overlaps = s.tag.overlaps };
      taken = s.taken;
    } in
    let same : q ≡ empty_slot = rw (a, b, c, d, e, f, g) refl in same

slot_empty : (s : Slot) → is_empty s ≡ true → s ≡ empty_slot
slot_empty s e =
    let one = and_parts (length s.tag.chunk == 0) _ e in
    let two = and_parts (not s.tag.gave) _ one.1 in
    let three = and_parts (not s.tag.drops) _ two.1 in
    let four = and_parts (length s.tag.unit.text == 0) _ three.1 in
    let five = and_parts (s.tag.unit.sent == 0) _ four.1 in
    let six = and_parts (s.tag.overlaps == 0) (length s.taken == 0) five.1 in
    empty_of s (none_left _ one.0) (is_off _ two.0) (is_off _ three.0) (none_left _ four.0) (eqb-true _ _ five.0) (eqb-true _ _ six.0) (none_left _ six.1)

pub slots-exact : IsExact slots_form
slots-exact = sparse-exact 241 empty_slot slot_place (omega arith) slot-exact refl slot_empty
