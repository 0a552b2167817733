-- The address map and its inverse.
use Rattle.std.proofs.Common.{◌≡◌, ℕ, ◌+◌, ◌-◌, ◌*◌, ◌%◌, ◌/◌, ◌<◌, ◌≤◌, ◌&&◌, true, nat_le, nat_lt, Some, None, refl, ap, ◌∙◌, inl, inr, arith}
use Rattle.std.proofs.lemmas.Bool.{lt-ltb, le-ltb, le-leb, ltb-true, leb-true, and_parts, cases_Bool}
use Rattle.std.proofs.lemmas.Nat.{div-mul-add, mod-mul-add}
use Rattle.std.proofs.Math.Nat.{div-add-mod}
use Rattle.frame_store.specs.declared.Buffer.{Buffer}
use Rattle.frame_store.specs.declared.Buffer.TheVariants.{Command, Status, Window}
use Rattle.frame_store.specs.declared.Place.{Place}
use Rattle.frame_store.specs.Places.{IsPlace, is_place, address_of, base_of, stride_of, room_of, place_in, checked_place, buffer_at, place_at}
use Rattle.uas_profile.specs.declared.TheConstants.{BUFFER_SPAN, COMMAND_BUFFERS, STATUS_BUFFERS, STREAMS, WINDOWS, WINDOW_SPAN}

-- the arithmetic: a stride's multiple and a rest below it
div-stride : (s t o : ℕ) → o < s → (s * t + o) / s ≡ t
div-stride s t o h = ap (λ x. x / s) (omega arith) ∙ div-mul-add t s o h

mod-stride : (s t o : ℕ) → o < s → (s * t + o) % s ≡ o
mod-stride s t o h = ap (λ x. x % s) (omega arith) ∙ mod-mul-add t s o h

-- the place of an address that has one, in a buffer of a given kind
checked_place-address_of : (b : Buffer) (t o : ℕ) → 1 ≤ t → t ≤ STREAMS → o < room_of b → room_of b ≤ stride_of b
    → checked_place b (base_of b + stride_of b * t + o) ≡ Some (record { tag = t; buffer = b; offset = o })
checked_place-address_of b t o first last inside room =
    let narrow : o < stride_of b = omega arith in
    let beyond : base_of b + stride_of b * t + o - base_of b ≡ stride_of b * t + o = omega arith in
    rw (
      beyond,
      div-stride (stride_of b) t o narrow,
      mod-stride (stride_of b) t o narrow,
      le-leb (base_of b) (base_of b + stride_of b * t + o) (omega arith),
      lt-ltb 0 t (omega arith),
      le-leb t STREAMS last,
      lt-ltb o (room_of b) inside,
    ) refl

place_at-parts : (b : Buffer) (t o : ℕ) → 1 ≤ t → t ≤ STREAMS → o < room_of b
    → place_at (base_of b + stride_of b * t + o) ≡ Some (record { tag = t; buffer = b; offset = o })
place_at-parts Command t o first last inside =
    rw (lt-ltb (COMMAND_BUFFERS + BUFFER_SPAN * t + o) STATUS_BUFFERS (omega arith)) (checked_place-address_of Command t o first last inside (omega arith))
place_at-parts Status t o first last inside =
    rw (le-ltb (STATUS_BUFFERS + BUFFER_SPAN * t + o) STATUS_BUFFERS (omega arith), lt-ltb (STATUS_BUFFERS + BUFFER_SPAN * t + o) WINDOWS (omega arith))
    (checked_place-address_of Status t o first last inside (omega arith))
place_at-parts Window t o first last inside =
    rw (le-ltb (WINDOWS + WINDOW_SPAN * t + o) STATUS_BUFFERS (omega arith), le-ltb (WINDOWS + WINDOW_SPAN * t + o) WINDOWS (omega arith))
    (checked_place-address_of Window t o first last inside (omega arith))

-- a place is found at its own address
pub place_at-address_of : (place : Place) → IsPlace place → place_at (address_of place) ≡ Some place
place_at-address_of place h = place_at-parts place.buffer place.tag place.offset h.first_tag h.last_tag h.inside

-- what is found at an address is a place that has it
place_in-is : (b : Buffer) (address : ℕ) → base_of b ≤ address → is_place (place_in b (address - base_of b)) ≡ true
    → (address_of (place_in b (address - base_of b)) ≡ address) × IsPlace (place_in b (address - base_of b))
place_in-is b address above passes =
    let outer =
    and_parts (nat_lt 0 ((address - base_of b) / stride_of b) && nat_le ((address - base_of b) / stride_of b) STREAMS)
    (nat_lt ((address - base_of b) % stride_of b) (room_of b)) passes in
    let inner = and_parts (nat_lt 0 ((address - base_of b) / stride_of b)) (nat_le ((address - base_of b) / stride_of b) STREAMS) outer.0 in (
      omega (arith, div-add-mod (address - base_of b) (stride_of b)),
      record {
        first_tag = ltb-true 0 _ inner.0;
        last_tag = leb-true _ STREAMS inner.1;
        inside = ltb-true _ (room_of b) outer.1;
      },
    )

checked_place-is : (b : Buffer) (address : ℕ) (place : Place) → checked_place b address ≡ Some place → (address_of place ≡ address) × IsPlace place
checked_place-is b address place found =
    elim (cases_Bool (nat_le (base_of b) address && is_place (place_in b (address - base_of b)))) as (λ _. (address_of place ≡ address) × IsPlace place) [
      | inl passes ↦
          let some : Some (place_in b (address - base_of b)) ≡ Some place = rw passes at found in
          let same : place_in b (address - base_of b) ≡ place = cc in
          let parts = and_parts (nat_le (base_of b) address) (is_place (place_in b (address - base_of b))) passes in
          rw (← same) (place_in-is b address (leb-true (base_of b) address parts.0) parts.1)
      | inr fails ↦ let none : None ≡ Some place = rw fails at found in absurd (cc)
    ]

pub address_of-place_at : (address : ℕ) (place : Place) → place_at address ≡ Some place → (address_of place ≡ address) × IsPlace place
address_of-place_at address place found = checked_place-is (buffer_at address) address place found
