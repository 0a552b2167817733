-- The place that is guessed for an offset is the one whose TRB begins there.
use Rattle.std.proofs.Common.{◌≡◌, ℕ, ◌+◌, ◌-◌, ◌*◌, ◌/◌, ◌%◌, ◌<◌, ◌≤◌, ◌&&◌, true, false, Some, nat_le, nat_lt, refl, ap, ◌∙◌, arith}
use Rattle.std.proofs.lemmas.Bool.{and_parts, le-leb, leb-true, lt-leb, ltb-true}
use Rattle.std.proofs.lemmas.Option.{cond_some}
use Rattle.host_layout.specs.declared.layout.Layout.{Layout}
use Rattle.host_layout.specs.declared.rings.Ring.{Ring}
use Rattle.host_layout.specs.declared.rings.Ring.TheVariants.{Command, CommandPipe, Control, Status, DataIn, DataOut}
use Rattle.host_layout.specs.declared.rings.RingPlace.{RingPlace}
use Rattle.host_layout.specs.declared.shape.Pieces.{Pieces}
use Rattle.host_layout.specs.declared.shape.Pieces.TheVariants.{Seven, Fifteen, ThirtyOne, SixtyThree, HundredTwentySeven}
use Rattle.host_layout.specs.declared.shape.Shape.{Shape}
use Rattle.host_layout.specs.Sizes.{pieces_number, ring_bytes}
use Rattle.host_layout.specs.Shapes.{rings_offset}
use Rattle.host_layout.specs.Places.{has_area}
use Rattle.host_layout.specs.Rings.{area_of, data_ring, guess_data, guess_of, guess_status, has_place, place_at, places_of, segments_of, trb_of, trb_offset}

abbrev place_in : Ring → ℕ → ℕ → RingPlace
place_in ring segment place = record { ring = ring; segment = segment; place = place }

same_place : (ring other : Ring) (s t p q : ℕ) → ring ≡ other → s ≡ t → p ≡ q → place_in ring s p ≡ place_in other t q
same_place ring other s t p q a b c = rw (a, b, c) refl

-- the guess in each region
guess_below : (shape : Shape) (offset : ℕ) → offset < 65536 → nat_le (rings_offset shape) offset ≡ false
guess_below shape offset h = lt-leb _ _ (omega arith)

guess_command : (shape : Shape) (offset : ℕ) → offset < 2432 → guess_of shape offset ≡ place_at Command 16 (offset - 2112)
guess_command shape offset h =
    let a = guess_below shape offset (omega arith) in
    let b : nat_le 65536 offset ≡ false = lt-leb _ _ (omega arith) in
    let c : nat_le 12288 offset ≡ false = lt-leb _ _ (omega arith) in
    let d : nat_le 2432 offset ≡ false = lt-leb _ _ h in
    rw (a, b, c, d) refl

guess_control : (shape : Shape) (offset : ℕ) → 2432 ≤ offset → offset < 12288 → guess_of shape offset ≡ place_at Control 4 (offset - 2432)
guess_control shape offset l h =
    let a = guess_below shape offset (omega arith) in
    let b : nat_le 65536 offset ≡ false = lt-leb _ _ (omega arith) in
    let c : nat_le 12288 offset ≡ false = lt-leb _ _ (omega arith) in
    let d : nat_le 2432 offset ≡ true = le-leb _ _ l in
    rw (a, b, c, d) refl

guess_pipe : (shape : Shape) (offset : ℕ) → 12288 ≤ offset → offset < 65536 → guess_of shape offset ≡ place_at CommandPipe 256 (offset - 12288)
guess_pipe shape offset l h =
    let a = guess_below shape offset (omega arith) in
    let b : nat_le 65536 offset ≡ false = lt-leb _ _ h in
    let c : nat_le 12288 offset ≡ true = le-leb _ _ l in
    rw (a, b, c) refl

guess_tag : (shape : Shape) (offset : ℕ) → 65536 ≤ offset → offset < rings_offset shape → guess_of shape offset ≡ guess_status (offset - 65536)
guess_tag shape offset l h =
    let a : nat_le (rings_offset shape) offset ≡ false = lt-leb _ _ h in
    let b : nat_le 65536 offset ≡ true = le-leb _ _ l in
    rw (a, b) refl

guess_rings : (shape : Shape) (offset : ℕ) → rings_offset shape ≤ offset → guess_of shape offset ≡ guess_data shape (offset - rings_offset shape)
guess_rings shape offset l =
    let a : nat_le (rings_offset shape) offset ≡ true = le-leb _ _ l in
    rw a refl

-- the status ring of a tag
status_at : (tag segment place : ℕ) → 1 ≤ tag → tag ≤ 254 → segment < 3 → place < 2
    → guess_status (512 * (tag - 1) + 64 + 16 * (segment * 2 + place)) ≡ place_in (Status tag) segment place
unfolding guess_status
status_at tag segment place first last s p =
    same_place _ _ _ _ _ _ (ap Status (omega arith)) (omega arith) (omega arith)

-- a data ring by its number
ring_even : (number tag : ℕ) → number % 2 ≡ 0 → (number / 2 + 1) % 256 ≡ tag → data_ring number ≡ DataIn tag
ring_even number tag a b = rw (a, b) refl

ring_odd : (number tag : ℕ) → number % 2 ≡ 1 → (number / 2 + 1) % 256 ≡ tag → data_ring number ≡ DataOut tag
ring_odd number tag a b = rw (a, b) refl

abbrev data_at : Pieces → ℕ → RingPlace
data_at pieces offset =
    place_at (data_ring (offset / ring_bytes pieces)) (pieces_number pieces + 1) (offset % ring_bytes pieces)

guess_data_at : (shape : Shape) (offset : ℕ) → guess_data shape offset ≡ data_at shape.pieces offset
unfolding guess_data
guess_data_at shape offset = refl

-- so many bytes into the ring of a number
data_number : (pieces : Pieces) (number segment place : ℕ) → segment < 3 → place < pieces_number pieces + 1
    → data_at pieces (number * ring_bytes pieces + 16 * (segment * (pieces_number pieces + 1) + place)) ≡ place_in (data_ring number) segment place
data_number Seven number segment place s p = same_place _ _ _ _ _ _ (ap data_ring (omega arith)) (omega arith) (omega arith)
data_number Fifteen number segment place s p = same_place _ _ _ _ _ _ (ap data_ring (omega arith)) (omega arith) (omega arith)
data_number ThirtyOne number segment place s p = same_place _ _ _ _ _ _ (ap data_ring (omega arith)) (omega arith) (omega arith)
data_number SixtyThree number segment place s p = same_place _ _ _ _ _ _ (ap data_ring (omega arith)) (omega arith) (omega arith)
data_number HundredTwentySeven number segment place s p = same_place _ _ _ _ _ _ (ap data_ring (omega arith)) (omega arith) (omega arith)

twice : (n b : ℕ) → n * (2 * b) ≡ 2 * n * b
twice n b = grind arith

twice_one : (n b : ℕ) → n * (2 * b) + b ≡ (2 * n + 1) * b
twice_one n b = grind arith

-- the place of a TRB is guessed from its offset
guessed : (shape : Shape) (ring : Ring) (segment place : ℕ) → has_area shape (area_of ring) ≡ true → segment < segments_of ring
    → place < places_of shape ring → guess_of shape (trb_offset shape (place_in ring segment place)) ≡ place_in ring segment place
guessed shape Command segment place a s p =
    guess_command shape _ (omega arith) ∙ same_place _ _ _ _ _ _ refl (omega arith) (omega arith)
guessed shape CommandPipe segment place a s p =
    guess_pipe shape _ (omega arith) (omega arith) ∙ same_place _ _ _ _ _ _ refl (omega arith) (omega arith)
guessed shape Control segment place a s p =
    guess_control shape _ (omega arith) (omega arith) ∙ same_place _ _ _ _ _ _ refl (omega arith) (omega arith)
guessed shape (Status tag) segment place a s p =
    let in_tags : (nat_le 1 tag ≡ true) × (nat_le tag shape.tags ≡ true) = and_parts _ _ a in
    let first : 1 ≤ tag = leb-true _ _ in_tags.0 in
    let last : tag ≤ shape.tags = leb-true _ _ in_tags.1 in
    let few = shape.few_tags in
    let at : trb_offset shape (place_in (Status tag) segment place) - 65536 ≡ 512 * (tag - 1) + 64 + 16 * (segment * 2 + place) = omega arith in
    guess_tag shape _ (omega arith) (omega arith) ∙ ap guess_status at ∙ status_at tag segment place first (omega arith) s p
guessed shape (DataIn tag) segment place a s p =
    let in_tags : (nat_le 1 tag ≡ true) × (nat_le tag shape.tags ≡ true) = and_parts _ _ a in
    let first : 1 ≤ tag = leb-true _ _ in_tags.0 in
    let last : tag ≤ shape.tags = leb-true _ _ in_tags.1 in
    let few = shape.few_tags in
    let number = 2 * (tag - 1) in
    let bytes = ring_bytes shape.pieces in
    let same = twice (tag - 1) bytes in
    let at : trb_offset shape (place_in (DataIn tag) segment place) - rings_offset shape ≡ number * bytes + 16 * (segment * (pieces_number shape.pieces + 1) + place) = omega (arith, same) in
    guess_rings shape _ (omega arith) ∙ guess_data_at shape _ ∙ ap (data_at shape.pieces) at ∙ data_number shape.pieces number segment place s p
    ∙ ap (λ r. place_in r segment place) (ring_even number tag (omega arith) (omega arith))
guessed shape (DataOut tag) segment place a s p =
    let in_tags : (nat_le 1 tag ≡ true) × (nat_le tag shape.tags ≡ true) = and_parts _ _ a in
    let first : 1 ≤ tag = leb-true _ _ in_tags.0 in
    let last : tag ≤ shape.tags = leb-true _ _ in_tags.1 in
    let few = shape.few_tags in
    let number = 2 * (tag - 1) + 1 in
    let bytes = ring_bytes shape.pieces in
    let same = twice_one (tag - 1) bytes in
    let at : trb_offset shape (place_in (DataOut tag) segment place) - rings_offset shape ≡ number * bytes + 16 * (segment * (pieces_number shape.pieces + 1) + place) = omega (arith, same) in
    guess_rings shape _ (omega arith) ∙ guess_data_at shape _ ∙ ap (data_at shape.pieces) at ∙ data_number shape.pieces number segment place s p
    ∙ ap (λ r. place_in r segment place) (ring_odd number tag (omega arith) (omega arith))

-- whatever TRB begins at a pointer is guessed
pub guess_is : (layout : Layout) (at : RingPlace) (pointer : ℕ) → trb_of layout at ≡ Some pointer → guess_of layout.shape (pointer - layout.base) ≡ at
guess_is layout at pointer e =
    let there : (has_place layout.shape at ≡ true) × (layout.base + trb_offset layout.shape at ≡ pointer) = cond_some _ _ _ e in
    let parts : (has_area layout.shape (area_of at.ring) && nat_lt at.segment (segments_of at.ring) ≡ true) × (nat_lt at.place (places_of layout.shape at.ring) ≡ true) =
    and_parts _ _ there.0 in
    let inner : (has_area layout.shape (area_of at.ring) ≡ true) × (nat_lt at.segment (segments_of at.ring) ≡ true) = and_parts _ _ parts.0 in
    let offset : pointer - layout.base ≡ trb_offset layout.shape at = omega (arith, there.1) in
    ap (guess_of layout.shape) offset
    ∙ guessed layout.shape at.ring at.segment at.place inner.0 (ltb-true _ _ inner.1) (ltb-true _ _ parts.1)
