-- Where a step looks again.
use Rattle.std.proofs.Common.{◌≡◌, ℕ, ◌+◌, List, Option, Some, None, refl, sym, ap, subst, ◌∙◌}
use Rattle.std.specs.Prelude.{if◌then◌else◌, option_map}
use Rattle.std.proofs.lemmas.Option.{none-some, same_Some}
use Rattle.byteorder.specs.Endian.{little_number}
use Rattle.guest_memory.specs.Bytes.{Memory, bytes_from, ◌>>=◌}
use Rattle.guest_memory.specs.Ranges.{same_from}
use Rattle.guest_memory.specs.declared.rings.context.Home.{Home}
use Rattle.guest_memory.specs.declared.rings.context.Front.{Front}
use Rattle.guest_memory.specs.declared.rings.context.Found.{Found}
use Rattle.guest_memory.specs.declared.rings.context.Found.TheVariants.{WrongKind}
use Rattle.guest_memory.specs.declared.rings.wanting.Range.{Range}
use Rattle.guest_memory.specs.rings.Ends.{cursor_in, fetched, found_at, found_of, front_of, home_at, home_size, is_ring, looked, owned}
use Rattle.td_laws.specs.Places.{AreApart, IsOutside}

found_same : (m w : Memory) (home : Home) (number : ℕ) → bytes_from m (cursor_in number).place 16 ≡ bytes_from w (cursor_in number).place 16
    → found_at m home number ≡ found_at w home number
unfolding found_at fetched
found_same m w home number same =
    ap (λ (bytes : Option (List ℕ)). if is_ring home number then option_map found_of (option_map (owned (cursor_in number).cycle) bytes) else Some WrongKind) same

-- where the bytes of the ring's end and of the TRB there are the same, so is what is found
pub looked_same : (m w : Memory) (home : Home) (front : Front) → looked w home ≡ Some front
    → bytes_from m (home_at home) (home_size home) ≡ bytes_from w (home_at home) (home_size home)
    → bytes_from m front.cursor.place 16 ≡ bytes_from w front.cursor.place 16 → looked m home ≡ Some front
unfolding looked
looked_same m w home front is end trb =
    ap (λ (bytes : Option (List ℕ)). bytes >>= (λ bs. found_at m home (little_number 8 bs) >>= (λ found. Some (front_of home (little_number 8 bs) found)))) end
    ∙ by_bytes (bytes_from w (home_at home) (home_size home)) is
  where
    by_found : (bytes : List ℕ) (found : Option Found) → found_at w home (little_number 8 bytes) ≡ found
        → (found >>= (λ f. Some (front_of home (little_number 8 bytes) f))) ≡ Some front
        → (found_at m home (little_number 8 bytes) >>= (λ f. Some (front_of home (little_number 8 bytes) f))) ≡ Some front
    by_found bytes None finds is = absurd (none-some front is)
    by_found bytes (Some f) finds is =
        let same : front_of home (little_number 8 bytes) f ≡ front = same_Some (front_of home (little_number 8 bytes) f) front is in
        let place : (cursor_in (little_number 8 bytes)).place ≡ front.cursor.place = ap (λ (x : Front). x.cursor.place) same in
        let here : bytes_from m (cursor_in (little_number 8 bytes)).place 16 ≡ bytes_from w (cursor_in (little_number 8 bytes)).place 16 =
        subst (λ (at : ℕ). bytes_from m at 16 ≡ bytes_from w at 16) (sym place) trb in
        let again : found_at m home (little_number 8 bytes) ≡ Some f = found_same m w home (little_number 8 bytes) here ∙ finds in
        ap (λ (o : Option Found). o >>= (λ f. Some (front_of home (little_number 8 bytes) f))) again ∙ is

    by_bytes : (bytes : Option (List ℕ)) → (bytes >>= (λ bs. found_at w home (little_number 8 bs) >>= (λ found. Some (front_of home (little_number 8 bs) found)))) ≡ Some front
        → (bytes >>= (λ bs. found_at m home (little_number 8 bs) >>= (λ found. Some (front_of home (little_number 8 bs) found)))) ≡ Some front
    by_bytes None is = absurd (none-some front is)
    by_bytes (Some bytes) is = by_found bytes (found_at w home (little_number 8 bytes)) refl is

-- a range that is apart from the one part that was written
pub untouched : (new old : Memory) (range part : Range) → AreApart range part → ((a : ℕ) → IsOutside a part → new a ≡ old a)
    → bytes_from new range.at range.count ≡ bytes_from old range.at range.count
untouched new old range part apart others = same_from new old range.at range.count (λ k below. others (range.at + k) (apart k below))
