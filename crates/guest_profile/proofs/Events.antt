-- The producer's end of an event ring that memory holds.
use Rattle.std.proofs.Common.{◌≡◌, ℕ, ◌+◌, ◌*◌, ◌%◌, ◌^◌, ◌<◌, ◌⊎◌, ◌==◌, Bool, true, false, not, List, [], ◌∷◌, ◌++◌, length, length-append, length-set, set, Some, refl, sym, ap, ◌∙◌, arith, inl, inr}
use Rattle.std.proofs.Math.Nat.{mod-lt}
use Rattle.std.proofs.lemmas.Bool.{cases_eq, eq-eqb, ne_eqb, le-leb}
use Rattle.std.proofs.lemmas.List.{get_or-set_same, get_or-set_other}
use Rattle.byteorder.specs.Endian.{little_bytes}
use Rattle.uas_profile.specs.declared.TheConstants.{SLOT}
use Rattle.xhci_trb.specs.declared.Trb.{Trb}
use Rattle.xhci_trb.specs.Words.{bytes_of as profile_bytes_of}
use Rattle.xhci_trb.specs.Text.{bit as profile_bit, text, words_of}
use Rattle.xhci_trb.specs.Reader.{trb_in as profile_trb_in}
use Rattle.xhci_trb.proofs.Bytes.{words_in-bytes_of}
use Rattle.xhci_trb.proofs.Fields.{trb_in-words_of, words_of-fits}
use Rattle.ring_ends.specs.declared.End.{End}
use Rattle.ring_ends.specs.Counted.{next_end, turn_bit}
use Rattle.ring_ends.specs.Held.{IsText, trb_form}
use Rattle.ring_ends.specs.HeldLaws.{IsText-written}
use Rattle.event_ring.specs.declared.Event.{Event}
use Rattle.event_ring.specs.Events.{Events, IsWritable, cycle_of, place_of, trb_of}
use Rattle.event_ring.specs.Segment.{IsSegment}
use Rattle.event_ring.proofs.Segment.{IsSegment-posted}
use Rattle.guest_memory.specs.Bytes.{Memory, written}
use Rattle.guest_memory.specs.rings.Words.{bit}
use Rattle.guest_memory.specs.rings.Events.{EventEnd, advanced, bytes_of, enqueued}
use Rattle.guest_profile.specs.Rings.{HasPlaces}
use Rattle.guest_profile.specs.Layout.{AreApart}
use Rattle.guest_profile.specs.Events.{EventIsPosted, EventsAreAlike, HoldsEventRing, IsProducer, RoomIsCounted}
use Rattle.guest_profile.proofs.Ranges.{less_or_more, written-apart, written-read}
use Rattle.guest_profile.proofs.Rings.{cycle_in-text}

same_bits : (cycle : Bool) → bit cycle ≡ profile_bit cycle
same_bits true = refl
same_bits false = refl

-- a text has 16 bytes
pub length-text : (trb : Trb) (cycle : Bool) → length (text trb cycle) ≡ 16
unfolding profile_bytes_of
length-text trb cycle = refl

pub events_are_alike : EventsAreAlike
unfolding bytes_of profile_bytes_of
events_are_alike pointer residual code endpoint cycle is =
    let status : residual % 2 ^ 24 + 2 ^ 24 * code ≡ residual + 2 ^ 24 * code = omega (arith, is.0) in
    let bits = same_bits cycle in
    let control : 2 ^ 10 * 32 + 2 ^ 16 * endpoint + 2 ^ 24 * 1 + 2 ^ 2 * bit false + bit cycle ≡ 2 ^ 10 * 32 + 2 ^ 16 * endpoint + 2 ^ 24 * SLOT + profile_bit cycle = omega arith in
    ap (λ (s : ℕ). little_bytes 8 pointer ++ little_bytes 4 s ++ little_bytes 4 (2 ^ 10 * 32 + 2 ^ 16 * endpoint + 2 ^ 24 * 1 + 2 ^ 2 * bit false + bit cycle)) status
    ∙ ap (λ (c : ℕ). little_bytes 8 pointer ++ little_bytes 4 (residual + 2 ^ 24 * code) ++ little_bytes 4 c) control

pub room_is_counted : RoomIsCounted
room_is_counted n base r end is few = le-leb 2 end.free (omega (arith, is.free))

-- the places once one of them is written
pub HasPlaces-set : (memory : Memory) (base : ℕ) (places : List (List ℕ)) (place : ℕ) (bytes : List ℕ) → HasPlaces memory base places → place < length places
    → length bytes ≡ 16 → HasPlaces (written memory (base + 16 * place) bytes) base (set places place bytes)
HasPlaces-set memory base places place bytes there within size k below =
    let count = length-set places place bytes in
    elim (cases_eq k place) [
      | inl same ↦
          rw same (written-read memory (base + 16 * place) 16 bytes size ∙ ap Some (sym (get_or-set_same places place bytes [] within)))
      | inr differs ↦
          written-apart memory (base + 16 * place) bytes (base + 16 * k) 16 (apart (less_or_more k place differs))
          ∙ there k (omega (arith, below, count)) ∙ ap Some (sym (get_or-set_other places place k bytes [] differs))
    ]
  where
    apart : (k < place) ⊎ (place < k) → AreApart (base + 16 * k) 16 (base + 16 * place) (length bytes)
    apart (inl before) = inl (omega (arith, before))
    apart (inr behind) = inr (omega (arith, size, behind))

-- the text of an event at an end
written_text : (event : Event) (cycle : Bool) → IsWritable event → IsText trb_form (text (trb_of event) cycle) (trb_of event) cycle
written_text event cycle writable =
    IsText-written trb_form (trb_of event) (text (trb_of event) cycle) cycle refl
    (ap profile_trb_in (words_in-bytes_of (words_of (trb_of event) cycle) (words_of-fits (trb_of event) cycle writable.0))
    ∙ trb_in-words_of (trb_of event) cycle writable.0)
    (cycle_in-text (trb_of event) cycle writable)

-- the ends of a ring's segment
abbrev pub first_end : ℕ → Events → End
first_end n r = record { place = r.at % n; cycle = turn_bit n r.at }

abbrev pub last_end : ℕ → Events → End
last_end n r = record { place = place_of n r (length r.pending); cycle = cycle_of n r (length r.pending) }

pub segment_of : (n base : ℕ) (r : Events) (memory : Memory) (holds : HoldsEventRing n base r memory)
    → IsSegment n holds.places (first_end n r) (last_end n r) r
segment_of n base r memory holds = record {
  ring = holds.ring;
  holds = holds.events;
  consumer = record { place = refl; cycle = refl };
  producer = record { place = refl; cycle = refl };
}

-- the producer's end goes on as the ring's does
advances : (n base : ℕ) (r : Events) (end : EventEnd) → IsProducer n base r end
    → ((advanced end).place ≡ (next_end n (last_end n r)).place) × ((advanced end).cycle ≡ (next_end n (last_end n r)).cycle)
    × ((advanced end).base ≡ base) × ((advanced end).places ≡ n)
advances n base r end is = elim (cases_eq (place_of n r (length r.pending) + 1) n) [
  | inl past ↦
      let test : (place_of n r (length r.pending) + 1 == n) ≡ true = eq-eqb _ n past in
      let told : (end.place + 1 == end.places) ≡ true = rw (is.place, is.places) test in
      rw (told, test) (refl, ap not is.cycle, is.base_is, is.places)
  | inr inside ↦
      let test : (place_of n r (length r.pending) + 1 == n) ≡ false = ne_eqb _ n inside in
      let told : (end.place + 1 == end.places) ≡ false = rw (is.place, is.places) test in
      rw (told, test) (ap (λ (p : ℕ). p + 1) is.place, is.cycle, is.base_is, is.places)
]

pub event_is_posted : EventIsPosted
unfolding enqueued
event_is_posted n base r event memory end quiet holds is room writable =
    let least = holds.ring.least_places in
    let bytes = text (trb_of event) (cycle_of n r (length r.pending)) in
    let within : place_of n r (length r.pending) < n = mod-lt (r.at + length r.pending) (omega arith) in
    let after = IsSegment-posted n holds.places (first_end n r) (last_end n r) r event bytes (segment_of n base r memory holds) room writable
    (written_text event (cycle_of n r (length r.pending)) writable) in
    let more = length-append r.pending (event ∷ []) in
    let on = advances n base r end is in
    record {
      holds = rw (is.base_is, is.place, is.cycle) (record {
        ring = after.ring;
        places = set holds.places (place_of n r (length r.pending)) bytes;
        events = after.holds;
        there = HasPlaces-set memory base holds.places (place_of n r (length r.pending)) bytes holds.there (omega (arith, holds.events.size))
            (length-text (trb_of event) (cycle_of n r (length r.pending)));
      });
      producer = record {
        base_is = on.2;
        places = on.3;
        place = on.0 ∙ after.producer.place;
        cycle = on.1 ∙ after.producer.cycle;
        free = omega (arith, is.free, more);
      };
    }
