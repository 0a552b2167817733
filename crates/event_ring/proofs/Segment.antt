-- A segment's bytes and the ring that they show: what the ends' steps do to both. Cited by the calls of the ring.
use Rattle.std.proofs.Common.{◌≡◌, ◌≢◌, ℕ, zero, suc, ◌+◌, ◌-◌, ◌%◌, ◌<◌, ◌≤◌, Bool, true, List, [], ◌∷◌, ◌++◌, length, length-append, length-drop}
use Rattle.std.proofs.Common.{length-set, set, get_or, drop, map, replicate, Some, None, All, slice_get, option_map, refl, sym, ap, ap₂, ◌∙◌, arith, inl, inr}
use mathlib.Core.Bool.{beq}
use Rattle.std.proofs.Math.Nat.{mod-lt}
use Rattle.std.proofs.lemmas.Bool.{cases_lt}
use Rattle.std.proofs.lemmas.List.{length-map, length-replicate, map-append, drop-map}
use Rattle.std.proofs.lemmas.List.Elements.{All-append}
use Rattle.std.proofs.lemmas.Option.{none-some, same_Some, slice_get-map, slice_get_within, get_or_from_slice_get}
use Rattle.xhci_trb.specs.declared.Trb.{Trb}
use Rattle.xhci_trb.specs.Words.{words_in}
use Rattle.xhci_trb.specs.Text.{text}
use Rattle.xhci_trb.specs.Reader.{cycle_in}
use Rattle.event_ring.specs.declared.Event.{Event}
use Rattle.event_ring.specs.declared.Event.TheVariants.{Transfer, Command}
use Rattle.ring_ends.specs.declared.End.{End}
use Rattle.event_ring.specs.Events.{Events, IsWritable, trb_of, taken, opening}
use Rattle.ring_ends.specs.Counted.{counted, distance, IsEnd, next_end, bit_from}
use Rattle.ring_ends.specs.Held.{trb_form, items_from, IsText}
use Rattle.ring_ends.specs.HeldLaws.{item_of, items_from-list, Holds-zeros, Holds-put, Holds-freed, Holds-bit, Holds-item, IsEnd-shift}
use Rattle.ring_ends.specs.EndLaws.{counted-end, IsEnd-first, IsEnd-next, IsEnd-place, distance-ahead, distance-place}
use Rattle.event_ring.specs.Segment.{event_of, shown, IsSegment}
use Rattle.event_ring.proofs.Shifts.{IsRing-taken}

-- a TRB's event
event_of-trb_of : (event : Event) → event_of (trb_of event) ≡ event
event_of-trb_of (Transfer pointer residual code endpoint slot) = refl
event_of-trb_of (Command pointer code slot) = refl

events_of-trbs_of : (events : List Event) → map event_of (map trb_of events) ≡ events
events_of-trbs_of [] = refl
events_of-trbs_of (event ∷ events) = ap₂ ◌∷◌ (event_of-trb_of event) (events_of-trbs_of events)

-- the steps between the ends
pub distance-segment : (n : ℕ) (places : List (List ℕ)) (dequeue enqueue : End) (r : Events) → IsSegment n places dequeue enqueue r
    → distance n dequeue.place enqueue.place ≡ length r.pending
distance-segment n places dequeue enqueue r segment =
    let least = segment.ring.least_places in
    let room = segment.ring.room_left in
    ap₂ (distance n) segment.consumer.place segment.producer.place ∙ distance-ahead n r.at (length r.pending) (omega arith)

-- there is room where they aren't as many as can be
pub room-segment : (n : ℕ) (places : List (List ℕ)) (dequeue enqueue : End) (r : Events) → IsSegment n places dequeue enqueue r
    → distance n dequeue.place enqueue.place ≢ n - 1 → length r.pending < n - 1
room-segment n places dequeue enqueue r segment differs =
    let count = distance-segment n places dequeue enqueue r segment in
    elim (cases_lt (length r.pending) (n - 1)) [ inl less ↦ less | inr more ↦ absurd (differs (count ∙ omega (arith, segment.ring.room_left))) ]

-- the ring of a segment is what it shows, so it is a segment of what it shows
pub shown-segment : (n : ℕ) (places : List (List ℕ)) (dequeue enqueue : End) (r : Events) → IsSegment n places dequeue enqueue r
    → shown n places dequeue enqueue ≡ r
shown-segment n places dequeue enqueue r segment =
    let first : counted n dequeue ≡ r.at = counted-end n r.at dequeue segment.ring.at_below segment.consumer in
    let trbs : items_from trb_form n places r.at (length (map trb_of r.pending)) ≡ map trb_of r.pending =
    items_from-list trb_form n places r.at (map trb_of r.pending) (λ k trb is. (segment.holds.trbs.item k trb is).reads) in
    let held : items_from trb_form n places r.at (length r.pending) ≡ map trb_of r.pending =
    ap (items_from trb_form n places r.at) (sym (length-map r.pending trb_of)) ∙ trbs in
    rw (first, distance-segment n places dequeue enqueue r segment, held, events_of-trbs_of r.pending) refl

pub shows-segment : (n : ℕ) (places : List (List ℕ)) (dequeue enqueue : End) (r : Events) → IsSegment n places dequeue enqueue r
    → IsSegment n places dequeue enqueue (shown n places dequeue enqueue)
shows-segment n places dequeue enqueue r segment = rw (shown-segment n places dequeue enqueue r segment) segment

-- a segment of zeros
pub IsSegment-opening : (n : ℕ) (first : End) → 16 ≤ n → n ≤ 4096 → first ≡ record { place = 0; cycle = true }
    → IsSegment n (replicate n (replicate 16 0)) first first opening
IsSegment-opening n first least most is = record {
  ring = record {
    least_places = least;
    most_places = most;
    at_below = omega arith;
    room_left = omega arith;
    writable = λ k event within. absurd (omega arith);
  };
  holds = record { size = length-replicate n (replicate 16 0); trbs = Holds-zeros trb_form n n (omega arith) (omega arith) };
  consumer = rw is (IsEnd-first n 0 (omega arith) refl);
  producer = rw is (IsEnd-first n (0 + 0) (omega arith) (omega arith));
}

All-one : (event : Event) → IsWritable event → All IsWritable (event ∷ [])
All-one event writable zero other within = writable
All-one event writable (suc k) other within = absurd (omega arith)

-- an event that is written at the producer's end
pub IsSegment-posted : (n : ℕ) (places : List (List ℕ)) (dequeue enqueue : End) (r : Events) (event : Event) (bytes : List ℕ)
    → IsSegment n places dequeue enqueue r → length r.pending < n - 1 → IsWritable event → IsText trb_form bytes (trb_of event) enqueue.cycle
    → IsSegment n (set places enqueue.place bytes) dequeue (next_end n enqueue) (record r { pending = r.pending ++ event ∷ [] })
IsSegment-posted n places dequeue enqueue r event bytes segment room writable is_text =
    let ring = segment.ring in
    let least = ring.least_places in
    let size = length-append r.pending (event ∷ []) in
    let count = length-map r.pending trb_of in
    let end : IsEnd n (r.at + length (map trb_of r.pending)) enqueue = rw count segment.producer in
    let held = Holds-put trb_form n places r.at (map trb_of r.pending) (trb_of event) bytes enqueue (omega (arith, segment.holds.size)) segment.holds.trbs
    (omega arith) end is_text in
    let sum : r.at + length (r.pending ++ event ∷ []) ≡ r.at + length r.pending + 1 = omega arith in
    record {
      ring = record {
        least_places = least;
        most_places = ring.most_places;
        at_below = ring.at_below;
        room_left = omega arith;
        writable = All-append IsWritable r.pending (event ∷ []) ring.writable (All-one event writable);
      };
      holds = record {
        size = length-set places enqueue.place bytes ∙ segment.holds.size;
        trbs = rw (map-append trb_of r.pending (event ∷ [])) held;
      };
      consumer = segment.consumer;
      producer = rw sum (IsEnd-next n (r.at + length r.pending) enqueue (omega arith) segment.producer);
    }

-- the first event taken at the consumer's end: its place is stale from then on
pub IsSegment-taken : (n : ℕ) (places : List (List ℕ)) (dequeue enqueue : End) (r : Events)
    → IsSegment n places dequeue enqueue r → 0 < length r.pending
    → IsSegment n places (next_end n dequeue) enqueue (taken n r)
IsSegment-taken n places dequeue enqueue r segment some =
    let least = segment.ring.least_places in
    let size = length-drop 1 r.pending in
    let pos : 0 < n = omega arith in
    let count = length-map r.pending trb_of in
    record {
      ring = IsRing-taken n r segment.ring;
      holds = record {
        size = segment.holds.size;
        trbs = rw (← drop-map trb_of 1 r.pending) (Holds-freed trb_form n places r.at 1 (map trb_of r.pending) pos (omega arith) segment.holds.trbs);
      };
      consumer = IsEnd-shift n r.at 1 0 (r.at + 1) _ _ pos (omega arith) (omega arith) (IsEnd-next n r.at dequeue pos segment.consumer);
      producer = IsEnd-shift n r.at 1 (length (drop 1 r.pending)) _ _ enqueue pos (omega arith) refl segment.producer;
    }

-- whether a place has the Cycle bit with which the consumer comes to it: exactly where its event is pending
pub bit-pending : (n : ℕ) (places : List (List ℕ)) (dequeue enqueue : End) (r : Events) (place : ℕ) (bytes : List ℕ) (bit : Bool)
    → IsSegment n places dequeue enqueue r → place < n → bytes ≡ get_or places place bytes → bit ≡ cycle_in (words_in bytes)
    → (beq bit (bit_from dequeue.place dequeue.cycle place) ≡ true → distance n (r.at % n) place < length r.pending)
    × (distance n (r.at % n) place < length r.pending → beq bit (bit_from dequeue.place dequeue.cycle place) ≡ true)
bit-pending n places dequeue enqueue r place bytes bit segment below there read =
    rw (← length-map r.pending trb_of) (Holds-bit trb_form n places r.at (map trb_of r.pending) _ (distance n (r.at % n) place) bytes bit segment.holds.trbs
    (distance-place n r.at place below).0 (IsEnd-place n r.at place dequeue below segment.consumer) (omega (arith, segment.holds.size)) there read)

-- the bytes at a place whose event is pending
pub text-pending : (n : ℕ) (places : List (List ℕ)) (dequeue enqueue end : End) (r : Events) (k : ℕ) (bytes : List ℕ)
    → IsSegment n places dequeue enqueue r → IsEnd n (r.at + k) end → k < length r.pending → end.place < n → bytes ≡ get_or places end.place bytes
    → (event : Event) × (slice_get r.pending k ≡ Some event) × (bytes ≡ text (trb_of event) end.cycle) × IsWritable event
text-pending n places dequeue enqueue end r k bytes segment is pending within there =
    let event = item_of r.pending k pending in
    let count = length-map r.pending trb_of in
    let trb = Holds-item trb_form n places r.at (map trb_of r.pending) end k bytes segment.holds.trbs is (omega arith) (omega (arith, segment.holds.size)) there in
    let same : trb.0 ≡ trb_of event.0 =
    same_Some trb.0 (trb_of event.0) (sym trb.1 ∙ slice_get-map trb_of r.pending k ∙ ap (option_map trb_of) event.1) in
    (event.0, event.1, trb.2.bytes_are ∙ ap (λ (x : Trb). text x end.cycle) same, writable_of r.pending k event.0 segment.ring.writable event.1)
  where
    writable_of : (pending : List Event) (k : ℕ) (event : Event) → All IsWritable pending → slice_get pending k ≡ Some event → IsWritable event
    writable_of pending k event all is =
        rw (← get_or_from_slice_get pending k event event is) (all k event (slice_get_within pending k event is))

-- the bytes of the first event, by the steps from the consumer's place to itself
pub text-front : (n : ℕ) (places : List (List ℕ)) (dequeue enqueue : End) (r : Events) (bytes : List ℕ) → IsSegment n places dequeue enqueue r
    → distance n (r.at % n) dequeue.place < length r.pending → bytes ≡ get_or places dequeue.place bytes
    → (event : Event) × (slice_get r.pending 0 ≡ Some event) × (bytes ≡ text (trb_of event) dequeue.cycle) × IsWritable event
text-front n places dequeue enqueue r bytes segment pending there =
    let least = segment.ring.least_places in
    let within : r.at % n < n = mod-lt r.at (omega arith) in
    let zeroth : r.at ≡ r.at + 0 = omega arith in
    text-pending n places dequeue enqueue dequeue r 0 bytes segment (rw zeroth at segment.consumer) (omega arith) (omega (arith, segment.consumer.place)) there

-- a list without a first event
pub without_first : (pending : List Event) → slice_get pending 0 ≡ None → pending ≡ []
without_first [] is = refl
without_first (event ∷ pending) is = absurd (none-some event (sym is))
