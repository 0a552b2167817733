-- What the profile's host frees and takes leaves a memory laid out.
use Rattle.std.proofs.Common.{◌≡◌, ℕ, ◌+◌, ◌-◌, ◌*◌, ◌<◌, ◌≤◌, Bool, not, [], length-drop, Some, refl, sym, ap, ◌∙◌, arith, inl, inr}
use Rattle.std.proofs.Math.Nat.{mod-lt}
use Rattle.std.proofs.lemmas.List.Elements.{All-drop}
use Rattle.uas_profile.specs.declared.TheConstants.{EVENT_RING, EVENT_RING_PLACES}
use Rattle.xhci_trb.specs.Text.{text}
use Rattle.ring_ends.specs.HeldLaws.{Holds-freed, at_rest, turn_bit-shift}
use Rattle.ring_ends.specs.TurnLaws.{place_shift}
use Rattle.cycle_ring.specs.Ring.{IsShifted, cycle_of, link_with, pointer_of, reclaimed}
use Rattle.cycle_ring.specs.Items.{HasBytes, ItemRing, item_chain, item_form}
use Rattle.cycle_ring.proofs.Shifts.{IsShifted-reclaimed}
use Rattle.event_ring.specs.Events.{taken}
use Rattle.event_ring.proofs.Segment.{IsSegment-taken}
use Rattle.stream_array.specs.Map.{places_of}
use Rattle.stream_array.specs.Rings.{ring_of}
use Rattle.stream_array.proofs.Frames.{with_events-kept}
use Rattle.guest_memory.specs.Bytes.{Memory}
use Rattle.guest_memory.specs.Ranges.{written_nothing}
use Rattle.guest_memory.specs.declared.rings.cursor.Cursor.{Cursor}
use Rattle.guest_memory.specs.declared.rings.context.Home.{Home}
use Rattle.guest_memory.specs.rings.Ends.{home_bytes}
use Rattle.guest_profile.specs.Rings.{HoldsRing}
use Rattle.guest_profile.specs.Layout.{KeepsEnd, kept_at}
use Rattle.guest_profile.specs.Host.{EventIsTaken, ItemsAreFreed}
use Rattle.guest_profile.proofs.Apart.{ring_bounds}
use Rattle.guest_profile.proofs.Events.{first_end, last_end, segment_of}
use Rattle.guest_profile.proofs.LaidRings.{laid_ring}

-- a ring of which the first items are freed
holds_freed : (n count : ℕ) (r : ItemRing) (memory : Memory) → HoldsRing n r memory → count ≤ r.got → HoldsRing n (reclaimed n count r) memory
holds_freed n count r memory holds within =
    let ring = holds.ring in
    let least = ring.least_places in
    let consumed = ring.consumed in
    let room = ring.room_left in
    let shorter = length-drop count r.put in
    let pos : 0 < n - 1 = omega arith in
    record {
      ring = record {
        least_places = ring.least_places;
        most_places = ring.most_places;
        base_aligned = ring.base_aligned;
        base_below = ring.base_below;
        at_below = mod-lt (r.at + count) (omega arith);
        consumed = omega arith;
        room_left = omega arith;
        texts = All-drop HasBytes count r.put ring.texts;
      };
      places = holds.places;
      items = record {
        size = holds.items.size;
        items = Holds-freed item_form (n - 1) holds.places r.at count r.put pos (omega arith) holds.items.items;
        link = λ k item is last.
            holds.items.link (count + k) item (sym (at_rest r.put count k) ∙ is) (sym (place_shift (n - 1) r.at count k) ∙ last)
            ∙ ap (λ (b : Bool). text (link_with r.base (item_chain item)) b) (sym (turn_bit-shift (n - 1) r.at count k pos));
      };
      there = holds.there;
    }

-- where its consumer is
same_cursor : (a b : ℕ) (c d : Bool) → a ≡ b → c ≡ d → ◌≡◌ {A = Cursor} (record { place = a; cycle = c }) (record { place = b; cycle = d })
same_cursor a b c d e f = rw (e, f) refl

keeps_freed : (n count : ℕ) (r : ItemRing) (home : Home) (memory : Memory) → 4 ≤ n → count ≤ r.got → KeepsEnd n r home memory → KeepsEnd n (reclaimed n count r) home memory
keeps_freed n count r home memory least within kept =
    let shifted : IsShifted n count r (reclaimed n count r) (r.got - count) = IsShifted-reclaimed n count r (r.got - count) (omega (arith, least)) in
    let back : count + (r.got - count) ≡ r.got = omega arith in
    let pointer : pointer_of n r r.got ≡ pointer_of n (reclaimed n count r) (r.got - count) = ap (pointer_of n r) (sym back) ∙ sym shifted.pointer in
    let cycle : cycle_of n r r.got ≡ cycle_of n (reclaimed n count r) (r.got - count) = ap (cycle_of n r) (sym back) ∙ sym shifted.cycle in
    elim kept [
      | inl item ↦ inl (item ∙ ap (λ (c : Cursor). Some (home_bytes home 1 c)) (same_cursor _ _ _ _ pointer cycle))
      | inr link ↦ inr (record {
        kept = link.kept ∙ ap (λ (b : Bool). Some (home_bytes home 1 (record { place = r.base + 16 * (n - 1); cycle = not b }))) cycle;
        before = record {
          first = omega (arith, link.before.first, pointer);
          chain = link.before.chain;
          link = link.before.link ∙ ap (λ (b : Bool). Some (text (link_with r.base link.before.chain) (not b))) cycle;
        };
      })
    ]

pub items_are_freed : ItemsAreFreed
items_are_freed layout lines frames memory end pipe stream count is laid has within =
    let ring = ring_of lines pipe stream in
    let bounds = ring_bounds lines pipe stream laid.lines_are has in
    let same = written_nothing memory (ring_of lines pipe stream).base in
    let holds = holds_freed (places_of pipe) count (ring_of lines pipe stream) memory (laid.rings pipe stream has) within in
    let kept = keeps_freed (places_of pipe) count (ring_of lines pipe stream) (kept_at layout pipe stream) memory bounds.least within (laid.ends pipe stream has) in
    rw same at (laid_ring layout lines frames memory end pipe stream (reclaimed (places_of pipe) count (ring_of lines pipe stream)) (ring_of lines pipe stream).base [] is laid has refl
    (record { first = omega arith; last = omega (arith, bounds.least) }) (rw same holds) (rw same kept))

pub event_is_taken : EventIsTaken
event_is_taken layout lines frames memory end laid some =
    let r = lines.events in
    let n = EVENT_RING_PLACES in
    let shorter = length-drop 1 lines.events.pending in
    let kept = with_events-kept lines (taken EVENT_RING_PLACES lines.events) laid.lines_are in
    let after = IsSegment-taken EVENT_RING_PLACES laid.events.places (first_end EVENT_RING_PLACES lines.events) (last_end EVENT_RING_PLACES lines.events) lines.events
    (segment_of EVENT_RING_PLACES EVENT_RING lines.events memory laid.events) some in
    record {
      lines_are = kept.0;
      whole = laid.whole;
      rings = λ pipe stream has. rw (kept.1 pipe stream) (laid.rings pipe stream has);
      ends = λ pipe stream has. rw (kept.1 pipe stream) (laid.ends pipe stream has);
      events = record { ring = after.ring; places = laid.events.places; events = after.holds; there = laid.events.there };
      producer = record {
        base_is = laid.producer.base_is;
        places = laid.producer.places;
        place = laid.producer.place ∙ after.producer.place;
        cycle = laid.producer.cycle ∙ after.producer.cycle;
        free = omega (arith, laid.producer.free, shorter, some);
      };
      buffers = laid.buffers;
    }
