-- A segment's bytes and the ring that they show: what the steps of its ends do to both. Cited by the calls of the ring.
use Rattle.std.proofs.Common.{◌≡◌, ℕ, zero, suc, ◌+◌, ◌-◌, ◌%◌, ◌^◌, ◌<◌, ◌≤◌, Bool, true, false, not, List, []}
use Rattle.std.proofs.Common.{◌∷◌, ◌++◌, length, length-append, length-drop, length-set, set, get_or, get_or-set_same, get_or-set_other}
use Rattle.std.proofs.Common.{drop, replicate, Some, All, slice_get, slice_index_or, nat_le, if◌then◌else◌, refl, sym, ap, ap₂, ◌∙◌, arith}
use Rattle.std.proofs.Common.{inl, inr}
use Rattle.std.proofs.Math.Nat.{mod-lt, mod-eq_of_lt}
use Rattle.std.proofs.lemmas.Bool.{eq-eqb, ne_eqb}
use Rattle.std.proofs.lemmas.List.{length-replicate}
use Rattle.std.proofs.lemmas.List.Elements.{All-drop}
use Rattle.std.proofs.lemmas.Option.{none-some, slice_get_within, same_Some}
use Rattle.xhci_trb.specs.Text.{text}
use Rattle.ring_ends.specs.declared.End.{End}
use Rattle.cycle_ring.specs.Ring.{item_in, link_with, opening, reclaimed}
use Rattle.cycle_ring.specs.Items.{Item, ItemRing, IsItemRing, HasBytes, item_chain, item_form}
use Rattle.ring_ends.specs.Counted.{turn_bit, counted, IsEnd, bit_from}
use Rattle.ring_ends.specs.Held.{items_from, IsText}
use Rattle.ring_ends.specs.HeldLaws.{at_behind, at_rest, not_twice, items_from-list, Holds-zeros, Holds-put, Holds-beside, Holds-freed}
use Rattle.ring_ends.specs.HeldLaws.{Holds-item, turn_bit-shift, IsEnd-shift}
use Rattle.cycle_ring.proofs.Chains.{IsRing-put}
use Rattle.cycle_ring.specs.Segment.{first_end, shown, HoldsItems, IsSegment}
use Rattle.ring_ends.specs.TurnLaws.{same_item, place_shift}
use Rattle.ring_ends.specs.EndLaws.{counted-end, IsEnd-first, IsEnd-next, turn_bit-ahead, distance-ahead}

-- what is said of an item
pub bytes_of_item : (put : List Item) (k : ℕ) (item : Item) → All HasBytes put → slice_get put k ≡ Some item → HasBytes item
bytes_of_item [] k item all is = absurd (none-some item is)
bytes_of_item (other ∷ put) zero item all is = let same : other ≡ item = same_Some other item is in rw (← same) (all 0 other (omega arith))
bytes_of_item (other ∷ put) (suc k) item all is = bytes_of_item put k item (λ i d within. all (suc i) d (omega arith)) is

-- the bit of the first place from that of a later one, as the later one's from the first's
back_bit : (ahead first later : Bool) → later ≡ (if ahead then first else not first) → (if ahead then later else not later) ≡ first
back_bit true first later is = is
back_bit false first later is = ap not is ∙ not_twice first

-- the first place as an end
pub IsEnd-start : (n : ℕ) (places : List (List ℕ)) (first : ℕ) (enqueue : End) (r : ItemRing) → IsSegment n places first enqueue r
    → IsEnd (n - 1) r.at (first_end first enqueue)
IsEnd-start n places first enqueue r segment =
    let least = segment.ring.least_places in
    let room = segment.ring.room_left in
    let ahead = turn_bit-ahead (n - 1) r.at (length r.put) (omega arith) in
    let later : enqueue.cycle ≡ bit_from first (turn_bit (n - 1) r.at) enqueue.place =
    rw (segment.start, segment.producer.place) (segment.producer.cycle ∙ ahead) in
    record {
      place = segment.start;
      cycle = back_bit (nat_le first enqueue.place) (turn_bit (n - 1) r.at) enqueue.cycle later;
    }

-- the steps from the first place to the ends
pub count-segment : (n : ℕ) (places : List (List ℕ)) (first : ℕ) (enqueue : End) (r : ItemRing) → IsSegment n places first enqueue r
    → item_in (n - 1) first enqueue.place ≡ length r.put
count-segment n places first enqueue r segment =
    let least = segment.ring.least_places in
    let room = segment.ring.room_left in
    ap₂ (item_in (n - 1)) segment.start segment.producer.place ∙ distance-ahead (n - 1) r.at (length r.put) (omega arith)

-- the ring of a segment is what it shows
pub shown-segment : (n base : ℕ) (places : List (List ℕ)) (first : ℕ) (enqueue : End) (r : ItemRing) → base ≡ r.base
    → IsSegment n places first enqueue r → shown n base places first enqueue ≡ r
shown-segment n base places first enqueue r same segment =
    let start : counted (n - 1) (first_end first enqueue) ≡ r.at =
    counted-end (n - 1) r.at (first_end first enqueue) segment.ring.at_below (IsEnd-start n places first enqueue r segment) in
    let put : items_from item_form (n - 1) places r.at (length r.put) ≡ r.put =
    items_from-list item_form (n - 1) places r.at r.put (λ k item is. (segment.holds.items.item k item is).reads) in
    rw (same, start, count-segment n places first enqueue r segment, put, ← segment.fresh) refl

-- so it is a segment of what it shows
pub shows-segment : (n base : ℕ) (places : List (List ℕ)) (first : ℕ) (enqueue : End) (r : ItemRing) → base ≡ r.base
    → IsSegment n places first enqueue r → IsSegment n places first enqueue (shown n base places first enqueue)
shows-segment n base places first enqueue r same segment = rw (shown-segment n base places first enqueue r same segment) segment

-- a segment of zeros
pub IsSegment-opening : (n base : ℕ) (start : End) → 4 ≤ n → n ≤ 256 → base % 16 ≡ 0 → base < 2 ^ 63 → start ≡ record { place = 0; cycle = true }
    → IsSegment n (replicate n (replicate 16 0)) 0 start (opening base)
IsSegment-opening n base start least most aligned below is = record {
  ring = record {
    least_places = least;
    most_places = most;
    base_aligned = aligned;
    base_below = below;
    at_below = omega arith;
    consumed = omega arith;
    room_left = omega arith;
    texts = λ k trb within. absurd (omega arith);
  };
  fresh = refl;
  holds = record {
    size = length-replicate n (replicate 16 0);
    items = Holds-zeros item_form (n - 1) n (omega arith) (omega arith);
    link = λ k item some last. absurd (none-some item some);
  };
  start = sym (mod-eq_of_lt (omega arith));
  producer = rw is (IsEnd-first (n - 1) (0 + 0) (omega arith) (omega arith));
}

-- an item that is written at the producer's end, where the Link isn't next
pub HoldsItems-put : (n base : ℕ) (places : List (List ℕ)) (at : ℕ) (put : List Item) (item : Item) (bytes : List ℕ) (end : End)
    → 4 ≤ n → HoldsItems n base places at put → length put < n - 2 → IsEnd (n - 1) (at + length put) end → IsText item_form bytes item end.cycle
    → end.place + 1 < n - 1 → HoldsItems n base (set places end.place bytes) at (put ++ item ∷ [])
HoldsItems-put n base places at put item bytes end least holds room is_end is_text inside =
    let place = is_end.place in
    record {
      size = length-set places end.place bytes ∙ holds.size;
      items = Holds-put item_form (n - 1) places at put item bytes end (omega (arith, holds.size)) holds.items (omega arith) is_end is_text;
      link = λ k next is last. elim (at_behind put item k next is) [
        | inl before ↦
            let kept : slice_index_or (set places end.place bytes) (n - 1) [] ≡ slice_index_or places (n - 1) [] =
            get_or-set_other places end.place (n - 1) bytes [] (λ same. absurd (omega arith)) in
            rw kept (holds.link k next before.1 last)
        | inr behind ↦ absurd (omega (arith, behind.0, last, place, ap (λ (i : ℕ). (at + i) % (n - 1)) behind.0))
      ];
    }

-- the same at the last place before the Link, with the Link
pub HoldsItems-link : (n base : ℕ) (places : List (List ℕ)) (at : ℕ) (put : List Item) (item : Item) (bytes link : List ℕ) (end : End)
    → 4 ≤ n → HoldsItems n base places at put → length put < n - 2 → IsEnd (n - 1) (at + length put) end → IsText item_form bytes item end.cycle
    → n - 1 ≤ end.place + 1 → link ≡ text (link_with base (item_chain item)) end.cycle
    → HoldsItems n base (set (set places end.place bytes) (n - 1) link) at (put ++ item ∷ [])
HoldsItems-link n base places at put item bytes link end least holds room is_end is_text past is_link =
    let size = length-append put (item ∷ []) in
    let count = length put in
    let within : (at + count) % (n - 1) < n - 1 = mod-lt (at + count) (omega arith) in
    let place = is_end.place in
    let written : slice_index_or (set (set places end.place bytes) (n - 1) link) (n - 1) [] ≡ link =
    get_or-set_same (set places end.place bytes) (n - 1) link [] (omega (arith, length-set places end.place bytes, holds.size)) in
    record {
      size = length-set (set places end.place bytes) (n - 1) link ∙ length-set places end.place bytes ∙ holds.size;
      items = Holds-beside item_form (n - 1) (set places end.place bytes) at (put ++ item ∷ []) (n - 1) link (omega arith) (omega arith)
          (Holds-put item_form (n - 1) places at put item bytes end (omega (arith, holds.size)) holds.items (omega arith) is_end is_text);
      link = λ k next is last. elim (at_behind put item k next is) [
        | inl before ↦ absurd (different (same_item (n - 1) at k count (omega arith) (omega arith) (omega arith)) before.0)
        | inr behind ↦ rw (written, behind.0, ← is_end.cycle, ← behind.1) is_link
      ];
    }
  where
    different : {a b : ℕ} → a ≡ b → a < b → ⊥
    different same less = omega arith

-- the ends that they lead to
pub IsEnd-inside : (n j : ℕ) (end : End) → 4 ≤ n → IsEnd (n - 1) j end → end.place + 1 < n - 1
    → IsEnd (n - 1) (j + 1) (record { place = end.place + 1; cycle = end.cycle })
IsEnd-inside n j end least is inside =
    let next = IsEnd-next (n - 1) j end (omega arith) is in
    rw (ne_eqb (end.place + 1) (n - 1) (λ same. absurd (omega arith))) at next

pub IsEnd-past : (n j : ℕ) (end : End) → 4 ≤ n → IsEnd (n - 1) j end → n - 1 ≤ end.place + 1
    → IsEnd (n - 1) (j + 1) (record { place = 0; cycle = not end.cycle })
IsEnd-past n j end least is past =
    let below : j % (n - 1) < n - 1 = mod-lt j (omega arith) in
    let next = IsEnd-next (n - 1) j end (omega arith) is in
    rw (eq-eqb (end.place + 1) (n - 1) (omega (arith, is.place))) at next

-- an end's place is below the Link's
pub within-end : (n j : ℕ) (end : End) → 1 < n → IsEnd (n - 1) j end → end.place < n - 1
within-end n j end some is = rw (is.place) (mod-lt j (omega arith))

-- a segment's first item may be freed whether or not a consumer has passed it
IsRing-reclaimed : (n m : ℕ) (r : ItemRing) → IsItemRing n r → r.got ≡ 0 → m ≤ length r.put → IsItemRing n (reclaimed n m r)
IsRing-reclaimed n m r ring fresh within =
    let least = ring.least_places in
    let room = ring.room_left in
    let size = length-drop m r.put in
    record {
      least_places = least;
      most_places = ring.most_places;
      base_aligned = ring.base_aligned;
      base_below = ring.base_below;
      at_below = mod-lt (r.at + m) (omega arith);
      consumed = omega arith;
      room_left = omega arith;
      texts = All-drop HasBytes m r.put ring.texts;
    }

-- the first m items freed: their places are stale from then on
pub IsSegment-reclaimed : (n m : ℕ) (places : List (List ℕ)) (first next : ℕ) (enqueue : End) (r : ItemRing)
    → IsSegment n places first enqueue r → m ≤ length r.put → next ≡ (r.at + m) % (n - 1)
    → IsSegment n places next enqueue (reclaimed n m r)
IsSegment-reclaimed n m places first next enqueue r segment within is =
    let ring = segment.ring in
    let least = ring.least_places in
    let room = ring.room_left in
    let fresh = segment.fresh in
    let pos : 0 < n - 1 = omega arith in
    let size = length-drop m r.put in
    let whole : r.at + (m + 0) ≡ r.at + m = omega arith in
    record {
      ring = IsRing-reclaimed n m r ring fresh within;
      fresh = omega arith;
      holds = record {
        size = segment.holds.size;
        items = Holds-freed item_form (n - 1) places r.at m r.put (omega arith) (omega arith) segment.holds.items;
        link = λ k item has last. rw (turn_bit-shift (n - 1) r.at m k pos)
            (segment.holds.link (m + k) item (sym (at_rest r.put m k) ∙ has) (sym (place_shift (n - 1) r.at m k) ∙ last));
      };
      start = is ∙ ap (λ (x : ℕ). x % (n - 1)) (sym whole) ∙ sym (place_shift (n - 1) r.at m 0) ∙ ap (λ (x : ℕ). x % (n - 1)) (omega arith);
      producer = IsEnd-shift (n - 1) r.at m (length (drop m r.put)) _ _ enqueue pos (omega arith) refl segment.producer;
    }

-- items behind the others: what the segment shows then, and that it is a segment of that
pub put-shown : (n base : ℕ) (old new : List (List ℕ)) (first : ℕ) (enqueue end : End) (r : ItemRing) (items : List Item) (room : ℕ)
    → shown n base old first enqueue ≡ r → IsSegment n old first enqueue (shown n base old first enqueue)
    → All HasBytes items → room + length r.put ≡ n - 2 → length items ≤ room
    → ((at : ℕ) (put : List Item) → HoldsItems n base old at put → length put + length items ≤ n - 2 → IsEnd (n - 1) (at + length put) enqueue
    → HoldsItems n base new at (put ++ items))
    → ((at : ℕ) (put : List Item) → HoldsItems n base old at put → length put + length items ≤ n - 2 → IsEnd (n - 1) (at + length put) enqueue
    → IsEnd (n - 1) (at + length put + length items) end)
    → (shown n base new first end ≡ record r { put = r.put ++ items }) × IsSegment n new first end (shown n base new first end)
put-shown n base old new first enqueue end r items room view segment_shown texts left fits holds ends =
    let segment = rw view at segment_shown in
    let same : base ≡ r.base = ap (λ (q : ItemRing). q.base) view in
    let held = rw (← same) at segment.holds in
    let within : length r.put + length items ≤ n - 2 = omega arith in
    let sum : r.at + length (r.put ++ items) ≡ r.at + length r.put + length items = omega (arith, length-append r.put items) in
    let longer : IsSegment n new first end (record r { put = r.put ++ items }) = record {
      ring = IsRing-put n r items segment.ring texts within;
      fresh = segment.fresh;
      holds = rw same at (holds r.at r.put held within segment.producer);
      start = segment.start;
      producer = rw sum (ends r.at r.put held within segment.producer);
    } in
    (shown-segment n base new first end _ same longer, shows-segment n base new first end _ same longer)

-- the item that stands at an end, and its bytes
pub item-there : (n : ℕ) (places : List (List ℕ)) (first : ℕ) (enqueue end : End) (r : ItemRing) (k : ℕ) (bytes : List ℕ)
    → IsSegment n places first enqueue r → IsEnd (n - 1) (r.at + k) end → k < length r.put → end.place < n → bytes ≡ get_or places end.place bytes
    → (item : Item) × (slice_get r.put k ≡ Some item) × IsText item_form bytes item end.cycle × HasBytes item
item-there n places first enqueue end r k bytes segment is used within there =
    let item = Holds-item item_form (n - 1) places r.at r.put end k bytes segment.holds.items is used (omega (arith, segment.holds.size)) there in
    (item.0, item.1, item.2, bytes_of_item r.put k item.0 segment.ring.texts item.1)
