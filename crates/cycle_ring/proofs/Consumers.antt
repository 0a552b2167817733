-- A consumer's end of a segment: on an item, one item on, and beside items that are put or freed.
use Rattle.std.proofs.Common.{◌≡◌, ℕ, ◌+◌, ◌-◌, ◌%◌, ◌<◌, ◌≤◌, Bool, true, false, not, List, ◌++◌, length, length-drop}
use Rattle.std.proofs.Common.{[], get_or, Some, All, slice_get, refl, sym, ap, ◌∙◌, arith}
use Rattle.std.proofs.lemmas.Bool.{lt-ltb}
use Rattle.std.proofs.lemmas.List.{get_or_read}
use Rattle.xhci_trb.specs.declared.Trb.TheVariants.{Link}
use Rattle.xhci_trb.specs.Text.{text}
use Rattle.ring_ends.specs.declared.End.{End}
use Rattle.ring_ends.specs.Counted.{turn_bit, IsEnd}
use Rattle.ring_ends.specs.EndLaws.{IsEnd-first, distance-ahead}
use Rattle.ring_ends.specs.HeldLaws.{item_of, IsEnd-shift}
use Rattle.cycle_ring.specs.Ring.{consumed_at, item_at, opening, reclaimed}
use Rattle.cycle_ring.specs.Items.{Item, ItemRing, IsItemRing, HasBytes, item_chain, item_form}
use Rattle.ring_ends.specs.Held.{IsText}
use Rattle.cycle_ring.specs.Segment.{IsSegment, IsConsumer, items_before, with_consumer}
use Rattle.cycle_ring.proofs.Chains.{IsRing-put}
use Rattle.cycle_ring.proofs.Held.{IsEnd-inside, IsEnd-past, within-end, item-there}

-- a ring with another number of its items consumed
IsRing-got : (n : ℕ) (r : ItemRing) (k : ℕ) → IsItemRing n r → k ≤ length r.put → IsItemRing n (record r { got = k })
IsRing-got n r k ring within = record {
  least_places = ring.least_places;
  most_places = ring.most_places;
  base_aligned = ring.base_aligned;
  base_below = ring.base_below;
  at_below = ring.at_below;
  consumed = within;
  room_left = ring.room_left;
  texts = ring.texts;
}

-- what an end at item k has passed, and that it is a consumer's
pub record AtItem (n : ℕ) (r : ItemRing) (end : End) (k : ℕ) : Type 0 where
  pub before : items_before n r end ≡ k
  pub ring : with_consumer n r end ≡ record r { got = k }
  pub consumer : IsConsumer n r end

pub AtItem-end : (n : ℕ) (r : ItemRing) (end : End) (j k : ℕ) → IsItemRing n (record r { got = j }) → k ≤ length r.put → IsEnd (n - 1) (r.at + k) end
    → AtItem n r end k
AtItem-end n r end j k ring within is =
    let least = ring.least_places in
    let room = ring.room_left in
    let before : items_before n r end ≡ k = rw (is.place) (distance-ahead (n - 1) r.at k (omega arith)) in
    record {
      before = before;
      ring = ap (λ (got : ℕ). record r { got = got }) before;
      consumer = record { ring = IsRing-got n (record r { got = j }) _ ring (rw before within); stands = rw before is };
    }

-- a consumer of a new ring
pub AtItem-opening : (n base : ℕ) (start : End) → IsItemRing n (opening base) → start ≡ record { place = 0; cycle = true } → AtItem n (opening base) start 0
AtItem-opening n base start ring is =
    let least = ring.least_places in
    AtItem-end n (opening base) start 0 0 ring (omega arith) (rw is (IsEnd-first (n - 1) (0 + 0) (omega arith) (omega arith)))

-- its place is one of the turn's
pub within-consumer : (n : ℕ) (r : ItemRing) (end : End) → IsConsumer n r end → end.place < n - 1
within-consumer n r end consumer = within-end n _ end (omega (arith, consumer.ring.least_places)) consumer.stands

-- one item on: at the next place, or behind the Link
pub AtItem-next : (n : ℕ) (r : ItemRing) (end : End) → IsConsumer n r end → items_before n r end < length r.put → end.place + 1 < n - 1
    → AtItem n r (record { place = end.place + 1; cycle = end.cycle }) (items_before n r end + 1)
AtItem-next n r end consumer some inside =
    let ring = consumer.ring in
    let sum : r.at + items_before n r end + 1 ≡ r.at + (items_before n r end + 1) = omega arith in
    let next = IsEnd-inside n (r.at + items_before n r end) end ring.least_places consumer.stands inside in
    AtItem-end n r _ (items_before n r end) (items_before n r end + 1) ring (omega arith) (rw sum at next)

pub AtItem-behind_link : (n : ℕ) (r : ItemRing) (end : End) → IsConsumer n r end → items_before n r end < length r.put → n - 1 ≤ end.place + 1
    → AtItem n r (record { place = 0; cycle = not end.cycle }) (items_before n r end + 1)
AtItem-behind_link n r end consumer some past =
    let ring = consumer.ring in
    let sum : r.at + items_before n r end + 1 ≡ r.at + (items_before n r end + 1) = omega arith in
    let next = IsEnd-past n (r.at + items_before n r end) end ring.least_places consumer.stands past in
    AtItem-end n r _ (items_before n r end) (items_before n r end + 1) ring (omega arith) (rw sum at next)

-- the Link that it comes to
pub text-link : (n base : ℕ) (places : List (List ℕ)) (first : ℕ) (enqueue end : End) (r : ItemRing) (bytes : List ℕ) → base ≡ r.base
    → IsSegment n places first enqueue r → IsConsumer n r end → items_before n r end < length r.put → n - 1 ≤ end.place + 1
    → bytes ≡ get_or places (end.place + 1) bytes
    → (chain : Bool) × (bytes ≡ text (Link base true chain false) (turn_bit (n - 1) (r.at + items_before n r end)))
text-link n base places first enqueue end r bytes same segment consumer some past there =
    let least = segment.ring.least_places in
    let below : end.place < n - 1 = within-consumer n r end consumer in
    let last : end.place + 1 ≡ n - 1 = omega arith in
    let item = item_of r.put (items_before n r end) some in
    let link = segment.holds.link (items_before n r end) item.0 item.1 (omega (arith, consumer.stands.place)) in
    let read = get_or_read places (end.place + 1) bytes (omega (arith, segment.holds.size)) there [] in
    (item_chain item.0, rw same (read ∙ ap (λ (j : ℕ). get_or places j []) last ∙ link))

-- beside items that are put
pub IsConsumer-put : (n : ℕ) (r : ItemRing) (items : List Item) (end : End) → IsConsumer n r end → All HasBytes items
    → length r.put + length items ≤ n - 2 → IsConsumer n (record r { put = r.put ++ items }) end
IsConsumer-put n r items end consumer texts room =
    record { ring = IsRing-put n (with_consumer n r end) items consumer.ring texts room; stands = consumer.stands }

-- beside items that are freed behind it
pub AtItem-reclaimed : (n m : ℕ) (r : ItemRing) (end : End) → IsItemRing n (reclaimed n m r) → IsConsumer n r end → m ≤ items_before n r end
    → AtItem n (reclaimed n m r) end (items_before n r end - m)
AtItem-reclaimed n m r end freed consumer passed =
    let least = consumer.ring.least_places in
    let within = consumer.ring.consumed in
    let size = length-drop m r.put in
    AtItem-end n (reclaimed n m r) end (r.got - m) (items_before n r end - m) freed (omega arith)
    (IsEnd-shift (n - 1) r.at m (items_before n r end - m) _ _ end (omega arith) (omega arith) refl consumer.stands)

-- an item that is consumed is one of the turn's
pub within-passed : (n : ℕ) (r : ItemRing) (end : End) (k : ℕ) → IsConsumer n r end → k < items_before n r end → (k < length r.put) × (k < n - 1)
within-passed n r end k consumer passed =
    let within = consumer.ring.consumed in
    let room = consumer.ring.room_left in
    let least = consumer.ring.least_places in
    (omega arith, omega arith)

-- what an address names, where it is consumed
pub consumed_at-item : (n k pointer : ℕ) (r : ItemRing) → item_at n r pointer ≡ Some k → k < r.got → consumed_at n r pointer ≡ slice_get r.put k
consumed_at-item n k pointer r is consumed = rw (is, lt-ltb k r.got consumed) refl

-- and the bytes at its place
pub consumed-item : (n : ℕ) (places : List (List ℕ)) (first : ℕ) (enqueue end : End) (r : ItemRing) (pointer k place : ℕ) (bytes : List ℕ)
    → IsSegment n places first enqueue r → IsConsumer n r end → k < items_before n r end → item_at n r pointer ≡ Some k
    → (r.at + k) % (n - 1) ≡ place → place < n - 1 → bytes ≡ get_or places place bytes
    → (item : Item) × (consumed_at n (with_consumer n r end) pointer ≡ Some item)
    × IsText item_form bytes item (turn_bit (n - 1) (r.at + k)) × HasBytes item
consumed-item n places first enqueue end r pointer k place bytes segment consumer passed named stands within there =
    let at : End = record { place = place; cycle = turn_bit (n - 1) (r.at + k) } in
    let item = item-there n places first enqueue at r k bytes segment (record { place = sym stands; cycle = refl })
    (within-passed n r end k consumer passed).0 (omega (arith, within)) there in
    (item.0, consumed_at-item n k pointer (with_consumer n r end) named passed ∙ item.1, item.2, item.3)
