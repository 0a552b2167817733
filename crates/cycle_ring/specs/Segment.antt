-- The bytes of a ring's segment, and the items that they hold (xHCI 1.2, 4.9.2 and 4.11.5).
use Rattle.std.specs.Prelude.{◌≡◌, ℕ, ◌+◌, ◌-◌, ◌%◌, ◌<◌, true, false, List, [], length, Some, slice_get, slice_index_or}
use Rattle.xhci_trb.specs.Text.{text}
use Rattle.ring_ends.specs.declared.End.{End}
use Rattle.cycle_ring.specs.Ring.{RingOf, item_in, link_with, pointer_of}
use Rattle.cycle_ring.specs.Items.{Item, ItemRing, IsItemRing, item_chain, item_form}
use Rattle.ring_ends.specs.Counted.{turn_bit, counted, bit_from, IsEnd}
use Rattle.ring_ends.specs.Held.{items_from, Holds}

-- The first place that isn't reclaimed, with its Cycle bit: the producer stands on the same turn, so its cycle state
-- is that bit where it is at or behind the place, and the other where it has passed the Link.
abbrev pub first_end : ℕ → End → End
first_end first enqueue = record { place = first; cycle = bit_from first enqueue.cycle enqueue.place }

-- the items between the first place and the producer's end; seen without a consumer, none of them is consumed
abbrev pub shown : ℕ → ℕ → List (List ℕ) → ℕ → End → ItemRing
shown n base places first enqueue = record {
  base = base;
  at = counted (n - 1) (first_end first enqueue);
  put = items_from item_form (n - 1) places (counted (n - 1) (first_end first enqueue)) (item_in (n - 1) first enqueue.place);
  got = 0;
}

-- The bytes hold items from the counted place `at` on. Behind the last place before it the Link is written, with the Cycle
-- bit and the Chain bit of the item there (4.11.5.1).
pub record HoldsItems (n base : ℕ) (places : List (List ℕ)) (at : ℕ) (put : List Item) : Type 0 where
  pub size : length places ≡ n
  pub items : Holds item_form (n - 1) places at put
  pub link : (k : ℕ) (item : Item) → slice_get put k ≡ Some item → (at + k) % (n - 1) ≡ n - 2
      → slice_index_or places (n - 1) [] ≡ text (link_with base (item_chain item)) (turn_bit (n - 1) (at + k))

-- Bytes, first place and producer's end of a ring. At most n - 2 of n - 1 places are in use, so the enqueue place never is.
pub record IsSegment (n : ℕ) (places : List (List ℕ)) (first : ℕ) (enqueue : End) (r : ItemRing) : Type 0 where
  pub ring : IsItemRing n r
  pub fresh : r.got ≡ 0
  pub holds : HoldsItems n r.base places r.at r.put
  pub start : first ≡ r.at % (n - 1)
  pub producer : IsEnd (n - 1) (r.at + length r.put) enqueue

-- The items that a consumer's end has passed: those from the first place to it.
-- Worked: of 19 places and the first item at 16, an end at place 0 has passed 3.
abbrev pub items_before : {A : Type 0} → ℕ → RingOf A → End → ℕ
items_before n r end = item_in (n - 1) (r.at % (n - 1)) end.place

-- the ring of a segment whose consumer's end this is
abbrev pub with_consumer : {A : Type 0} → ℕ → RingOf A → End → RingOf A
with_consumer n r end = record r { got = items_before n r end }

-- a consumer's end: at an item or behind the last, with the cycle state of its turn
pub record IsConsumer (n : ℕ) (r : ItemRing) (end : End) : Type 0 where
  pub ring : IsItemRing n (with_consumer n r end)
  pub stands : IsEnd (n - 1) (r.at + items_before n r end) end

-- item k is put, and this is its address
abbrev pub IsItem : {A : Type 0} → ℕ → RingOf A → ℕ → ℕ → Type 0
IsItem n r k pointer = (k < length r.put) × (pointer ≡ pointer_of n r k)
