-- The events that the driver hasn't freed: those from his dequeue pointer (ERDP) up to the enqueue pointer, round the segment's end.
use Rattle.std.specs.Prelude.{◌≡◌, ℕ, ◌+◌, ◌*◌, ◌<◌, ◌≤◌}
use Rattle.guest_memory.specs.declared.rings.wanting.Range.{Range}
use Rattle.guest_memory.specs.rings.Events.{EventEnd, free_by}

-- the free places are counted from the driver's dequeue place
pub record IsFreedTo (ring : EventEnd) (dequeue : ℕ) : Type 0 where
  pub enqueue_inside : ring.place < ring.places
  pub dequeue_inside : dequeue < ring.places
  pub counted : ring.free ≡ free_by ring dequeue

-- a place whose event the driver hasn't freed: between the two pointers; or, where the enqueue pointer has gone round, from the dequeue
-- pointer to the segment's end, or from its start
pub data IsUnfreed (ring : EventEnd) (dequeue place : ℕ) : Type 0 where
  Between : dequeue ≤ place → place < ring.place → IsUnfreed ring dequeue place
  ToTheEnd : ring.place < dequeue → dequeue ≤ place → place < ring.places → IsUnfreed ring dequeue place
  FromTheStart : ring.place < dequeue → place < ring.place → IsUnfreed ring dequeue place

-- the 16 bytes of a place
abbrev pub place_range : EventEnd → ℕ → Range
place_range ring place = record { at = ring.base + 16 * place; count = 16 }
