-- What a step finds in front, and where it may write.
use Rattle.std.specs.Prelude.{◌≡◌, ℕ, ◌+◌, ◌-◌, ◌<◌, min, Bool, false, if◌then◌else◌, List, [], length as list_length, Option, Some, None, unwrap_or}
use Rattle.guest_memory.specs.Bytes.{Memory, is_in, is_there, ◌>>=◌}
use Rattle.guest_memory.specs.declared.rings.context.Front.{Front}
use Rattle.guest_memory.specs.declared.rings.context.Home.{Home}
use Rattle.guest_memory.specs.declared.rings.wanting.Range.{Range}
use Rattle.guest_memory.specs.rings.Ends.{looked}
use Rattle.guest_memory.specs.rings.Events.{EventEnd, enqueue_pointer}
use Rattle.guest_pipes.specs.declared.acted.Acted.{Acted}
use Rattle.guest_pipes.specs.declared.consumer.Consumer.{Consumer}
use Rattle.guest_pipes.specs.Gate.{gate}
use Rattle.guest_pipes.specs.Step.{World}
use Rattle.guest_tags.specs.declared.buffer.Buffer.{Buffer}
use Rattle.guest_tags.specs.declared.device.Phase.{Phase}
use Rattle.guest_tags.specs.declared.device.Phase.TheVariants.{Absent, Gives, Takes, Ended}
use Rattle.guest_tags.specs.DataIn.{has_chunk}
use Rattle.guest_tags.specs.Devices.{Kind}
use Rattle.guest_tags.specs.Tags.{TagWorld}
use Rattle.guest_tags.specs.Wanted.{coming_status, moving}

-- an address is in none of a range's bytes
abbrev pub IsOutside : ℕ → Range → Type 0
IsOutside a range = is_in range.at range.count a ≡ false

-- no byte of one range is in another
abbrev pub AreApart : Range → Range → Type 0
AreApart one other = (k : ℕ) → k < one.count → IsOutside (one.at + k) other

abbrev pub nowhere : Range
nowhere = record { at = 0; count = 0 }

-- the next event's place
abbrev pub event_range : EventEnd → Range
event_range events = record { at = enqueue_pointer events; count = 16 }

-- what stands in front, where nothing holds the step back
abbrev pub let_through : Option (Option Acted) → Option Front → Option Front
let_through None found = None
let_through (Some None) found = found
let_through (Some (Some acted)) found = None

abbrev pub front_of : World → Home → Option Front
front_of w home = let_through (gate w.memory w.events w.consumer) (looked w.memory home)

-- the buffer in front, of a TD whose bytes move
abbrev pub buffer_in_front : World → Home → Option Buffer
buffer_in_front w home = front_of w home >>= moving w.consumer

-- a range of which all is there, else none
abbrev pub where_there : Memory → Range → Range
where_there memory range = if is_there memory range.at range.count then range else nowhere

-- the part of a buffer that takes so many bytes, or as many as there is room for, behind those that have moved
abbrev pub part_ahead : Consumer → ℕ → Buffer → Range
part_ahead consumer coming buffer = record {
  at = buffer.pointer + consumer.progress.moved;
  count = min coming (buffer.length - consumer.progress.moved);
}

abbrev pub part_of : Memory → Consumer → ℕ → Option Buffer → Range
part_of memory consumer coming None = nowhere
part_of memory consumer coming (Some buffer) = where_there memory (part_ahead consumer coming buffer)

-- a byte of that part isn't there
abbrev pub IsMissing : World → ℕ → Buffer → Type 0
IsMissing w coming buffer = is_there w.memory (part_ahead w.consumer coming buffer).at (part_ahead w.consumer coming buffer).count ≡ false

-- the bytes that a device gives next
abbrev pub given_by : Phase → Option (List ℕ) → List ℕ
given_by Absent given = []
given_by (Gives count) given = unwrap_or given []
given_by (Takes count) given = []
given_by (Ended end) given = []

module _ {D : Type 0} (kind : Kind D) where
  -- the bytes of a task's data that come next: what is left of the chunk, or what the device gives
  abbrev pub coming : TagWorld D → ℕ → List ℕ
  coming w number = if has_chunk w.tag then w.tag.chunk else given_by (kind.phase w.device number) (kind.given w.device number)

  -- the part of a buffer that a step of data-in fills
  abbrev pub part_in : TagWorld D → ℕ → Home → Range
  part_in w number home = part_of w.ring.memory w.ring.consumer (list_length (coming w number)) (buffer_in_front w.ring home)

  -- and a step of status, with the information unit that is on its way or comes next
  abbrev pub part_status : TagWorld D → ℕ → Bool → Home → Range
  part_status w number due home = part_of w.ring.memory w.ring.consumer (coming_status kind w number due) (buffer_in_front w.ring home)
