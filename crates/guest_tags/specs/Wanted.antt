-- The first range of memory that a step of data-in or status lacks.
use Rattle.std.specs.Prelude.{ℕ, ◌-◌, min, Bool, if◌then◌else◌, length as list_length, Option, Some, None}
use Rattle.guest_memory.specs.Bytes.{Memory}
use Rattle.guest_memory.specs.declared.rings.context.Front.{Front}
use Rattle.guest_memory.specs.declared.rings.context.Found.{Found}
use Rattle.guest_memory.specs.declared.rings.context.Found.TheVariants.{WrongKind, NotYet, Item}
use Rattle.guest_memory.specs.declared.rings.trb.PipeTrb.TheVariants.{Normal, Link, NoOp, EventData, Foreign}
use Rattle.guest_memory.specs.declared.rings.wanting.Range.{Range}
use Rattle.guest_memory.specs.rings.Wanted.{part_wanted}
use Rattle.guest_pipes.specs.declared.consumer.Consumer.{Consumer}
use Rattle.guest_pipes.specs.Pipe.{PipeState}
use Rattle.guest_pipes.specs.Progress.{runs}
use Rattle.guest_pipes.specs.Wanted.{step_wanted}
use Rattle.guest_tags.specs.declared.buffer.Buffer.{Buffer}
use Rattle.guest_tags.specs.declared.device.Phase.{Phase}
use Rattle.guest_tags.specs.declared.device.Phase.TheVariants.{Absent, Gives, Takes, Ended}
use Rattle.guest_tags.specs.declared.tag.Tag.{Tag}
use Rattle.guest_tags.specs.Devices.{Kind}
use Rattle.guest_tags.specs.Tags.{TagWorld}
use Rattle.guest_tags.specs.DataIn.{has_chunk}
use Rattle.guest_tags.specs.Status.{left_of, unit_ready}

-- what a Normal TRB names
abbrev pub buffer_of : Found → Option Buffer
buffer_of WrongKind = None
buffer_of NotYet = None
buffer_of (Item (Normal pointer length flags)) = Some (record { pointer = pointer; length = length; flags = flags })
buffer_of (Item (Link pointer toggle flags)) = None
buffer_of (Item (NoOp flags)) = None
buffer_of (Item (EventData parameter flags)) = None
buffer_of (Item Foreign) = None

-- the buffer in front, of a TD whose bytes move
abbrev pub moving : Consumer → Front → Option Buffer
moving consumer front = if runs consumer.progress.ending then buffer_of front.found else None

-- the part of it that takes so many bytes, or as many as there is room for
abbrev pub moved_part : Memory → Consumer → ℕ → Option Buffer → Option Range
moved_part memory consumer coming None = None
moved_part memory consumer coming (Some buffer) =
    part_wanted memory buffer.pointer consumer.progress.moved (min coming (buffer.length - consumer.progress.moved))

-- how many bytes the device gives next, unless a bad block keeps them
abbrev pub given_next : Phase → ℕ
given_next Absent = 0
given_next (Gives count) = count
given_next (Takes count) = 0
given_next (Ended end) = 0

module _ {D : Type 0} (kind : Kind D) where
  -- how many bytes of a task's data come next: what is left of the chunk, or the next chunk
  abbrev pub coming_in : Tag → D → ℕ → ℕ
  coming_in tag device number = if has_chunk tag then list_length tag.chunk else given_next (kind.phase device number)

  -- how many bytes of an information unit are left to be sent, of the one on its way or of the next
  abbrev pub coming_status : TagWorld D → ℕ → Bool → ℕ
  coming_status w number due = list_length (left_of (unit_ready kind w number due).tag.unit)

  -- of a step of data-in
  abbrev pub wanted_in : TagWorld D → ℕ → PipeState → Option Range
  wanted_in w number p =
      step_wanted w.ring p number (λ front. moved_part w.ring.memory w.ring.consumer (coming_in w.tag w.device number) (moving w.ring.consumer front))

  -- of a step of status
  abbrev pub wanted_status : TagWorld D → ℕ → Bool → PipeState → Option Range
  wanted_status w number due p =
      step_wanted w.ring p number (λ front. moved_part w.ring.memory w.ring.consumer (coming_status w number due) (moving w.ring.consumer front))
