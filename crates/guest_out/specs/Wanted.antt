-- The first range of memory that a step of data-out or of the command pipe lacks.
use Rattle.std.specs.Prelude.{ℕ, ◌-◌, min, if◌then◌else◌, length as list_length, Option, Some, None}
use Rattle.guest_memory.specs.Bytes.{Memory}
use Rattle.guest_memory.specs.declared.rings.context.Home.{Home}
use Rattle.guest_memory.specs.declared.rings.context.Front.{Front}
use Rattle.guest_memory.specs.declared.rings.wanting.Range.{Range}
use Rattle.guest_memory.specs.rings.Ends.{looked}
use Rattle.guest_memory.specs.rings.Wanted.{look_wanted, part_wanted}
use Rattle.guest_pipes.specs.declared.consumer.Consumer.{Consumer}
use Rattle.guest_pipes.specs.Gate.{gate}
use Rattle.guest_pipes.specs.Pipe.{PipeState}
use Rattle.guest_pipes.specs.Step.{World}
use Rattle.guest_pipes.specs.Wanted.{step_wanted, wanted_of, wanted_through}
use Rattle.guest_tags.specs.declared.buffer.Buffer.{Buffer}
use Rattle.guest_tags.specs.declared.device.Phase.{Phase}
use Rattle.guest_tags.specs.declared.device.Phase.TheVariants.{Absent, Gives, Takes, Ended}
use Rattle.guest_tags.specs.Devices.{Kind}
use Rattle.guest_tags.specs.Wanted.{moving}
use Rattle.guest_out.specs.Immediate.{is_immediate}
use Rattle.guest_out.specs.Worlds.{OutWorld}

-- so many bytes of a buffer behind those that were moved, unless they are in the TRB itself
abbrev pub drawn_part : Memory → Buffer → ℕ → ℕ → Option Range
drawn_part memory buffer moved count = if is_immediate buffer then None else part_wanted memory buffer.pointer moved count

-- the part of the buffer in front of which the chunk lacks so many bytes
abbrev pub out_part : Memory → Consumer → ℕ → Option Buffer → Option Range
out_part memory consumer lacking None = None
out_part memory consumer lacking (Some buffer) = drawn_part memory buffer consumer.progress.moved (min lacking (buffer.length - consumer.progress.moved))

-- how many bytes the device takes next
abbrev pub taken_next : Phase → ℕ
taken_next Absent = 0
taken_next (Gives count) = 0
taken_next (Takes count) = count
taken_next (Ended end) = 0

-- the part of the buffer in front that is gathered of an information unit
abbrev pub command_part : Memory → ℕ → Option Buffer → Option Range
command_part memory held None = None
command_part memory held (Some buffer) = drawn_part memory buffer 0 (min buffer.length (1024 - held))

-- of a step of the command pipe, whose end is kept there, with so many bytes gathered
abbrev pub wanted_command : World → ℕ → Home → Option Range
wanted_command w held home =
    wanted_through (gate w.memory w.events w.consumer) w.events
    (wanted_of (looked w.memory home) (look_wanted w.memory home) (λ front. command_part w.memory held (moving w.consumer front)))

module _ {D : Type 0} (kind : Kind D) where
  -- of a step of data-out
  abbrev pub wanted_out : OutWorld D → ℕ → PipeState → Option Range
  wanted_out w number p =
      step_wanted w.ring p number
      (λ front. out_part w.ring.memory w.ring.consumer (taken_next (kind.phase w.device number) - list_length w.taken) (moving w.ring.consumer front))
