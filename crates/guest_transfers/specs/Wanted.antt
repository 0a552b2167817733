-- The first range of memory that a step lacks.
use Rattle.std.specs.Prelude.{ℕ, ◌==◌, nat_lt, Bool, true, false, not, ◌&&◌, if◌then◌else◌, length as list_length, Option, Some, None}
use Rattle.guest_memory.specs.Bytes.{Memory}
use Rattle.guest_memory.specs.rings.Events.{EventEnd}
use Rattle.guest_memory.specs.declared.rings.context.Front.{Front}
use Rattle.guest_memory.specs.declared.rings.context.Home.TheVariants.{Endpoint}
use Rattle.guest_memory.specs.declared.rings.wanting.Range.{Range}
use Rattle.guest_pipes.specs.declared.acted.Acted.{Acted}
use Rattle.guest_pipes.specs.declared.acted.Acted.TheVariants.{Off, Idle, Full, Emptied, Waits, Worked}
use Rattle.guest_pipes.specs.declared.consumer.Consumer.{Consumer}
use Rattle.guest_memory.specs.rings.Wanted.{look_wanted}
use Rattle.guest_pipes.specs.Gate.{gate, is_running, room_gate}
use Rattle.guest_pipes.specs.Pipe.{PipeState, loaded, ring_home}
use Rattle.guest_pipes.specs.Wanted.{wanted_through}
use Rattle.guest_tags.specs.declared.buffer.Buffer.{Buffer}
use Rattle.guest_tags.specs.declared.device.Phase.{Phase}
use Rattle.guest_tags.specs.declared.device.Phase.TheVariants.{Absent, Gives, Takes, Ended}
use Rattle.guest_tags.specs.declared.tag.Tag.{Tag}
use Rattle.guest_tags.specs.DataIn.{ends_td, has_chunk, is_status}
use Rattle.guest_tags.specs.Devices.{Kind}
use Rattle.guest_tags.specs.Wanted.{wanted_in, wanted_status}
use Rattle.guest_out.specs.Wanted.{wanted_command, wanted_out}
use Rattle.guest_transfers.specs.State.{TransfersWorld, slot_of}
use Rattle.guest_transfers.specs.Steps.{command_world, due_by, in_stepped, in_world, out_world, status_world}
use Rattle.guest_transfers.specs.Orders.{drops_now}

-- whether a step did nothing, so that another may follow it
abbrev pub is_idle : Option Acted → Bool
is_idle None = false
is_idle (Some Off) = true
is_idle (Some Idle) = true
is_idle (Some Full) = true
is_idle (Some Emptied) = false
is_idle (Some Waits) = true
is_idle (Some Worked) = false

-- whether a Normal TRB of data-in waits where nothing of a chunk is left
abbrev pub waits_by : Phase → Tag → Bool → Bool
waits_by Absent tag fed = true
waits_by (Gives count) tag fed = false
waits_by (Takes count) tag fed = true
waits_by (Ended end) tag fed = not (is_status end && ends_td tag fed)

-- of data-in, and where that does nothing, of data-out
abbrev pub either_wanted : Option Range → Bool → Option Range → Option Range
either_wanted (Some range) idle out = Some range
either_wanted None true out = out
either_wanted None false out = None

-- of a step for a doorbell of a stream that isn't there
abbrev pub invalid_wanted : Memory → EventEnd → PipeState → Option Range
invalid_wanted memory events p = if is_running p.state && p.invalid then wanted_through (room_gate memory events) events None else None

-- of a step for the one ring of a pipe without streams
abbrev pub lone_wanted : Memory → EventEnd → PipeState → Option Range
lone_wanted memory events p = wanted_through (gate memory events (loaded p 0)) events (look_wanted memory (ring_home p 0))

-- of a step for a doorbell that no stream's turn serves
abbrev pub stray_wanted : Memory → EventEnd → PipeState → Option Range
stray_wanted memory events p = if p.streams == 0 then lone_wanted memory events p else invalid_wanted memory events p

-- by what was found at the ring's end, where the gate lets a step through
abbrev pub idles_by : Option (Option Acted) → Option Front → (Front → Bool) → Bool
idles_by None found waits = false
idles_by (Some (Some acted)) found waits = is_idle (Some acted)
idles_by (Some None) None waits = false
idles_by (Some None) (Some front) waits = waits front

module _ {D : Type 0} (kind : Kind D) where
  -- whether data-in waits at a buffer of a TD whose bytes move
  abbrev pub waits_at : Consumer → Tag → D → ℕ → Option Buffer → Bool
  waits_at consumer tag device number None = false
  waits_at consumer tag device number (Some buffer) =
      nat_lt consumer.progress.moved buffer.length && (not (has_chunk tag) && waits_by (kind.phase device number) tag consumer.progress.fed)

  abbrev pub in_wanted : TransfersWorld D → ℕ → Option Range
  in_wanted w tag = wanted_in kind (in_world kind w tag) tag w.transfers.data_in

  abbrev pub out_wanted : TransfersWorld D → ℕ → Option Range
  out_wanted w tag = wanted_out kind (out_world kind w tag) tag w.transfers.data_out

  abbrev pub status_wanted : TransfersWorld D → ℕ → Option Range
  status_wanted w tag =
      wanted_status kind (status_world kind w tag) tag (due_by w.transfers tag (kind.phase w.device tag)) w.transfers.status

  abbrev pub command_wanted : TransfersWorld D → Option Range
  command_wanted w = wanted_command (command_world kind w).ring (list_length w.transfers.gathered) (Endpoint w.transfers.home)

  -- a chunk that is dropped needs the event's place alone
  abbrev pub data_wanted_by : Bool → TransfersWorld D → ℕ → Option Range
  data_wanted_by true w tag = wanted_through (room_gate w.memory w.events) w.events None
  data_wanted_by false w tag = either_wanted (in_wanted w tag) (is_idle (in_stepped kind w tag).1) (out_wanted w tag)

  -- of a step for a tag's data
  abbrev pub data_wanted : TransfersWorld D → ℕ → Option Range
  data_wanted w tag = data_wanted_by (drops_now (slot_of w.transfers tag).tag.drops (kind.phase w.device tag)) w tag
