-- What a step of either controller stands on, and what it leaves in memory.
use Rattle.std.specs.Prelude.{◌≡◌, ℕ, ◌+◌, ◌≤◌, true, false, length as list_length, Some, slice_get}
use Rattle.uas_profile.specs.declared.TheConstants.{MOST_EVENTS}
use Rattle.xhci_trb.specs.declared.Trb.TheVariants.{Normal}
use Rattle.xhci_trb.specs.declared.TrbFlags.{TrbFlags}
use Rattle.xhci_trb.specs.Text.{text}
use Rattle.cycle_ring.specs.Items.{ItemRing, known}
use Rattle.event_ring.specs.declared.Event.{Event}
use Rattle.event_ring.specs.Events.{trb_of}
use Rattle.stream_array.specs.Rings.{LinesState}
use Rattle.guest_memory.specs.Bytes.{Memory, written}
use Rattle.guest_memory.specs.declared.rings.cursor.Cursor.{Cursor}
use Rattle.guest_memory.specs.declared.rings.context.Home.{Home}
use Rattle.guest_memory.specs.rings.Ends.{home_at, home_bytes}
use Rattle.guest_memory.specs.rings.Events.{EventEnd, enqueue_pointer}
use Rattle.guest_pipes.specs.declared.consumer.Consumer.{Consumer}
use Rattle.guest_pipes.specs.declared.consumer.EndpointState.TheVariants.{Running}
use Rattle.guest_pipes.specs.Progress.{fresh}
use Rattle.guest_profile.specs.Rings.{flags_of}

-- the consumer of a ring at a TD's start: its endpoint runs, and its doorbell is rung
abbrev pub rung_consumer : ℕ → Consumer
rung_consumer endpoint = record { endpoint = endpoint; state = Running; rung = true; progress = fresh }

-- Both have room for an event. The profile's controller alone would post one more, as its ring keeps one place empty and the other's two.
abbrev pub HasRoom : LinesState → Type 0
HasRoom lines = list_length lines.events.pending + 2 ≤ MOST_EVENTS

-- The TRB in front of a ring is a whole TD and asks for its event, as each TRB of the host's is that isn't a data TD's.
-- Worked: flags 16, IOC, on the command pipe, and 18, ISP and IOC, on a status stream.
pub record IsTdInFront (ring : ItemRing) (pointer length td_size : ℕ) (flags : TrbFlags) : Type 0 where
  pub front : slice_get ring.put ring.got ≡ Some (known (Normal pointer length td_size flags))
  pub last : (flags_of flags).chain ≡ false
  pub told : (flags_of flags).ioc ≡ true

-- memory with an event in its place, and a ring's new end where that is kept: no other byte changes
abbrev pub told_memory : Memory → EventEnd → Event → Home → Cursor → Memory
told_memory memory end event home cursor =
    written (written memory (enqueue_pointer end) (text (trb_of event) end.cycle)) (home_at home) (home_bytes home 1 cursor)
