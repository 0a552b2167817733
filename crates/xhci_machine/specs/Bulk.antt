-- A step of Bulk-Out or Bulk-In, in Bulk-Only's alternate setting: of the one ring of the endpoint of data-out, or data-in.
use Rattle.std.specs.Prelude.{ℕ, Bool, true, false, if◌then◌else◌, Option, Some, None, is_some}
use Rattle.guest_bulk.specs.Breaks.{in_break, out_break}
use Rattle.guest_bulk.specs.declared.bulk.Stepped.{Stepped}
use Rattle.guest_bulk.specs.Commands.{BulkWorld}
use Rattle.guest_bulk.specs.Steps.{bulk_after, in_stepped, out_stepped}
use Rattle.guest_bulk.specs.Wanted.{in_wanted, out_wanted}
use Rattle.guest_memory.specs.Bytes.{Memory}
use Rattle.guest_memory.specs.declared.rings.context.Home.{Home}
use Rattle.guest_memory.specs.declared.rings.context.Home.TheVariants.{Endpoint}
use Rattle.guest_memory.specs.declared.rings.wanting.Range.{Range}
use Rattle.guest_memory.specs.rings.Events.{EventEnd}
use Rattle.guest_pipes.specs.declared.acted.Acted.{Acted}
use Rattle.guest_pipes.specs.declared.acted.Acted.TheVariants.{Idle}
use Rattle.guest_pipes.specs.Pipe.{loaded}
use Rattle.guest_tasks.specs.declared.GuestTasks.{GuestTasks}
use Rattle.guest_tasks.specs.Tasks.{tasks_kind}
use Rattle.guest_transfers.specs.declared.control.StreamPipe.{StreamPipe}
use Rattle.guest_transfers.specs.declared.control.StreamPipe.TheVariants.{Status, DataOut, DataIn}
use Rattle.guest_transfers.specs.Orders.{lone_kept, pipe_of}
use Rattle.guest_bulk.specs.Through.{through}
use Rattle.uas_tasks.specs.declared.Next.{Next}
use Rattle.uas_tasks.specs.declared.Next.TheVariants.{Absent, Asks, Waits, Gives, Takes, Ends}
use Rattle.uas_tasks.specs.Machine.{Machine as Tasks, tasks_ended}
use Rattle.xhci_machine.specs.declared.Machine.{Machine}
use Rattle.xhci_machine.specs.Bus.{halted_by}
use Rattle.xhci_machine.specs.Ring.{endpoint_id, pointer_home}
use Rattle.xhci_machine.specs.Turns.{World}

abbrev pub bulk_world : Memory → EventEnd → Machine → StreamPipe → BulkWorld GuestTasks
bulk_world memory events m name = record {
  ring = record { memory = memory; events = events; consumer = loaded (pipe_of m.transfers name) 0 };
  bulk = m.bulk;
  device = m.device;
}

-- where the end of the ring is kept
abbrev pub bulk_home : Machine → StreamPipe → Home
bulk_home m name = Endpoint (pointer_home m.slot.context (endpoint_id name))

-- every task is gone
abbrev pub device_ended : Bool → GuestTasks → GuestTasks
device_ended ends device = if ends then record device { tasks = tasks_ended device.tasks } else device

abbrev pub ended_if : Bool → Machine → Machine
ended_if ends m = record m { device = device_ended ends m.device }

-- what a step left but for its consumer
abbrev pub with_bulk : World → BulkWorld GuestTasks → World
with_bulk w after = record {
  memory = after.ring.memory;
  events = after.ring.events;
  machine = record w.machine { bulk = after.bulk; device = after.device };
}

-- its consumer, the endpoints that the disk halts by it, and the device's task where that is to be ended
abbrev pub bulk_done : StreamPipe → World → BulkWorld GuestTasks → Stepped → World
bulk_done name w after how = record (with_bulk w after) {
  machine =
      ended_if how.ends (halted_by how.halts (record w.machine {
        bulk = after.bulk;
        device = after.device;
        transfers = lone_kept w.machine.transfers name after.ring.consumer;
      }));
}

abbrev pub bulk_kept : StreamPipe → World → BulkWorld GuestTasks × Option Stepped → World × Option Acted
bulk_kept name w (after, None) = (with_bulk w after, None)
bulk_kept name w (after, Some how) = (bulk_done name w after how, Some how.acted)

-- a step of the ring's end; where the endpoint isn't served, TDs whose bytes move are told with a code
abbrev pub bulk_of : Option ℕ → World → StreamPipe → World × Option Acted
bulk_of fault w Status = (w, Some Idle)
bulk_of fault w DataOut =
    bulk_kept DataOut w
    (bulk_after (bulk_world w.memory w.events w.machine DataOut) (out_stepped tasks_kind fault (bulk_world w.memory w.events w.machine DataOut) (bulk_home w.machine DataOut)))
bulk_of fault w DataIn =
    bulk_kept DataIn w
    (bulk_after (bulk_world w.memory w.events w.machine DataIn) (in_stepped tasks_kind fault (bulk_world w.memory w.events w.machine DataIn) (bulk_home w.machine DataIn)))

-- AT ONCE: the disk halts an endpoint whether a TD is there or not (BOT 6.7, cases 8 and 10), and ends its task

abbrev pub broken_kept : World → Option (BulkWorld GuestTasks × Stepped) → World × Option Acted
broken_kept w None = (w, Some Idle)
broken_kept w (Some done) = (
  record w {
    machine = ended_if done.1.ends (halted_by done.1.halts (record w.machine { bulk = done.0.bulk; device = done.0.device }));
  },
  Some done.1.acted,
)

abbrev pub break_on : Memory → EventEnd → Machine → StreamPipe → Option (BulkWorld GuestTasks × Stepped)
break_on memory events m Status = None
break_on memory events m DataOut = out_break tasks_kind (bulk_world memory events m DataOut)
break_on memory events m DataIn = in_break tasks_kind (bulk_world memory events m DataIn)

abbrev pub bulk_broken : World → StreamPipe → World × Option Acted
bulk_broken w name = broken_kept w (break_on w.memory w.events w.machine name)

-- that asks nothing of memory or of the event ring
abbrev pub no_events : EventEnd
no_events = record { base = 0; places = 0; place = 0; cycle = false; free = 0; asks = false }

abbrev pub bulk_breaks : Machine → StreamPipe → Bool
bulk_breaks m name = is_some (break_on (λ a. None) no_events m name)

-- Bulk-Out's turn, or Bulk-In's
abbrev pub bulk_turned : Option ℕ → World → StreamPipe → World × Option Acted
bulk_turned (Some code) w name = bulk_of (Some code) w name
bulk_turned None w name = if bulk_breaks w.machine name then bulk_broken w name else bulk_of None w name

-- the first range that it lacks
abbrev pub bulk_wanted : Option ℕ → Memory → Machine → EventEnd → StreamPipe → Option Range
bulk_wanted fault memory m events Status = None
bulk_wanted fault memory m events DataOut = out_wanted tasks_kind fault (bulk_world memory events m DataOut) (bulk_home m DataOut)
bulk_wanted fault memory m events DataIn = in_wanted tasks_kind fault (bulk_world memory events m DataIn) (bulk_home m DataIn)

-- REQUESTS: hosts of Bulk-Only don't flush, so that their writes go through

abbrev pub through_next : Next → Next
through_next Absent = Absent
through_next (Asks number request) = Asks number (through request)
through_next Waits = Waits
through_next (Gives count) = Gives count
through_next (Takes count) = Takes count
through_next Ends = Ends

abbrev pub asked_in : Bool → Next → Next
asked_in bulk next = if bulk then through_next next else next

abbrev pub as_asked : Bool → Tasks × Next → Tasks × Next
as_asked bulk asked = (asked.0, asked_in bulk asked.1)
