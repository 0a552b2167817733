-- The steps that a round takes in turns, beside the port's and the command ring's: endpoint 0, the command pipe, doorbells that no tag's turn
-- serves, and a tag's data and status, each once the device context is tested. None of what a step did, and the Bool false: memory isn't
-- there, and nothing behind that is done.
use Rattle.std.specs.Prelude.{ℕ, ◌-◌, ◌==◌, Bool, true, false, ◌&&◌, ◌||◌, if◌then◌else◌, Option, Some, None, is_some}
use Rattle.guest_bulk.specs.Commands.{bulk_reset, bulk_restarted}
use Rattle.guest_memory.specs.Bytes.{Memory}
use Rattle.guest_pipes.specs.declared.acted.Acted.{Acted}
use Rattle.guest_pipes.specs.declared.consumer.Consumer.{Consumer}
use Rattle.guest_pipes.specs.Gate.{is_running}
use Rattle.guest_pipes.specs.Pipe.{PipeState, has_stray, loaded, rung_on}
use Rattle.guest_memory.specs.rings.Events.{EventEnd}
use Rattle.guest_tasks.specs.declared.GuestTasks.{GuestTasks}
use Rattle.guest_tasks.specs.Tasks.{tasks_kind}
use Rattle.guest_transfers.specs.declared.control.StreamPipe.{StreamPipe}
use Rattle.guest_transfers.specs.declared.control.StreamPipe.TheVariants.{Status, DataOut, DataIn}
use Rattle.guest_transfers.specs.Orders.{data_stepped, stray_on, pipe_of, tags_cleared}
use Rattle.guest_transfers.specs.Silent.{next_rung, silent_command, silent_on}
use Rattle.guest_transfers.specs.State.{TransfersState, TransfersWorld}
use Rattle.guest_transfers.specs.Steps.{command_stepped, status_stepped}
use Rattle.xhci_control.specs.declared.pipe.Served.{Served}
use Rattle.xhci_control.specs.Steps.{ControlWorld, stepped}
use Rattle.xhci_machine.specs.declared.Machine.{Machine}
use Rattle.uas_profile.specs.declared.Pipe.TheVariants.{Command}
use Rattle.xhci_machine.specs.Bulk.{bulk_breaks, bulk_turned, ended_if}
use Rattle.xhci_machine.specs.Bus.{fault_in, has_bulk, pipe_fault, stall_error, still_halted, stream_fault}
use Rattle.xhci_machine.specs.Contexts.{is_due, of_endpoint, of_tag}
use Rattle.xhci_machine.specs.Steps.{commands_stepped}
use Rattle.xhci_machine.specs.Turns.{World, left_after, noted, port_turned, settled, tells_port}

-- A TURN

-- the world, how many steps are left of the budget, and whether memory was there
abbrev pub Turning : Type 0
Turning = (World × ℕ) × Bool

-- what a step did is noted, and counts
abbrev pub noted_in : ℕ → World × Option Acted → Turning
noted_in left (w, None) = ((w, left), false)
noted_in left (w, Some acted) = (((noted w acted).0, left_after acted left), (noted w acted).1)

-- there is no step once none is left
abbrev pub turned : ℕ → World → World × Option Acted → Turning
turned left w step = if left == 0 then ((w, 0), true) else noted_in left step

-- the port's turn is a step where it tells something
abbrev pub port_in : ℕ → World → Turning
port_in left w =
    if left == 0 then ((w, 0), true) else (((port_turned w).0, (if tells_port w then left - 1 else left)), (port_turned w).1)

-- ENDPOINT 0

abbrev pub control_world : World → ControlWorld
control_world w = record { memory = w.memory; events = w.events; pipe = w.machine.control }

abbrev pub with_control : World → ControlWorld → World
with_control w after = record { memory = after.memory; events = after.events; machine = record w.machine { control = after.pipe } }

-- the disk was configured anew: nothing is kept of a tag, or of Bulk-Only's transport
abbrev pub restarted : Bool → Machine → Machine
restarted again m = record m {
  transfers = if again then tags_cleared m.transfers else m.transfers;
  bulk = if again then bulk_restarted m.bulk else m.bulk;
}

-- Bulk-Only's reset: a CBW is awaited
abbrev pub awaiting : Bool → Machine → Machine
awaiting again m = record m { bulk = if again then bulk_reset m.bulk else m.bulk }

-- either way every task is gone
abbrev pub answered : Served → Machine → Machine
answered how m = still_halted (awaiting how.bulk_reset (restarted how.restarted (ended_if (how.restarted || how.bulk_reset) m)))

abbrev pub served : World → ControlWorld × Option Served → World × Option Acted
served w (after, None) = (with_control w after, None)
served w (after, Some how) = (record (with_control w after) { machine = answered how (with_control w after).machine }, Some how.acted)

unfoldable pub control_stepped : World → World × Option Acted
control_stepped w = of_endpoint w (is_due w.machine.control.consumer) (served w (stepped (fault_in w.machine) (control_world w)))

-- A DOORBELL THAT NO TAG'S TURN SERVES: of a stream that isn't there, of a pipe without streams, or any of an endpoint that isn't served

abbrev pub with_stray : World → Memory × (EventEnd × (TransfersState × Option Acted)) → World × Option Acted
with_stray w after = (record { memory = after.0; events = after.1.0; machine = record w.machine { transfers = after.1.1.0 } }, after.1.1.1)

-- whether a step that tells what nothing serves looks at it
abbrev pub has_rung : PipeState → Bool
has_rung p = has_stray p || is_some (next_rung p)

-- by what its TDs are told with, and whether it is one of Bulk-Only's transport, where the disk may halt an endpoint without a doorbell
abbrev pub rings_by : Option ℕ → Bool → Machine → StreamPipe → Bool
rings_by (Some code) false m name = is_running (pipe_of m.transfers name).state && has_rung (pipe_of m.transfers name)
rings_by (Some code) true m name = is_running (pipe_of m.transfers name).state && rung_on (pipe_of m.transfers name) 0
rings_by None false m name = is_running (pipe_of m.transfers name).state && has_stray (pipe_of m.transfers name)
rings_by None true m name = bulk_breaks m name || (is_running (pipe_of m.transfers name).state && rung_on (pipe_of m.transfers name) 0)

-- whether its step looks at it
abbrev pub is_stray : Machine → StreamPipe → Bool
is_stray m name = rings_by (stream_fault m name) (has_bulk m name) m name

-- Bulk-Out or Bulk-In in Bulk-Only's setting, whether it is served or not. UAS has no ring without streams: a TD there is told with Stall Error.
abbrev pub stray_by : Option ℕ → Bool → World → StreamPipe → World × Option Acted
stray_by (Some code) false w name = with_stray w (silent_on code w.memory w.events w.machine.transfers name)
stray_by None false w name = with_stray w (stray_on stall_error w.memory w.events w.machine.transfers name)
stray_by (Some code) true w name = bulk_turned (Some code) w name
stray_by None true w name = bulk_turned None w name

unfoldable pub stray_stepped : World → StreamPipe → World × Option Acted
stray_stepped w name = of_endpoint w (is_stray w.machine name) (stray_by (stream_fault w.machine name) (has_bulk w.machine name) w name)

-- THE PIPES OF THE TASKS

abbrev pub transfers_world : World → TransfersWorld GuestTasks
transfers_world w = record { memory = w.memory; events = w.events; transfers = w.machine.transfers; device = w.machine.device }

abbrev pub with_transfers : World → TransfersWorld GuestTasks × Option Acted → World × Option Acted
with_transfers w after = (
  record {
    memory = after.0.memory;
    events = after.0.events;
    machine = record w.machine { transfers = after.0.transfers; device = after.0.device };
  },
  after.1,
)

-- the command pipe, by what its TDs are told with where nothing serves it
abbrev pub command_by : Option ℕ → World → World × Option Acted
command_by (Some code) w = with_stray w (silent_command code w.memory w.events w.machine.transfers)
command_by None w = with_transfers w (command_stepped tasks_kind (transfers_world w))

unfoldable pub command_pipe_stepped : World → World × Option Acted
command_pipe_stepped w = of_endpoint w (is_due w.machine.transfers.command) (command_by (pipe_fault w.machine Command) w)

-- one ring of a tag
abbrev pub ring_on : Machine → StreamPipe → ℕ → Consumer
ring_on m name tag = loaded (pipe_of m.transfers name) tag

-- a tag's data and its status, where something serves tags
unfoldable pub data_due : World → ℕ → World × Option Acted
data_due w tag =
    of_endpoint w (is_due (ring_on w.machine DataIn tag) || is_due (ring_on w.machine DataOut tag))
    (with_transfers w (data_stepped tasks_kind (transfers_world w) tag))

unfoldable pub data_of : World → ℕ → World × Option Acted
data_of w tag = of_tag w (data_due w tag)

unfoldable pub status_due : World → ℕ → World × Option Acted
status_due w tag =
    of_endpoint w (is_due (ring_on w.machine Status tag)) (with_transfers w (status_stepped tasks_kind (transfers_world w) tag))

unfoldable pub status_of : World → ℕ → World × Option Acted
status_of w tag = of_tag w (status_due w tag)

-- A ROUND, UP TO THE TAGS: each turn comes while memory is there

abbrev pub then_port : Turning → Turning
then_port (at, false) = (at, false)
then_port (at, true) = port_in at.1 at.0

abbrev pub then_commands : Turning → Turning
then_commands (at, false) = (at, false)
then_commands (at, true) = turned at.1 at.0 (commands_stepped at.0)

abbrev pub then_control : Turning → Turning
then_control (at, false) = (at, false)
then_control (at, true) = turned at.1 at.0 (control_stepped at.0)

abbrev pub then_stray : StreamPipe → Turning → Turning
then_stray name (at, false) = (at, false)
then_stray name (at, true) = turned at.1 at.0 (stray_stepped at.0 name)

-- the command pipe, and then doorbells that no tag's turn serves
unfoldable pub pipes_turned : ℕ → World → Turning
pipes_turned left w = then_stray DataIn (then_stray DataOut (then_stray Status (turned left w (command_pipe_stepped w))))

abbrev pub then_pipes : Turning → Turning
then_pipes (at, false) = (at, false)
then_pipes (at, true) = pipes_turned at.1 at.0

-- what is still to be told is told first
abbrev pub settled_in : ℕ → World → Turning
settled_in left w = (((settled w).0, left), (settled w).1)

unfoldable pub front_turned : ℕ → World → Turning
front_turned left w = then_pipes (then_control (then_commands (then_port (settled_in left w))))
