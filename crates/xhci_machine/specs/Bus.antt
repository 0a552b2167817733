-- Whether the device answers on the bus, which of its endpoints it serves, and which it halted (xHCI 1.2, 4.10.2 and 5.4.8; USB 3.2, 9.1.1.5 and
-- 9.4.5; BOT 6.6.1).
use Rattle.std.specs.Prelude.{ℕ, ◌==◌, Bool, true, false, ◌&&◌, ◌||◌, not, if◌then◌else◌, Option, Some, None}
use Rattle.guest_bulk.specs.declared.bulk.Bulk.{Bulk}
use Rattle.guest_bulk.specs.declared.bulk.Halting.{Halting}
use Rattle.guest_bulk.specs.declared.bulk.Halting.TheVariants.{Nothing, BulkIn, BulkOut, Both}
use Rattle.guest_bulk.specs.Commands.{in_forgotten, out_forgotten, reset_due}
use Rattle.guest_transfers.specs.declared.control.StreamPipe.{StreamPipe}
use Rattle.guest_transfers.specs.declared.control.StreamPipe.TheVariants.{Status, DataOut, DataIn}
use Rattle.guest_transfers.specs.Orders.{pipe_of}
use Rattle.uas_profile.specs.declared.Pipe.{Pipe}
use Rattle.uas_profile.specs.declared.Pipe.TheVariants as endpoint
use Rattle.usb_disk.specs.declared.Alternate.{Alternate}
use Rattle.usb_disk.specs.declared.Alternate.TheVariants.{BulkOnly, Uas}
use Rattle.usb_disk.specs.Answers.{alternate_of, has_pipe, is_halted}
use Rattle.xhci_control.specs.declared.pipe.ControlPipe.{ControlPipe}
use Rattle.xhci_control.specs.Steps.{pipe_halted}
use Rattle.xhci_machine.specs.declared.Machine.{Machine}

-- nothing answers at the port: no device is connected, or the port isn't enabled (CCS, PED)
abbrev pub is_cut : Machine → Bool
is_cut m = not (m.registers.port.connected && m.registers.port.enabled)

-- nothing serves the pipes: the disk isn't configured either
abbrev pub is_silent : Machine → Bool
is_silent m = is_cut m || not m.control.disk.configured

abbrev pub is_bulk_only : Alternate → Bool
is_bulk_only BulkOnly = true
is_bulk_only Uas = false

-- the disk is in Bulk-Only's alternate setting
abbrev pub is_bulk : Machine → Bool
is_bulk m = is_bulk_only (alternate_of m.control.disk.settings)

-- nothing serves tags, which are UAS's alone
abbrev pub has_no_tags : Machine → Bool
has_no_tags m = is_silent m || is_bulk m

-- USB Transaction Error (table 6-90, 4.10.2.3)
abbrev pub transaction_error : ℕ
transaction_error = 4

-- Stall Error (table 6-90, 4.10.2.1)
abbrev pub stall_error : ℕ
stall_error = 6

-- what endpoint 0's TDs are told with there
abbrev pub fault_in : Machine → Option ℕ
fault_in m = if is_cut m then Some transaction_error else None

-- What the TDs of an endpoint are told with that isn't served: of a disk that doesn't answer there, or whose alternate setting doesn't have it, and
-- of one that it halted.
abbrev pub pipe_fault : Machine → Pipe → Option ℕ
pipe_fault m pipe =
    if is_silent m || not (has_pipe (alternate_of m.control.disk.settings) pipe) then Some transaction_error
    else if is_halted m.control.disk.halts pipe then Some stall_error
    else None

abbrev pub pipe_named : StreamPipe → Pipe
pipe_named Status = endpoint.Status
pipe_named DataOut = endpoint.DataOut
pipe_named DataIn = endpoint.DataIn

abbrev pub stalled_if : Bool → Option ℕ → Option ℕ
stalled_if streams (Some code) = Some code
stalled_if true None = Some stall_error
stalled_if false None = None

-- Bulk-Only has no streams
abbrev pub stream_fault : Machine → StreamPipe → Option ℕ
stream_fault m name = stalled_if (is_bulk m && not ((pipe_of m.transfers name).streams == 0)) (pipe_fault m (pipe_named name))

-- Bulk-Only's transport stands at the end of the ring, also while the endpoint isn't served
abbrev pub has_bulk : Machine → StreamPipe → Bool
has_bulk m name =
    is_bulk m && (has_pipe (alternate_of m.control.disk.settings) (pipe_named name) && (pipe_of m.transfers name).streams == 0)

-- WHAT BULK-ONLY'S TRANSPORT HALTS, AND WHAT IT FORGETS

abbrev pub control_halted : Halting → ControlPipe → ControlPipe
control_halted Nothing pipe = pipe
control_halted BulkIn pipe = pipe_halted pipe endpoint.DataIn
control_halted BulkOut pipe = pipe_halted pipe endpoint.DataOut
control_halted Both pipe = pipe_halted (pipe_halted pipe endpoint.DataIn) endpoint.DataOut

abbrev pub halted_by : Halting → Machine → Machine
halted_by halting m = record m { control = control_halted halting m.control }

-- behind what was no CBW both endpoints stay halted until the reset, whatever the host clears
abbrev pub still_halted : Machine → Machine
still_halted m = record m { control = if reset_due m.bulk.stage then control_halted Both m.control else m.control }

-- what was moved of the ring in front of an endpoint is forgotten
abbrev pub forgotten_on : StreamPipe → Bulk → Bulk
forgotten_on Status bulk = bulk
forgotten_on DataOut bulk = out_forgotten bulk bulk.stage
forgotten_on DataIn bulk = in_forgotten bulk bulk.stage

abbrev pub bulk_forgotten : StreamPipe → Machine → Machine
bulk_forgotten name m = record m { bulk = forgotten_on name m.bulk }

abbrev pub forgotten_unless : Bool → StreamPipe → Machine → Machine
forgotten_unless keeps name m = record m { bulk = if keeps then m.bulk else forgotten_on name m.bulk }
