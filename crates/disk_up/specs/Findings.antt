-- Rows 12 and 13: a device is asked what it is, and configured.
use Rattle.std.specs.Prelude.{ℕ, ◌-◌, ◌^◌, ◌==◌, not, if◌then◌else◌, Option, Some, None, List}
use Rattle.bring_up.specs.declared.access.Access.{Access}
use Rattle.bring_up.specs.declared.access.Access.TheVariants.{Rest}
use Rattle.bring_up.specs.declared.commands.CommandRing.{CommandRing}
use Rattle.bring_up.specs.declared.commands.Putting.{Putting}
use Rattle.bring_up.specs.declared.commands.Putting.TheVariants as putting
use Rattle.bring_up.specs.declared.taken.Taken.{Taken}
use Rattle.bring_up.specs.Accesses.{load_in}
use Rattle.bring_up.specs.CommandRings.{begun_command, command_put}
use Rattle.bring_up.specs.Completions.{given_up}
use Rattle.bring_up.specs.PortChecks.{look_access}
use Rattle.bring_up.specs.Services.{service_begun, woken}
use Rattle.host_layout.specs.declared.layout.Area.TheVariants.{At}
use Rattle.host_layout.specs.declared.layout.Fixed.TheVariants.{Buffer, InputContext}
use Rattle.host_layout.specs.Places.{address_of}
use Rattle.host_trbs.specs.declared.commands.Command.{Command}
use Rattle.host_trbs.specs.declared.commands.Command.TheVariants.{ConfigureEndpoint, ResetEndpoint, SetDequeue}
use Rattle.host_trbs.specs.Commands.{command_words}
use Rattle.usb_descriptors.specs.declared.UasFunction.{UasFunction}
use Rattle.usb_descriptors.specs.declared.stream_tags.Streams.{Streams}
use Rattle.disk_up.specs.declared.control.Sending.{Sending}
use Rattle.disk_up.specs.declared.control.Sending.TheVariants.{Zeros}
use Rattle.disk_up.specs.declared.finding.Clearing.{Clearing}
use Rattle.disk_up.specs.declared.finding.Clearing.TheVariants.{Reset, Move, Configure}
use Rattle.disk_up.specs.declared.finding.FindStep.{FindStep}
use Rattle.disk_up.specs.declared.finding.FindStep.TheVariants as step
use Rattle.disk_up.specs.declared.finding.Finding.{Finding}
use Rattle.disk_up.specs.declared.pipes.Piping.{Piping}
use Rattle.disk_up.specs.declared.pipes.Piping.TheVariants.{Zero}
use Rattle.disk_up.specs.declared.requests.Found.{Found}
use Rattle.disk_up.specs.declared.requests.Found.TheVariants.{Refused, Next}
use Rattle.disk_up.specs.declared.requests.Request.{Request}
use Rattle.disk_up.specs.declared.requests.Request.TheVariants as request
use Rattle.disk_up.specs.Controls.{at_or_zero, next_third, send_access, trb_in}
use Rattle.disk_up.specs.PipeRows.{pipes_access}
use Rattle.disk_up.specs.Requests.{packet_of, read_answer}

-- what is known of the device, and the controller
pub record World : Type 0 where
  pub finding : Finding
  pub taken : Taken

abbrev pub with_find : World → Finding → World
with_find w finding = record { finding = finding; taken = w.taken }

abbrev pub with_taken : World → Taken → World
with_taken w taken = record { finding = w.finding; taken = taken }

abbrev pub in_step : Finding → FindStep → Finding
in_step f next = record f { step = next }

abbrev pub begun_finding : Finding
begun_finding = record {
  third = 0;
  known = record { vendor = 0; product = 0; release = 0; disk = None };
  step = step.Send request.Device Zeros;
}

-- THE ACCESS

-- 4.6.8, 4.6.10: endpoint 0 goes on at the next third; 4.6.6
abbrev pub clearing_command : World → Clearing → Command
clearing_command w Reset = ResetEndpoint w.taken.device.slot 1
clearing_command w Move = SetDequeue (at_or_zero (trb_in w.taken.layout w.finding.third 0)) 0 w.taken.device.slot 1
clearing_command w Configure = ConfigureEndpoint (address_of w.taken.layout (At InputContext)) w.taken.device.slot

abbrev pub clearing_access : World → Clearing → Putting → Access
clearing_access w clearing at =
    command_put w.taken.commands w.taken.controller w.taken.layout at (command_words (clearing_command w clearing) w.taken.commands.cycle)
    (command_words (clearing_command w clearing) (not w.taken.commands.cycle))

abbrev pub step_access : FindStep → World → Access
step_access (step.Send request at) w = send_access w.taken.controller w.taken.layout w.taken.device.slot w.finding.third request at
step_access (step.Serve request moved ended service) w = look_access w.taken.check w.taken service
step_access (step.Take request moved) w = load_in (Some (address_of w.taken.layout (At Buffer))) moved
step_access (step.Clear clearing at) w = clearing_access w clearing at
step_access (step.ServeClear clearing came service) w = look_access w.taken.check w.taken service
step_access (step.Pipes function streams at) w = pipes_access at w.taken.layout w.taken.device function.pipes streams
step_access step.Configured w = Rest (2 ^ 64 - 1)

abbrev pub find_access : World → Access
find_access w = step_access w.finding.step w

-- WHAT COMES AFTER IT

abbrev pub requested : Finding → Request → Finding
requested f next = in_step f (step.Send next Zeros)

abbrev pub sent : Finding → Request → Option Sending → ℕ → Finding
sent f request (Some at) now = in_step f (step.Send request at)
sent f request None now = in_step f (step.Serve request (packet_of request).length None (service_begun now 5000))

abbrev pub found : World → Found → World
found w (Refused why) = with_taken w (given_up w.taken why)
found w (Next known next) = with_find w (requested (record w.finding { known = known }) next)

abbrev pub taken_answer : World → Request → ℕ → List ℕ → World
taken_answer w request tags bytes = found w (read_answer w.finding.known request bytes tags w.taken.controller.max_psa_size)

abbrev pub clearing_put : Finding → Clearing → Putting → ℕ → Finding
clearing_put f clearing putting.Link now = in_step f (step.Clear clearing putting.Body)
clearing_put f clearing putting.Body now = in_step f (step.Clear clearing putting.Last)
clearing_put f clearing putting.Last now = in_step f (step.Clear clearing putting.Bell)
clearing_put f clearing putting.Bell now = in_step f (step.ServeClear clearing None (service_begun now 5000))

-- 14: the stores, then Configure Endpoint
abbrev pub piped : Finding → CommandRing → UasFunction → Streams → Option Piping → Finding
piped f commands function streams (Some at) = in_step f (step.Pipes function streams at)
piped f commands function streams None = in_step f (step.Clear Configure (begun_command commands))

-- 13: SET_INTERFACE where the setting isn't 0; then the pipes, from page 1 on, the input context
abbrev pub pipes_begun : Finding → UasFunction → Streams → Finding
pipes_begun f function streams = in_step f (step.Pipes function streams (Zero 1))

abbrev pub set_for : Finding → Request → UasFunction → Streams → Finding
set_for f (request.SetConfiguration value) function streams =
    if not (function.alternate == 0) then requested f (request.SetInterface function.interface function.alternate)
    else pipes_begun f function streams
set_for f _ function streams = pipes_begun f function streams

abbrev pub set_with : Finding → Request → Option (UasFunction × Streams) → Finding
set_with f next None = requested f request.Device
set_with f next (Some disk) = set_for f next disk.0 disk.1

abbrev pub set_done : Finding → Request → Finding
set_done f next = set_with f next f.known.disk

-- an interrupt ends a rest between looks for events
abbrev pub step_interrupted : FindStep → FindStep
step_interrupted (step.Serve request moved ended service) = step.Serve request moved ended (woken service)
step_interrupted (step.ServeClear clearing came service) = step.ServeClear clearing came (woken service)
step_interrupted other = other

abbrev pub find_interrupted : Finding → Finding
find_interrupted f = in_step f (step_interrupted f.step)

abbrev pub in_next_third : Finding → Finding
in_next_third f = record f { third = next_third f.third }
