-- The table over a controller that memory was lent for: each step's access, and what comes after it.
use Rattle.std.specs.Prelude.{ℕ, ◌-◌, ◌^◌, ◌==◌, if◌then◌else◌, Bool, true, false, not, Option, Some, None, List, length, replicate, slice_get, slice_set}
use Rattle.byteorder.specs.Endian.{little_number}
use Rattle.host_layout.specs.declared.layout.Area.TheVariants.{At}
use Rattle.host_layout.specs.declared.layout.Fixed.TheVariants as fixed
use Rattle.host_layout.specs.declared.layout.Layout.{Layout}
use Rattle.host_layout.specs.Places.{address_of}
use Rattle.host_trbs.specs.declared.commands.Command.{Command}
use Rattle.host_trbs.specs.declared.commands.Command.TheVariants as command
use Rattle.host_trbs.specs.Commands.{command_words}
use Rattle.bring_up.specs.declared.access.Access.{Access}
use Rattle.bring_up.specs.declared.access.Access.TheVariants.{Rest}
use Rattle.bring_up.specs.declared.commands.Asked.{Asked}
use Rattle.bring_up.specs.declared.commands.Asked.TheVariants.{EnableSlot, AddressDevice, ResetPort, Forget, Refuse}
use Rattle.bring_up.specs.declared.controller.Controller.{Controller}
use Rattle.bring_up.specs.declared.controller.Port.{Port}
use Rattle.bring_up.specs.declared.controller.PortPlace.{PortPlace}
use Rattle.bring_up.specs.declared.options.Quirks.{Quirks}
use Rattle.bring_up.specs.declared.ports.Ports.{Ports}
use Rattle.bring_up.specs.declared.ports.Ports.TheVariants as ports
use Rattle.bring_up.specs.declared.ports.PortReset.TheVariants.{Read}
use Rattle.bring_up.specs.declared.ports.PortState.{PortState}
use Rattle.bring_up.specs.declared.step.Ended.{Ended}
use Rattle.bring_up.specs.declared.step.Ended.TheVariants.{Addressed, Refused, Dead}
use Rattle.bring_up.specs.declared.step.Step.{Step}
use Rattle.bring_up.specs.declared.step.Step.TheVariants as step
use Rattle.bring_up.specs.declared.slots.Device.{Device}
use Rattle.bring_up.specs.declared.taken.Taken.{Taken}
use Rattle.bring_up.specs.declared.taken.Tries.{Tries}
use Rattle.bring_up.specs.declared.why.Why.{Why}
use Rattle.bring_up.specs.CommandRings.{command_put, commands_begun}
use Rattle.bring_up.specs.PortRows.{changes_in, is_ready, look_begun, looked_at, looked_on, port_reset_access, ports_access, ports_after}
use Rattle.bring_up.specs.Programs.{program_access}
use Rattle.bring_up.specs.Registers.{is_set, port_at}
use Rattle.bring_up.specs.Services.{events_begun, service_access, woken}
use Rattle.bring_up.specs.Slots.{addressing_access}
use Rattle.bring_up.specs.Takeovers.{first_step, halt_access, handoff_access, reset_access, run_access}

-- the word of the four bytes that were read, low byte first
abbrev pub word_in : List ℕ → ℕ
word_in bytes = if length bytes == 4 then little_number 4 bytes else 0

abbrev pub nothing_known : PortState
nothing_known = record { since = None; refused = None }

abbrev pub no_device : Device
no_device = record { port = record { number = 0; slot_type = 0 }; speed = 0; slot = 0 }

abbrev pub no_tries : Tries
no_tries = record { resets = 0; addressings = 0; of_device = 0; of_all = 0 }

abbrev pub taken_begun : Controller → Layout → Quirks → ℕ → Taken
taken_begun controller layout quirks now = record {
  controller = controller;
  layout = layout;
  quirks = quirks;
  step = first_step controller now;
  ports = replicate 256 nothing_known;
  events = events_begun;
  commands = commands_begun;
  device = no_device;
  tries = no_tries;
  has_change = false;
  check = None;
}

abbrev pub with_step : Taken → Step → Taken
with_step t next = record t { step = next }

-- THE ACCESS

-- 4.6.3, 4.6.5, 4.6.4
abbrev pub asked_command : Taken → Asked → Command
asked_command t EnableSlot = command.EnableSlot t.device.port.slot_type
asked_command t AddressDevice = command.AddressDevice (address_of t.layout (At fixed.InputContext)) t.device.slot
asked_command t ResetPort = command.DisableSlot t.device.slot
asked_command t Forget = command.DisableSlot t.device.slot
asked_command t (Refuse why) = command.DisableSlot t.device.slot

abbrev pub step_access : Step → Taken → Access
step_access (step.Handoff at) t = handoff_access at t.controller
step_access (step.Halt at) t = halt_access at t.controller
step_access (step.Reset at) t = reset_access at t.controller
step_access (step.Program at) t = program_access at t.controller t.layout
step_access (step.Run at) t = run_access at t.controller
step_access (step.Ports at) t = ports_access at t.controller
step_access (step.PortReset at) t = port_reset_access at t.controller t.device.port.number
step_access (step.Addressing at) t = addressing_access at t.layout t.device
step_access (step.Command asked at) t =
    command_put t.commands t.controller t.layout at (command_words (asked_command t asked) t.commands.cycle)
    (command_words (asked_command t asked) (not t.commands.cycle))
step_access (step.Serve asked came service) t = service_access service t.controller t.layout t.events
step_access (step.Watch service) t = service_access service t.controller t.layout t.events
step_access (step.Ended how) t = Rest (2 ^ 64 - 1)

abbrev pub taken_access : Taken → Access
taken_access t = step_access t.step t

-- ROW 8: a port was read

abbrev pub state_or_nothing : Option PortState → PortState
state_or_nothing (Some state) = state
state_or_nothing None = nothing_known

abbrev pub port_state : List PortState → ℕ → PortState
port_state states number = state_or_nothing (slice_get states number)

-- a device that was there long enough is brought up, and nothing was tried with it yet
abbrev pub chosen : Taken → Port → Taken
chosen t port = record t {
  device = record { port = port; speed = 0; slot = 0 };
  tries = record { resets = 0; addressings = 0; of_device = 0; of_all = t.tries.of_all };
  step = step.PortReset Read;
}

abbrev pub seen_at : Taken → Port → PortState → PortPlace → ℕ → Bool → ℕ → Taken
seen_at t port state place limit warmed now =
    let noted : Taken = record t { ports = slice_set t.ports port.number state } in
    if is_ready state now then chosen noted port else with_step noted (looked_on t.controller now place limit warmed)

abbrev pub look_at : Taken → Option Port → PortPlace → ℕ → Bool → ℕ → Bool → Taken
look_at t None place limit warmed now connected = with_step t (looked_on t.controller now place limit warmed)
look_at t (Some port) place limit warmed now connected =
    seen_at t port (looked_at (port_state t.ports port.number) now connected) place limit warmed now

abbrev pub look_on : Taken → PortPlace → ℕ → Bool → ℕ → Bool → Taken
look_on t place limit warmed now connected = look_at t (port_at t.controller place) place limit warmed now connected

-- change bits are cleared first
abbrev pub look_read : Taken → PortPlace → ℕ → Bool → ℕ → ℕ → Taken
look_read t place limit warmed now value =
    if changes_in value == 0 then look_on t place limit warmed now (is_set value 0)
    else with_step t (step.Ports (ports.ClearChanges place limit warmed value))

abbrev pub ports_advanced : Taken → Ports → ℕ → ℕ → Taken
ports_advanced t (ports.Look place limit warmed) now value = look_read t place limit warmed now value
ports_advanced t (ports.ClearChanges place limit warmed old) now value = look_on t place limit warmed now (is_set old 0)
ports_advanced t at now value = with_step t (ports_after at t.controller now value)

-- a device that isn't used: the next port is tried
abbrev pub refused : Taken → Why → ℕ → Taken
refused t why now = record t {
  ports = slice_set t.ports t.device.port.number (record { since = (port_state t.ports t.device.port.number).since; refused = Some why });
  step = look_begun now false;
}

-- an interrupt ends a rest between looks for events
abbrev pub step_interrupted : Step → Step
step_interrupted (step.Serve asked came service) = step.Serve asked came (woken service)
step_interrupted (step.Watch service) = step.Watch (woken service)
step_interrupted other = other

abbrev pub taken_interrupted : Taken → Taken
taken_interrupted t = with_step t (step_interrupted t.step)

abbrev pub ended_addressed : Ended → Bool
ended_addressed Addressed = true
ended_addressed (Refused why) = false
ended_addressed Dead = false

abbrev pub step_addressed : Step → Bool
step_addressed (step.Ended how) = ended_addressed how
step_addressed _ = false
