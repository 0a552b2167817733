-- Rows 9 to 11: what a port's reset and a device's commands came to.
use Rattle.std.specs.Prelude.{ℕ, ◌+◌, ◌/◌, ◌%◌, ◌^◌, ◌==◌, ◌&&◌, min, nat_le, nat_lt, if◌then◌else◌, Bool, true, false, not, Option, Some, None, List, slice_set}
use Rattle.host_trbs.specs.declared.events.Completion.{Completion}
use Rattle.host_trbs.specs.declared.events.Completion.TheVariants.{Success, Transaction}
use Rattle.host_trbs.specs.declared.events.Event.{Event}
use Rattle.host_trbs.specs.declared.events.Event.TheVariants as event
use Rattle.host_trbs.specs.Events.{completion_in}
use Rattle.bring_up.specs.declared.commands.Asked.{Asked}
use Rattle.bring_up.specs.declared.commands.Asked.TheVariants.{EnableSlot, AddressDevice, ResetPort, Forget, Refuse}
use Rattle.bring_up.specs.declared.commands.Completed.{Completed}
use Rattle.bring_up.specs.declared.ports.PortReset.{PortReset}
use Rattle.bring_up.specs.declared.ports.PortReset.TheVariants.{Read, Start, Done, Clear, Late, Recover, Speed}
use Rattle.bring_up.specs.declared.service.Served.{Served}
use Rattle.bring_up.specs.declared.service.Served.TheVariants.{On, Closed, Broken}
use Rattle.bring_up.specs.declared.service.Service.{Service}
use Rattle.bring_up.specs.declared.service.Serving.{Serving}
use Rattle.bring_up.specs.declared.service.Serving.TheVariants as serving
use Rattle.bring_up.specs.declared.slots.Addressing.TheVariants.{ControlRing, Entry, Settle}
use Rattle.bring_up.specs.declared.step.Ended.TheVariants.{Dead}
use Rattle.bring_up.specs.declared.step.Step.{Step}
use Rattle.bring_up.specs.declared.step.Step.TheVariants as step
use Rattle.bring_up.specs.declared.taken.Taken.{Taken}
use Rattle.bring_up.specs.declared.waits.Waited.{Waited}
use Rattle.bring_up.specs.declared.waits.Waited.TheVariants as waits
use Rattle.bring_up.specs.declared.why.Why.{Why}
use Rattle.bring_up.specs.declared.why.Why.TheVariants as why
use Rattle.bring_up.specs.Accesses.{later}
use Rattle.bring_up.specs.CommandRings.{command_address, commands_begun, next_command, put_after}
use Rattle.bring_up.specs.PortRows.{changes_in, look_begun}
use Rattle.bring_up.specs.Registers.{is_set}
use Rattle.bring_up.specs.Services.{closing, events_begun, idle, next_event, passed, rested, service_after, taken_event}
use Rattle.bring_up.specs.Slots.{addressing_after, command_begun}
use Rattle.bring_up.specs.Table.{nothing_known, ports_advanced, refused, with_step, word_in}
use Rattle.bring_up.specs.Programs.{program_after}
use Rattle.bring_up.specs.Takeovers.{first_step, halt_after, handoff_after, reset_after, run_after}
use Rattle.bring_up.specs.Waits.{begun, waited}

-- 9: Port Reset, bit 4, is 0, and Current Connect Status and Port Enabled, bits 0 and 1, are 1, within 800 ms; five times
abbrev pub is_enabled : ℕ → Bool
is_enabled value = not (is_set value 4) && is_set value 0 && is_set value 1

abbrev pub reset_late : Taken → ℕ → Taken
reset_late t now =
    let next : Taken = record t { tries = record t.tries { resets = min (t.tries.resets + 1) 255 } } in
    if nat_lt next.tries.resets 5 then with_step next (step.PortReset Read) else refused next why.NoReset now

abbrev pub reset_waited : Taken → Waited → ℕ → ℕ → Taken
reset_waited t waits.So now value = with_step t (step.PortReset (Clear value))
reset_waited t waits.Late now value = if changes_in value == 0 then reset_late t now else with_step t (step.PortReset (Late value))
reset_waited t (waits.On wait) now value = with_step t (step.PortReset (Done wait))

-- Port Speed, bits 13:10: 4 is SuperSpeed
abbrev pub speed_read : Taken → ℕ → ℕ → Taken
speed_read t speed now =
    if nat_lt speed 4 then refused t why.NotSuperSpeed now
    else record t { device = record t.device { speed = speed }; step = step.Addressing ControlRing }

abbrev pub reset_advanced : Taken → PortReset → ℕ → ℕ → Taken
reset_advanced t Read now value = with_step t (step.PortReset (Start value))
reset_advanced t (Start old) now value = with_step t (step.PortReset (Done (begun now 800)))
reset_advanced t (Done wait) now value = reset_waited t (waited wait now 10 (is_enabled value)) now value
reset_advanced t (Clear old) now value = with_step t (step.PortReset (Recover (later now 50)))
reset_advanced t (Late old) now value = reset_late t now
reset_advanced t (Recover until) now value = with_step t (step.PortReset Speed)
reset_advanced t Speed now value = speed_read t (value / 2 ^ 10 % 16) now

-- the controller is taken anew, twice; then it is dead
abbrev pub restarted : Taken → ℕ → Taken
restarted t now =
    let fresh : Taken = record t { events = events_begun; commands = commands_begun } in
    if nat_lt t.tries.of_all 2 then
    record fresh { tries = record t.tries { of_all = t.tries.of_all + 1 }; step = first_step t.controller now }
    else with_step fresh (step.Ended Dead)

-- 10: a slot from 1 to MaxSlots
abbrev pub enabled_if : Bool → Taken → ℕ → ℕ → Taken
enabled_if true t slot now = record t { device = record t.device { slot = slot }; step = step.Addressing Entry }
enabled_if false t slot now = restarted t now

abbrev pub enabled : Taken → Completion → ℕ → ℕ → Taken
enabled t Success slot now = enabled_if (nat_le 1 slot && nat_le slot t.controller.slots) t slot now
enabled t _ slot now = restarted t now

-- 11: 10 ms behind a success; code 4, USB Transaction Error: the slot is taken back and the port reset, twice; else the device is refused
abbrev pub no_answer : Taken → Taken
no_answer t =
    if nat_lt t.tries.addressings 2 then
    record t { tries = record t.tries { addressings = min (t.tries.addressings + 1) 255 }; step = command_begun t.commands ResetPort }
    else with_step t (command_begun t.commands (Refuse why.NoAddress))

abbrev pub addressed : Taken → Completion → ℕ → Taken
addressed t Success now = with_step t (step.Addressing (Settle (later now 10)))
addressed t Transaction now = no_answer t
addressed t _ now = with_step t (command_begun t.commands (Refuse why.NoAddress))

abbrev pub disabled : Taken → Completion → Option Why → ℕ → Taken
disabled t Success None now = with_step t (step.PortReset Read)
disabled t Success (Some why) now = refused t why now
disabled t _ why now = restarted t now

-- a device that was pulled: nothing is known of its port
abbrev pub forgotten : Taken → Completion → ℕ → Taken
forgotten t Success now = record t { ports = slice_set t.ports t.device.port.number nothing_known; step = look_begun now false }
forgotten t _ now = restarted t now

abbrev pub ended_as : Taken → Asked → Completion → ℕ → ℕ → Taken
ended_as t EnableSlot completion slot now = enabled t completion slot now
ended_as t AddressDevice completion slot now = addressed t completion now
ended_as t ResetPort completion slot now = disabled t completion None now
ended_as t Forget completion slot now = forgotten t completion now
ended_as t (Refuse why) completion slot now = disabled t completion (Some why) now

abbrev pub completed : Taken → Asked → Completed → ℕ → Taken
completed t asked ended now = ended_as t asked (completion_in ended.code) ended.slot now

-- a device that has its address isn't used, or is tried again, twice

abbrev pub given_up : Taken → Why → Taken
given_up t why = with_step t (command_begun t.commands (Refuse why))

abbrev pub tried_again : Taken → Taken
tried_again t =
    if nat_lt t.tries.of_device 2 then
    record t { tries = record t.tries { of_device = min (t.tries.of_device + 1) 255 }; step = command_begun t.commands ResetPort }
    else given_up t why.Silent

-- THE LOOK FOR A COMMAND'S EVENT

abbrev pub serve_on : Taken → Asked → Option Completed → Service → Taken
serve_on t asked came service = with_step t (step.Serve asked came service)

abbrev pub closed : Taken → Asked → Option Completed → Service → ℕ → Taken
closed t asked (Some ended) service now = completed (record t { commands = next_command t.commands }) asked ended now
closed t asked None service now = if nat_le service.limit now then restarted t now else serve_on t asked None (rested service now)

-- 6.4.2.2: the Command Completion Event of the TRB that was put; 6.4.2.6: a Host Controller Event
abbrev pub command_seen : Bool → Taken → Asked → Option Completed → Service → Completed → Taken
command_seen true t asked came service ended = serve_on t asked (Some ended) (closing service)
command_seen false t asked came service ended = serve_on t asked came (passed service)

abbrev pub event_taken : Event → Taken → Asked → Option Completed → Service → ℕ → Taken
event_taken (event.Transfer trb residual code endpoint slot) t asked came service now = serve_on t asked came (passed service)
event_taken (event.Command trb code slot) t asked came service now =
    command_seen (trb == command_address t.commands t.layout) t asked came service (record { code = code; slot = slot })
event_taken (event.Port port) t asked came service now = serve_on t asked came (passed service)
event_taken (event.Controller code) t asked came service now = restarted t now
event_taken (event.Other kind) t asked came service now = serve_on t asked came (passed service)

abbrev pub event_seen : Taken → Asked → Option Completed → Service → ℕ → Event → Taken
event_seen t asked came service now seen = event_taken seen (record t { events = next_event t.events }) asked came service now

abbrev pub service_went : Taken → Asked → Option Completed → Service → ℕ → Served → Taken
service_went t asked came service now (On next) = serve_on t asked came next
service_went t asked came service now Closed = closed t asked came service now
service_went t asked came service now Broken = restarted t now

abbrev pub served_by : Serving → Taken → Asked → Option Completed → Service → ℕ → ℕ → List ℕ → Taken
served_by serving.Event t asked came service now value bytes = event_seen t asked came service now (taken_event bytes)
served_by _ t asked came service now value bytes = service_went t asked came service now (service_after service t.events.cycle value)

abbrev pub served : Taken → Asked → Option Completed → Service → ℕ → ℕ → List ℕ → Taken
served t asked came service now value bytes = served_by service.at t asked came service now value bytes

-- THE LOOK FOR A PORT'S CHANGE: what was known of the port is forgotten, and ports are read again

abbrev pub event_watched_as : Event → Taken → Service → ℕ → Taken
event_watched_as (event.Transfer trb residual code endpoint slot) t service now = with_step t (step.Watch (passed service))
event_watched_as (event.Command trb code slot) t service now = with_step t (step.Watch (passed service))
event_watched_as (event.Port port) t service now =
    record t { ports = slice_set t.ports port nothing_known; has_change = true; step = step.Watch (passed service) }
event_watched_as (event.Controller code) t service now = restarted t now
event_watched_as (event.Other kind) t service now = with_step t (step.Watch (passed service))

abbrev pub event_watched : Taken → Service → ℕ → Event → Taken
event_watched t service now seen = event_watched_as seen (record t { events = next_event t.events }) service now

abbrev pub watch_went : Taken → ℕ → Served → Taken
watch_went t now (On next) = with_step t (step.Watch next)
watch_went t now Closed =
    if t.has_change then record t { has_change = false; step = look_begun now false } else with_step t (step.Watch idle)
watch_went t now Broken = restarted t now

abbrev pub watched_by : Serving → Taken → Service → ℕ → ℕ → List ℕ → Taken
watched_by serving.Event t service now value bytes = event_watched t service now (taken_event bytes)
watched_by _ t service now value bytes = watch_went t now (service_after service t.events.cycle value)

abbrev pub watched : Taken → Service → ℕ → ℕ → List ℕ → Taken
watched t service now value bytes = watched_by service.at t service now value bytes

-- WHAT COMES AFTER EACH STEP'S ACCESS

abbrev pub step_advanced : Step → Taken → ℕ → ℕ → List ℕ → Taken
step_advanced (step.Handoff at) t now value bytes = with_step t (handoff_after at now value)
step_advanced (step.Halt at) t now value bytes = with_step t (halt_after at now value)
step_advanced (step.Reset at) t now value bytes = with_step t (reset_after at now value)
step_advanced (step.Program at) t now value bytes = with_step t (program_after at t.controller t.layout t.quirks.takes_low_last)
step_advanced (step.Run at) t now value bytes = with_step t (run_after at now value)
step_advanced (step.Ports at) t now value bytes = ports_advanced t at now value
step_advanced (step.PortReset at) t now value bytes = reset_advanced t at now value
step_advanced (step.Addressing at) t now value bytes = with_step t (addressing_after at t.commands)
step_advanced (step.Command asked at) t now value bytes = with_step t (put_after asked at now)
step_advanced (step.Serve asked came service) t now value bytes = served t asked came service now value bytes
step_advanced (step.Watch service) t now value bytes = watched t service now value bytes
step_advanced (step.Ended how) t now value bytes = t

abbrev pub advanced : Taken → ℕ → List ℕ → Taken
advanced t now bytes = step_advanced t.step t now (word_in bytes) bytes
