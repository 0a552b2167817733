-- What a transfer's, and a command's, events came to.
use Rattle.std.specs.Prelude.{ℕ, ◌==◌, nat_le, if◌then◌else◌, Bool, true, false, Option, Some, None, List}
use Rattle.bring_up.specs.declared.checks.PortCheck.{PortCheck}
use Rattle.bring_up.specs.declared.commands.Completed.{Completed}
use Rattle.bring_up.specs.declared.service.Served.{Served}
use Rattle.bring_up.specs.declared.service.Served.TheVariants.{On, Closed, Broken}
use Rattle.bring_up.specs.declared.service.Service.{Service}
use Rattle.bring_up.specs.declared.service.Serving.{Serving}
use Rattle.bring_up.specs.declared.service.Serving.TheVariants as serving
use Rattle.bring_up.specs.declared.why.Why.TheVariants.{NotConfigured}
use Rattle.bring_up.specs.CommandRings.{begun_command, command_address, next_command}
use Rattle.bring_up.specs.Completions.{given_up, restarted, tried_again}
use Rattle.bring_up.specs.PortChecks.{check_advanced, event_passed}
use Rattle.bring_up.specs.Services.{closing, passed, rested, service_after, taken_event}
use Rattle.host_trbs.specs.declared.events.Completion.{Completion}
use Rattle.host_trbs.specs.declared.events.Completion.TheVariants.{Success, ContextState}
use Rattle.host_trbs.specs.declared.events.Event.{Event}
use Rattle.host_trbs.specs.declared.events.Event.TheVariants as event
use Rattle.host_trbs.specs.Events.{completion_in}
use Rattle.disk_up.specs.declared.control.Seen.{Seen}
use Rattle.disk_up.specs.declared.control.Seen.TheVariants as seen
use Rattle.disk_up.specs.declared.finding.Clearing.{Clearing}
use Rattle.disk_up.specs.declared.finding.Clearing.TheVariants.{Reset, Move, Configure}
use Rattle.disk_up.specs.declared.finding.Ending.{Ending}
use Rattle.disk_up.specs.declared.finding.Ending.TheVariants.{Done, Stalled, Failed}
use Rattle.disk_up.specs.declared.finding.FindStep.{FindStep}
use Rattle.disk_up.specs.declared.finding.FindStep.TheVariants as step
use Rattle.disk_up.specs.declared.finding.Finding.{Finding}
use Rattle.disk_up.specs.declared.requests.Request.{Request}
use Rattle.disk_up.specs.declared.requests.Request.TheVariants.{ConfigurationHead}
use Rattle.disk_up.specs.Controls.{event_seen, send_after}
use Rattle.disk_up.specs.Findings.{World, clearing_put, in_next_third, in_step, piped, requested, sent, set_done, taken_answer, with_find, with_taken}
use Rattle.disk_up.specs.PipeRows.{pipes_after}
use Rattle.disk_up.specs.Requests.{may_stall, packet_of}

-- A TRANSFER

abbrev pub serve_on : Finding → Request → ℕ → Option Ending → Service → Finding
serve_on f request moved ended service = in_step f (step.Serve request moved ended service)

abbrev pub done : Finding → Request → ℕ → Finding
done f request moved = if (packet_of request).length == 0 then set_done f request else in_step f (step.Take request moved)

-- 4.6.8: a refused request halts endpoint 0
abbrev pub stalled : World → Request → World
stalled w request =
    if may_stall request then with_find w (in_step (in_next_third w.finding) (step.Clear Reset (begun_command w.taken.commands)))
    else with_taken w (tried_again w.taken)

abbrev pub ended_as : World → Request → ℕ → Ending → World
ended_as w request moved Done = with_find w (done (in_next_third w.finding) request moved)
ended_as w request moved Stalled = stalled w request
ended_as w request moved Failed = with_taken w (tried_again w.taken)

abbrev pub closed : World → Request → ℕ → Option Ending → Service → ℕ → World
closed w request moved (Some ending) service now = ended_as w request moved ending
closed w request moved None service now =
    if nat_le service.limit now then with_taken w (tried_again w.taken)
    else with_find w (serve_on w.finding request moved None (rested service now))

abbrev pub seen_in : Finding → Request → ℕ → Option Ending → Service → Seen → Finding
seen_in f request moved ended service seen.Other = serve_on f request moved ended (passed service)
seen_in f request moved ended service (seen.Moved count) = serve_on f request count ended (passed service)
seen_in f request moved ended service seen.Done = serve_on f request moved (Some Done) (closing service)
seen_in f request moved ended service seen.Stalled = serve_on f request moved (Some Stalled) (closing service)
seen_in f request moved ended service seen.Failed = serve_on f request moved (Some Failed) (closing service)

abbrev pub is_controller_event : Event → Bool
is_controller_event (event.Controller code) = true
is_controller_event (event.Transfer trb residual code endpoint slot) = false
is_controller_event (event.Command trb code slot) = false
is_controller_event (event.Port port) = false
is_controller_event (event.Other kind) = false

abbrev pub event_taken : Bool → World → Request → ℕ → Option Ending → Service → ℕ → Event → World
event_taken true w request moved ended service now came = with_taken w (restarted w.taken now)
event_taken false w request moved ended service now came =
    with_find w (seen_in w.finding request moved ended service (event_seen w.taken.layout w.finding.third request came))

abbrev pub event_came : World → Request → ℕ → Option Ending → Service → ℕ → Event → World
event_came w request moved ended service now came =
    event_taken (is_controller_event came) (with_taken w (event_passed w.taken came)) request moved ended service now came

abbrev pub went : World → Request → ℕ → Option Ending → Service → ℕ → Served → World
went w request moved ended service now (On next) = with_find w (serve_on w.finding request moved ended next)
went w request moved ended service now Closed = closed w request moved ended service now
went w request moved ended service now Broken = with_taken w (restarted w.taken now)

abbrev pub served_by : Serving → World → Request → ℕ → Option Ending → Service → ℕ → ℕ → List ℕ → World
served_by serving.Event w request moved ended service now value bytes = event_came w request moved ended service now (taken_event bytes)
served_by _ w request moved ended service now value bytes =
    went w request moved ended service now (service_after service w.taken.events.cycle value)

-- a check of the device's port comes first
abbrev pub served : Option PortCheck → World → Request → ℕ → Option Ending → Service → ℕ → ℕ → List ℕ → World
served (Some check) w request moved ended service now value bytes = with_taken w (check_advanced w.taken check value)
served None w request moved ended service now value bytes = served_by service.at w request moved ended service now value bytes

-- A COMMAND

abbrev pub clear_on : Finding → Clearing → Option Completed → Service → Finding
clear_on f clearing came service = in_step f (step.ServeClear clearing came service)

abbrev pub cleared_as : World → Clearing → World
cleared_as w Reset = with_find w (in_step w.finding (step.Clear Move (begun_command w.taken.commands)))
cleared_as w Move = with_find w (requested w.finding ConfigurationHead)
cleared_as w Configure = with_find w (in_step w.finding step.Configured)

-- a device whose pipes can't be configured isn't used; another command that fails is the controller's fault
abbrev pub uncleared : World → Clearing → ℕ → World
uncleared w Reset now = with_taken w (restarted w.taken now)
uncleared w Move now = with_taken w (restarted w.taken now)
uncleared w Configure now = with_taken w (given_up w.taken NotConfigured)

-- 19, Context State Error: Reset Endpoint goes on, for endpoint 0 wasn't halted
abbrev pub unhalted : World → Clearing → ℕ → World
unhalted w Reset now = cleared_as w Reset
unhalted w Move now = uncleared w Move now
unhalted w Configure now = uncleared w Configure now

abbrev pub cleared : World → Clearing → Completion → ℕ → World
cleared w clearing Success now = cleared_as w clearing
cleared w clearing ContextState now = unhalted w clearing now
cleared w clearing _ now = uncleared w clearing now

abbrev pub clear_closed : World → Clearing → Option Completed → Service → ℕ → World
clear_closed w clearing (Some ended) service now =
    cleared (with_taken w (record w.taken { commands = next_command w.taken.commands })) clearing (completion_in ended.code) now
clear_closed w clearing None service now =
    if nat_le service.limit now then with_taken w (restarted w.taken now)
    else with_find w (clear_on w.finding clearing None (rested service now))

abbrev pub clear_command : Bool → World → Clearing → Option Completed → Service → Completed → World
clear_command true w clearing came service ended = with_find w (clear_on w.finding clearing (Some ended) (closing service))
clear_command false w clearing came service ended = with_find w (clear_on w.finding clearing came (passed service))

abbrev pub clear_taken : Event → World → Clearing → Option Completed → Service → ℕ → World
clear_taken (event.Transfer trb residual code endpoint slot) w clearing came service now =
    with_find w (clear_on w.finding clearing came (passed service))
clear_taken (event.Command trb code slot) w clearing came service now =
    clear_command (trb == command_address w.taken.commands w.taken.layout) w clearing came service (record { code = code; slot = slot })
clear_taken (event.Port port) w clearing came service now = with_find w (clear_on w.finding clearing came (passed service))
clear_taken (event.Controller code) w clearing came service now = with_taken w (restarted w.taken now)
clear_taken (event.Other kind) w clearing came service now = with_find w (clear_on w.finding clearing came (passed service))

abbrev pub clear_event : World → Clearing → Option Completed → Service → ℕ → Event → World
clear_event w clearing came service now event =
    clear_taken event (with_taken w (event_passed w.taken event)) clearing came service now

abbrev pub clear_went : World → Clearing → Option Completed → Service → ℕ → Served → World
clear_went w clearing came service now (On next) = with_find w (clear_on w.finding clearing came next)
clear_went w clearing came service now Closed = clear_closed w clearing came service now
clear_went w clearing came service now Broken = with_taken w (restarted w.taken now)

abbrev pub clear_by : Serving → World → Clearing → Option Completed → Service → ℕ → ℕ → List ℕ → World
clear_by serving.Event w clearing came service now value bytes = clear_event w clearing came service now (taken_event bytes)
clear_by _ w clearing came service now value bytes = clear_went w clearing came service now (service_after service w.taken.events.cycle value)

abbrev pub clear_served : Option PortCheck → World → Clearing → Option Completed → Service → ℕ → ℕ → List ℕ → World
clear_served (Some check) w clearing came service now value bytes = with_taken w (check_advanced w.taken check value)
clear_served None w clearing came service now value bytes = clear_by service.at w clearing came service now value bytes

-- WHAT COMES AFTER EACH STEP'S ACCESS

abbrev pub step_advanced : FindStep → World → ℕ → ℕ → ℕ → List ℕ → World
step_advanced (step.Send request at) w tags now value bytes = with_find w (sent w.finding request (send_after request at) now)
step_advanced (step.Serve request moved ended service) w tags now value bytes = served w.taken.check w request moved ended service now value bytes
step_advanced (step.Take request moved) w tags now value bytes = taken_answer w request tags bytes
step_advanced (step.Clear clearing at) w tags now value bytes = with_find w (clearing_put w.finding clearing at now)
step_advanced (step.ServeClear clearing came service) w tags now value bytes =
    clear_served w.taken.check w clearing came service now value bytes
step_advanced (step.Pipes function streams at) w tags now value bytes =
    with_find w (piped w.finding w.taken.commands function streams (pipes_after at w.taken.layout streams))
step_advanced step.Configured w tags now value bytes = w

abbrev pub advanced : World → ℕ → ℕ → ℕ → List ℕ → World
advanced w tags now value bytes = step_advanced w.finding.step w tags now value bytes
