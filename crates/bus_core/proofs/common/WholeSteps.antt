-- The world after each call of host or controller is the world after that step. Cited by the answers of the bus's steps.
use Rattle.std.proofs.Common.{◌≡◌, ℕ, Bool, true, false, cond, List, length, Option, Some, None, MatchOption, Result, refl, ap, sym, ◌∙◌}
use Rattle.std.specs.Prelude.{slice_get, option_map, ◌&&◌, is_none}
use Rattle.std.proofs.lemmas.Option.{none-some, same_Some}
use Rattle.block_unit.specs.BlockMaps.{BlockMaps}
use Rattle.event_ring.specs.declared.Event.{Event}
use Rattle.frame_store.specs.declared.TagBuffers.{TagBuffers}
use Rattle.frame_store.specs.Buffers.{opening as opening_frames}
use Rattle.scsi_cmd.specs.declared.Command.{Command}
use Rattle.scsi_cmd.specs.declared.Reply.{Reply}
use Rattle.scsi_cmd.specs.declared.SubmitFault.{SubmitFault}
use Rattle.scsi_cmd.specs.declared.Task.{Task}
use Rattle.stream_array.specs.Rings.{LinesState}
use Rattle.uas_profile.specs.declared.Pipe.{Pipe}
use Rattle.uas_profile.specs.declared.Place.{Place}
use Rattle.uas_profile.specs.Tags.{place_of}
use Rattle.uas_profile.specs.declared.TheConstants.{STREAMS}
use Rattle.uas_host.specs.declared.Handled.{Handled}
use Rattle.uas_host.specs.declared.Retirement.{Retirement}
use Rattle.uas_host.specs.declared.RetirementStage.TheVariants.{Stopping}
use Rattle.uas_host.specs.Events.{event_doors, handled}
use Rattle.uas_host.specs.Replies.{Given, replied}
use Rattle.uas_host.specs.Retirement.{is_left_over_on, retirement_for, with_retirement}
use Rattle.uas_host.specs.State.{HostState, opening as opening_host}
use Rattle.uas_target.specs.Device.{Device, opening as opening_device}
use Rattle.xhci_ctl.specs.declared.Acted.{Acted}
use Rattle.xhci_ctl.specs.Engine.{engine_acted}
use Rattle.xhci_ctl.specs.Pipes.{ControllerState, new_controller}
use Rattle.xhci_ctl.specs.Steps.{Sides, sides_of}
use Rattle.bus_core.specs.World.{World, with_sides, world_of}
use Rattle.bus_core.specs.WorldSteps.{engine_world, event_sides, opening_world, rung_all, take_world}
use Rattle.bus_core.specs.WholeStep.{event_after, event_by, retire_after, retire_by, submit_by, task_by}
use Rattle.bus_core.proofs.retire.EngineStepped.{Begins}
use Rattle.bus_core.proofs.submit.Submitted.{Accepts, Refuses}
use Rattle.bus_core.proofs.submit.TaskSubmitted.{Accepts as AcceptsTask, Refuses as RefusesTask}

-- the opening
pub opening-after : (tags : ℕ) (units : List BlockMaps) (clients : ℕ) (host : HostState) (controller : ControllerState) (device : Device) (lines : LinesState)
    (frames : List TagBuffers) → clients ≡ length units → host ≡ opening_host tags clients → controller ≡ new_controller
    → device ≡ opening_device STREAMS units → frames ≡ opening_frames
    → world_of host controller device lines frames ≡ opening_world tags units (length units) lines
opening-after tags units clients host controller device lines frames count host_is controller_is device_is frames_is =
    let hosts : host ≡ opening_host tags (length units) = host_is ∙ ap (opening_host tags) count in
    λ i. world_of (hosts i) (controller_is i) (device_is i) lines (frames_is i)

-- a step of the controller, by what it made of its sides
pub sides-after : (world : World) (lines : LinesState) (frames : List TagBuffers) (device : Device) (acted : Acted) (after : Sides × Acted)
    → after ≡ (sides_of lines frames device, acted) → world_of world.host world.controller device lines frames ≡ with_sides world after.0
sides-after world lines frames device acted after is = ap (λ (did : Sides × Acted). with_sides world did.0) (sym is)

-- a command of the controller's own ring
pub engine-after : (world : World) (controller : ControllerState) (lines : LinesState) (acted : Acted)
    → engine_acted (world.controller, world.lines) ≡ ((controller, lines), acted)
    → world_of world.host controller world.device lines world.frames ≡ engine_world world
engine-after world controller lines acted is =
    ap (λ (did : (ControllerState × LinesState) × Acted). world_of world.host did.0.0 world.device did.0.1 world.frames) (sym is)

-- an event
pub event-handled : (world : World) (event : Event) (host : HostState) (lines : LinesState) (doors : List ℕ) (did : Handled)
    → slice_get world.lines.events.pending 0 ≡ Some event
    → handled (event_sides world) world.frames event ≡ (record { host = host; lines = lines }, did) → event_doors (event_sides world) event ≡ doors
    → world_of host (rung_all world.controller doors) world.device lines world.frames ≡ event_after world
event-handled world event host lines doors did first so rang =
    let after : event_by world (Some event) ≡ world_of host (rung_all world.controller doors) world.device lines world.frames =
    λ i. world_of (so i).0.host (rung_all world.controller (rang i)) world.device (so i).0.lines world.frames in
    sym (ap (event_by world) first ∙ after)

-- none is pending
pub no-event : (world : World) → slice_get world.lines.events.pending 0 ≡ None → world ≡ event_after world
no-event world none = sym (ap (event_by world) none)

-- a retirement: the host begins that of the pipe, with Stop Endpoint
abbrev stop_at : Pipe → Place → Retirement
stop_at pipe place = record { pipe = pipe; place = place; stage = Stopping }

stopping : (test : Bool) (pipe : Pipe) (place : Option Place) (retirement : Retirement)
    → cond test (option_map (stop_at pipe) place) None ≡ Some retirement → retirement ≡ stop_at pipe retirement.place
stopping true pipe (Some place) retirement is =
    let same : stop_at pipe place ≡ retirement = same_Some (stop_at pipe place) retirement is in
    sym same ∙ ap (λ (r : Retirement). stop_at pipe r.place) same
stopping true pipe None retirement is = absurd (none-some retirement is)
stopping false pipe place retirement is = absurd (none-some retirement is)

begun-by : (world : World) (pipe : Pipe) (host : HostState) (lines : LinesState) (doors : List ℕ) (began : Bool) (found : Option Retirement)
    → ((retirement : Retirement) → found ≡ Some retirement → retirement ≡ stop_at pipe retirement.place)
    → Begins world pipe host lines doors began found
    → world_of host (rung_all world.controller doors) world.device lines world.frames ≡ retire_by world pipe found
begun-by world pipe host lines doors began None named it =
    let host_is = it.1 in
    let lines_is = it.2 in
    let doors_is = it.3 in
    λ i. world_of (host_is i) (rung_all world.controller (doors_is i)) world.device (lines_is i) world.frames
begun-by world pipe host lines doors began (Some retirement) named it =
    let host_is = it.1 ∙ ap (with_retirement world.host) (named retirement refl) in
    let lines_is = it.2 in
    let doors_is = it.3 in
    λ i. world_of (host_is i) (rung_all world.controller (doors_is i)) world.device (lines_is i) world.frames

pub retire-begun : (world : World) (pipe : Pipe) (tag : ℕ) (host : HostState) (lines : LinesState) (doors : List ℕ) (began : Bool)
    → Begins world pipe host lines doors began (retirement_for world.host pipe tag)
    → world_of host (rung_all world.controller doors) world.device lines world.frames ≡ retire_after world pipe tag
retire-begun world pipe tag host lines doors began it =
    begun-by world pipe host lines doors began (retirement_for world.host pipe tag)
    (stopping (is_none world.host.retirement && is_left_over_on world.host pipe tag) pipe (place_of world.host.tags (length world.host.clients) tag)) it

-- a submission
pub submit-answered : (world : World) (client tag ticket : ℕ) (command : Command) (host : HostState) (lines : LinesState) (frames : List TagBuffers)
    (doors : List ℕ) (answer : Result (Unit {0}) (SubmitFault × Command)) (fault : Option SubmitFault)
    → MatchOption fault (Accepts world client tag ticket command host lines frames doors answer) (Refuses world command host lines frames doors answer)
    → world_of host (rung_all world.controller doors) world.device lines frames ≡ submit_by world client tag ticket command fault
submit-answered world client tag ticket command host lines frames doors answer None accepts =
    let host_is = accepts.1 in
    let lines_is = accepts.2 in
    let frames_is = accepts.3 in
    let doors_is = accepts.4 in
    λ i. world_of (host_is i) (rung_all world.controller (doors_is i)) world.device (lines_is i) (frames_is i)
submit-answered world client tag ticket command host lines frames doors answer (Some fault) refuses =
    let host_is = refuses.1 in
    let lines_is = refuses.2 in
    let frames_is = refuses.3 in
    let doors_is = refuses.4 in
    λ i. world_of (host_is i) (rung_all world.controller (doors_is i)) world.device (lines_is i) (frames_is i)

-- a task management
pub task-answered : (world : World) (client ticket : ℕ) (task : Task) (host : HostState) (lines : LinesState) (frames : List TagBuffers)
    (doors : List ℕ) (answer : Result (Unit {0}) SubmitFault) (fault : Option SubmitFault)
    → MatchOption fault (AcceptsTask world client ticket task host lines frames doors answer) (RefusesTask world host lines frames doors answer)
    → world_of host (rung_all world.controller doors) world.device lines frames ≡ task_by world client ticket task fault
task-answered world client ticket task host lines frames doors answer None accepts =
    let host_is = accepts.1 in
    let lines_is = accepts.2 in
    let frames_is = accepts.3 in
    let doors_is = accepts.4 in
    λ i. world_of (host_is i) (rung_all world.controller (doors_is i)) world.device (lines_is i) (frames_is i)
task-answered world client ticket task host lines frames doors answer (Some fault) refuses =
    let host_is = refuses.1 in
    let lines_is = refuses.2 in
    let frames_is = refuses.3 in
    let doors_is = refuses.4 in
    λ i. world_of (host_is i) (rung_all world.controller (doors_is i)) world.device (lines_is i) (frames_is i)

-- a reply, and none
abbrev given_to : World → Given → World
given_to world given = record world { host = given.host; frames = given.frames }

pub take-given : (world : World) (client : ℕ) (host : HostState) (frames : List TagBuffers) (reply : Option Reply)
    → replied world.host world.frames client ≡ record { host = host; frames = frames; reply = reply }
    → world_of host world.controller world.device world.lines frames ≡ take_world world client
take-given world client host frames reply so = sym (ap (given_to world) so)
