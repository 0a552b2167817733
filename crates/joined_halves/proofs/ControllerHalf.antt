-- The controller's half: what is in front of a ring of a bus is carried out, and so the half's step is the bus's.
use Rattle.std.proofs.Common.{◌≡◌, ◌∙◌, ℕ, Bool, true, false, List, [], ◌∷◌, fold, Option, Some, None, refl, ap, if◌then◌else◌}
use Rattle.std.specs.Prelude.{IfSome}
use Rattle.event_ring.specs.declared.Event.{Event}
use Rattle.xhci_trb.specs.declared.Trb.{Trb}
use Rattle.uas_profile.specs.declared.Pipe.TheVariants.{Command, Status, DataIn, DataOut}
use Rattle.uas_profile.specs.declared.TheConstants.{COMMAND_RING_PLACES}
use Rattle.uas_target.specs.Device.{answered, wanted}
use Rattle.shared_machine.specs.Shared.{Shared}
use Rattle.shared_machine.specs.declared.Step.TheVariants.{CommandPipe, Data, Status as StatusStep}
use Rattle.xhci_ctl.specs.Own.{IsOwnAnswer, IsOwnCommand, IsOwnIn, IsOwnOut}
use Rattle.xhci_ctl.specs.Pipes.{ControllerState}
use Rattle.xhci_ctl.specs.Steps.{armed_front, commanded, front_at, has_event_room, moved, room_front, sent_by}
use Rattle.uas_controller.specs.Machine.{MachineState, sides}
use Rattle.uas_controller.specs.Own.{foreign, is_own_answer, is_own_command, is_own_in, is_own_out}
use Rattle.uas_controller.specs.Steps.{command_by, data_by, foreign_out, over_or, rung, status_by, stepped}
use Rattle.uas_controller.proofs.OwnLaws.{Tells, is_own_answer-tells, is_own_command-tells, is_own_in-tells, is_own_out-tells}
use Rattle.bus_core.specs.World.{World}
use Rattle.bus_core.specs.WorldSteps.{rung_all}
use Rattle.bus_core.specs.WholeStep.{world_after}
use Rattle.bus_core.specs.Fits.{Fits}
use Rattle.bus_core.proofs.carry.CommandFits.{commands_due}
use Rattle.bus_core.proofs.chunks.DataDue.{data_due}
use Rattle.bus_core.proofs.status.StatusFits.{statuses_due}
use Rattle.joined_halves.specs.Halves.{StepsAsTheBus, controller_half}

-- nothing is foreign where what was found is carried out
none_foreign : (test : Option Trb → Bool) (Own : Option Trb → Type 0) (tells : (trb : Option Trb) → Tells (test trb) (Own trb))
    (found : Option (ℕ × Option Trb)) → IfSome found (λ front. Own front.1) → foreign test found ≡ None
none_foreign test Own tells None own = refl
none_foreign test Own tells (Some (address, trb)) own = rw ((tells trb).1 own) refl

-- what is there whether or not the event ring has room
where_room : (room : Bool) (found : Option (ℕ × Option Trb)) (Own : Option Trb → Type 0) → IfSome found (λ front. Own front.1)
    → IfSome (if room then found else None) (λ front. Own front.1)
where_room true found Own own = own
where_room false found Own own = tt

command_alike : (state : Shared) (world : World) → Fits state world
    → (command_by (controller_half world)).0 ≡ controller_half (world_after world CommandPipe)
command_alike state world fits =
    let half = controller_half world in
    let own = where_room (has_event_room world.lines) (front_at COMMAND_RING_PLACES world.lines.command) (IsOwnCommand world.frames)
    (commands_due state world fits).own in
    ap (λ found. (stepped half (over_or half Command 0 0 (commanded (sides half)) found)).0)
    (none_foreign (is_own_command world.frames) (IsOwnCommand world.frames) (λ trb. is_own_command-tells world.frames trb fits.sound.frames)
    (room_front world.lines Command 0) own)

data_alike : (state : Shared) (world : World) (tag : ℕ) → Fits state world
    → (data_by (controller_half world) tag).0 ≡ controller_half (world_after world (Data tag))
data_alike state world tag fits =
    let half = controller_half world in
    let phase = wanted world.device tag in
    let own = (data_due state world tag fits).own in
    ap (λ found. (stepped half (over_or half DataIn tag tag
    (over_or half DataOut tag tag (moved half.controller (sides half) tag) (foreign_out half tag)) found)).0)
    (none_foreign (is_own_in world.frames phase) (IsOwnIn world.frames phase) (λ trb. is_own_in-tells world.frames phase trb fits.sound.frames)
    (armed_front world.controller world.lines DataIn tag) own.data_in)
    ∙ ap (λ found. (stepped half (over_or half DataOut tag tag (moved half.controller (sides half) tag) found)).0)
    (none_foreign (is_own_out world.frames phase) (IsOwnOut world.frames phase) (λ trb. is_own_out-tells world.frames phase trb fits.sound.frames)
    (armed_front world.controller world.lines DataOut tag) own.data_out)

status_alike : (state : Shared) (world : World) (tag : ℕ) → Fits state world
    → (status_by (controller_half world) tag).0 ≡ controller_half (world_after world (StatusStep tag))
status_alike state world tag fits =
    let half = controller_half world in
    let phase = wanted world.device tag in
    let answer = answered world.device tag in
    ap (λ found. (stepped half (over_or half Status tag tag (sent_by half.controller (sides half) tag) found)).0)
    (none_foreign (is_own_answer world.frames phase answer) (IsOwnAnswer world.frames phase answer)
    (λ trb. is_own_answer-tells world.frames phase answer trb fits.sound.frames) (armed_front world.controller world.lines Status tag)
    (statuses_due state world tag fits).own)

doors_alike : (half : MachineState) (controller : ControllerState) (doors : List ℕ)
    → fold rung (record half { controller = controller }) doors ≡ record half { controller = rung_all controller doors }
doors_alike half controller [] = refl
doors_alike half controller (door ∷ doors) = doors_alike half (rung (record half { controller = controller }) door).controller doors

pub steps_alike : (state : Shared) (world : World) → Fits state world → StepsAsTheBus world
steps_alike state world fits = record {
  command = command_alike state world fits;
  chunk = λ tag. data_alike state world tag fits;
  status = λ tag. status_alike state world tag fits;
  engine = refl;
  event = λ (event : Event) first. rw first refl;
  doors = doors_alike (controller_half world) world.controller;
}
