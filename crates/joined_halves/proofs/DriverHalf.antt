-- The driver's half: what a submission writes, and its doorbells.
use Rattle.std.proofs.Common.{◌≡◌, ◌∙◌, ℕ, Bool, false, not, if◌then◌else◌, ◌++◌, Option, Some, None, refl, ap, ap₂}
use Rattle.std.specs.Prelude.{IsTrue}
use Rattle.std.specs.Option.{option_map_or}
use Rattle.scsi_cmd.specs.declared.Command.{Command}
use Rattle.scsi_cmd.specs.declared.SubmitFault.{SubmitFault}
use Rattle.scsi_cmd.specs.Op.{direction_of}
use Rattle.uas_profile.specs.declared.Pipe.TheVariants.{Command as CommandPipe, Status, DataIn, DataOut}
use Rattle.uas_profile.specs.declared.Direction.{Direction}
use Rattle.uas_profile.specs.declared.Direction.TheVariants.{Nothing, ToHost, ToDevice}
use Rattle.uas_profile.specs.Doors.{data_doors, door_unless, submission_doors}
use Rattle.uas_target.specs.Device.{Device}
use Rattle.uas_host.specs.Retirement.{is_held}
use Rattle.uas_host.specs.Submit.{host_fault, lent, submitted}
use Rattle.uas_host.specs.Tds.{pushed}
use Rattle.xhci_ctl.specs.Pipes.{ControllerState}
use Rattle.uas_driver.specs.declared.Refusal.TheVariants.{BadTicket, Fault, NoRing, NoRoom}
use Rattle.uas_driver.specs.Driver.{DriverState}
use Rattle.uas_driver.specs.Calls.{host_submits, is_ticket, is_under, refused, rung_submission, submitted_to}
use Rattle.uas_driver.specs.Room.{lacks_room}
use Rattle.bus_core.specs.World.{world_of}
use Rattle.bus_core.specs.WorldSteps.{rung_all}
use Rattle.bus_core.specs.WholeStep.{submit_by as submit_world_by}
use Rattle.joined_halves.specs.Halves.{DriversSubmitAsTheBus, IsUndisturbed, joined}

data_alike : (driver : DriverState) (way : Direction) (tag : ℕ) → IsUndisturbed driver
    → data_doors (is_under driver.recovery) way tag ≡ data_doors (is_held driver.host) way tag
data_alike driver Nothing tag calm = refl
data_alike driver ToHost tag calm = ap (λ held. door_unless held DataIn tag) (calm.held DataIn)
data_alike driver ToDevice tag calm = ap (λ held. door_unless held DataOut tag) (calm.held DataOut)

doors_alike : (driver : DriverState) (way : Direction) (tag : ℕ) → IsUndisturbed driver
    → rung_submission driver.recovery way tag ≡ submission_doors (is_held driver.host) way tag
doors_alike driver way tag calm =
    ap₂ (λ front back. front ++ back) (data_alike driver way tag calm)
    (ap₂ (λ status command. door_unless status Status tag ++ door_unless command CommandPipe 0) (calm.held Status)
    (calm.held CommandPipe ∙ calm.command))

by_fault : (driver : DriverState) (controller : ControllerState) (device : Device) (client tag ticket : ℕ) (command : Command) → IsUndisturbed driver
    → (fault : Option SubmitFault)
    → (let after = option_map_or (λ given. refused driver (Fault given)) fault (submitted_to driver client tag ticket command) in
    joined after.0 (rung_all controller after.2) device ≡ submit_world_by (joined driver controller device) client tag ticket command fault)
by_fault driver controller device client tag ticket command calm None =
    ap (λ doors. world_of (submitted driver.host client tag ticket command.op) (rung_all controller doors) device
    (pushed driver.lines tag command.op) (lent driver.frames client tag command))
    (doors_alike driver (direction_of command.op) tag calm)
by_fault driver controller device client tag ticket command calm (Some fault) = refl

-- what comes where no test refuses
tested : {Answer : Type 0} (ticketed kept lacks : Bool) → IsTrue ticketed → kept ≡ false → lacks ≡ false → (ticket ring room after : Answer)
    → (if not ticketed then ticket else (if kept then ring else (if lacks then room else after))) ≡ after
tested ticketed kept lacks is_ticketed is_kept has_room ticket ring room after = rw is_ticketed (rw is_kept (rw has_room refl))

pub submits_alike : DriversSubmitAsTheBus
submits_alike driver controller device client tag ticket command calm ticketed room =
    ap (λ after. joined after.0 (rung_all controller after.2) device)
    (tested (is_ticket ticket) driver.given_up (lacks_room driver.lines driver.frames tag) ticketed calm.kept room
    (refused driver BadTicket) (refused driver NoRing) (refused driver NoRoom) (host_submits driver client tag ticket command))
    ∙ by_fault driver controller device client tag ticket command calm (host_fault driver.host client tag ticket command)
