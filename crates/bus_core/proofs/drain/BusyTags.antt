-- The tags of which the device has a task are the busy ones. Cited by the answers of next_busy.
use Rattle.std.proofs.Common.{◌≡◌, ℕ, ◌<◌, ◌≤◌, false, length, Option, Some, None, IfSome, IfNone, refl, ap, sym, ◌∙◌}
use Rattle.std.specs.Prelude.{is_some, IsSome}
use Rattle.scsi_cmd.specs.declared.Request.{Request}
use Rattle.scsi_cmd.specs.declared.Request.TheVariants.{Execute, Manage}
use Rattle.solo_model.specs.declared.Phase.{Phase}
use Rattle.solo_model.specs.declared.Phase.TheVariants.{Queued, Begun, Sent, Gone}
use Rattle.solo_model.specs.declared.TaskProgress.TheVariants.{Moving, Ended}
use Rattle.uas_target.specs.declared.DeviceTask.{DeviceTask}
use Rattle.uas_target.specs.Device.{task_of}
use Rattle.machine_invariant.specs.Matched.{IsPhaseOf}
use Rattle.shared_machine.specs.Shared.{Shared}
use Rattle.bus_core.specs.Busy.{has_begun, is_begun, is_busy, IsNextBusy}
use Rattle.bus_core.specs.Fits.{Fits}
use Rattle.bus_core.specs.Hosts.{phase_task}
use Rattle.bus_core.specs.World.{World}
use Rattle.bus_core.proofs.common.ActFits.{by-tag}

-- no task management moves data, so that the device has a task of each request that it has begun
begun-some : (unit : Option ℕ) (request : Request) (phase : Phase) → IsPhaseOf request phase → is_some (phase_task unit request phase) ≡ is_begun phase
begun-some unit request Queued fits = refl
begun-some unit (Execute op) (Begun (Moving chunk)) fits = refl
begun-some unit (Manage what noted) (Begun (Moving chunk)) fits = absurd fits
begun-some unit request (Begun (Ended answer)) fits = refl
begun-some unit request (Sent answer) fits = refl
begun-some unit request Gone fits = refl

busy-some : (state : Shared) (world : World) (tag : ℕ) → Fits state world → is_some (task_of world.device tag) ≡ is_busy state tag
busy-some state world tag fits =
    by-tag state world tag has_begun (λ task busy. is_some task ≡ busy) fits refl
    (λ place entry is stands. begun-some (Some place.client) entry.task.request entry.task.phase stands.matched.here.sound.answers)

none-idle : (state : Shared) (world : World) (tag : ℕ) → Fits state world → task_of world.device tag ≡ None → is_busy state tag ≡ false
none-idle state world tag fits none = sym (busy-some state world tag fits) ∙ ap (λ (task : Option DeviceTask). is_some task) none

-- the next task that the device finds is of the next busy tag
pub found-busy : (state : Shared) (world : World) (tag : ℕ) (found : Option ℕ) → Fits state world
    → IfSome found (λ next. (tag < next) × (next ≤ length world.device.tasks) × IsSome (task_of world.device next)
    × ((other : ℕ) → tag < other → other < next → task_of world.device other ≡ None))
    → IfNone found ((other : ℕ) → tag < other → task_of world.device other ≡ None) → IsNextBusy state tag found
found-busy state world tag None fits next none = λ other above. none-idle state world other fits (none other above)
found-busy state world tag (Some busy) fits next none = (
  next.0,
  sym (busy-some state world busy fits) ∙ next.2,
  λ other above below. none-idle state world other fits (next.3 other above below),
)
