-- A saved log is one that a bus can be asked for.
use Rattle.std.proofs.Common.{ℕ, List, [], ◌∷◌, refl, arith}
use Rattle.std.specs.Prelude.{◌≤◌, length}
use Rattle.std.specs.List.{AllByRecursion}
use Rattle.uas_profile.specs.Tags.{AreTags, most_clients}
use Rattle.scsi_cmd.specs.declared.Task.{Task}
use Rattle.scsi_cmd.specs.declared.Task.TheVariants.{Abort, Reset, Query}
use Rattle.shared_machine.specs.declared.Step.{Step}
use Rattle.shared_machine.specs.declared.Step.TheVariants as steps
use Rattle.uas_log.specs.declared.FirstUnit.{FirstUnit}
use Rattle.log_text.specs.declared.Version.{Version}
use Rattle.log_text.specs.declared.Version.TheVariants.{First, Second}
use Rattle.log_text.specs.Plain.{IsPlain, plain_of}
use Rattle.log_text.specs.Text.{IsWithin, Saved, StepFits, TaskFits, version_clients, version_tags}

task_second : (version : Version) (task : Task) → TaskFits version task → TaskFits Second task
task_second version (Abort tag) fits = fits
task_second version Reset fits = tt
task_second version (Query tag) fits = (refl, fits.1)

-- what fits the first version fits the second
step_second : (version : Version) (clients : ℕ) (step : Step) → StepFits version clients step → StepFits Second clients step
step_second version clients (steps.Submit client tag ticket command) fits = fits
step_second version clients (steps.Task client ticket task) fits = (fits.0, fits.1, task_second version task fits.2)
step_second version clients steps.CommandPipe fits = tt
step_second version clients (steps.Data tag) fits = fits
step_second version clients (steps.Status tag) fits = fits
step_second version clients steps.Engine fits = tt
step_second version clients steps.Event fits = tt
step_second version clients (steps.Retire pipe tag) fits = fits
step_second version clients (steps.Take client) fits = fits

steps_second : (version : Version) (clients : ℕ) (list : List Step) → AllByRecursion (StepFits version clients) list
    → AllByRecursion (StepFits Second clients) list
steps_second version clients [] all = tt
steps_second version clients (step ∷ rest) all = (step_second version clients step all.0, steps_second version clients rest all.1)

tags_are : (version : Version) → AreTags (version_tags version)
tags_are First = record { least = omega arith; most = omega arith }
tags_are Second = record { least = omega arith; most = omega arith }

clients_fit : (version : Version) (units : List FirstUnit) → length units ≤ version_clients version → length units ≤ most_clients (version_tags version)
clients_fit First units few = few
clients_fit Second units few = few

pub saved_plain : (log : Saved) → IsWithin log → IsPlain (plain_of log)
saved_plain log it = record {
  are_tags = tags_are log.version;
  some = it.some;
  most = clients_fit log.version log.units it.most;
  units_fit = it.units;
  steps_fit = steps_second log.version (length log.units) log.steps it.steps;
  few = it.few_steps;
}
