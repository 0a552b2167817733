-- Refusals are the client's own doing: what a submission is refused for, said without the shared machine.
use Rattle.std.specs.Prelude.{◌≡◌, ℕ, nat_lt, Bool, true, false, if◌then◌else◌, List, [], ◌∷◌, length, slice_get, Option, Some, None, is_some, option_map}
use Rattle.block_unit.specs.BlockMaps.{BlockMaps}
use Rattle.scsi_cmd.specs.declared.Command.{Command}
use Rattle.scsi_cmd.specs.declared.Task.{Task}
use Rattle.scsi_cmd.specs.declared.SubmitFault.{SubmitFault}
use Rattle.scsi_cmd.specs.declared.SubmitFault.TheVariants.{NotYours}
use Rattle.scsi_cmd.specs.Held.{held_under}
use Rattle.scsi_cmd.specs.Submission.{first_submit_fault, first_task_fault}
use Rattle.solo_model.specs.declared.Label.{Label}
use Rattle.solo_model.specs.Solo.{SoloState, solo_step, is_command_index, is_there, task_index, opening as solo_opening}
use Rattle.shared_machine.specs.declared.Step.{Step}
use Rattle.shared_machine.specs.declared.Step.TheVariants.{Submit, Task as TaskStep, CommandPipe, Data, Status, Engine, Event, Retire, Take}
use Rattle.shared_machine.specs.declared.Refusal.{Refusal}
use Rattle.shared_machine.specs.declared.Outcome.{Outcome}
use Rattle.shared_machine.specs.Shared.{Shared, refusal, shared_step, task_refusal}
use Rattle.shared_machine.specs.Replay.{replay}
use Rattle.isolation.specs.Isolation.{own_label, own_management, own_state}
use Rattle.shared_machine.specs.Part.{own_tag}

-- the fault of a submission under this index: it reads what the client has there, and its least ticket
abbrev pub solo_fault : SoloState → ℕ → ℕ → Command → Option SubmitFault
solo_fault own index ticket command =
    first_submit_fault (is_command_index own.tags index) (is_some (held_under own.tasks index)) own.least_ticket ticket command

-- The first fault of a client's submission, or none: it reads the client's own state, and how many clients there are.
-- Checked by hand: of 3 clients client 2 may submit under 33 to 47; under 32 and 48 it is NotYours, and so is all of client 3.
abbrev pub own_fault : ℕ → SoloState → ℕ → ℕ → ℕ → Command → Option SubmitFault
own_fault clients own client tag ticket command =
    if nat_lt client clients then solo_fault own (own_tag own.tags client tag) ticket command else Some NotYours

-- The first fault of a client's task management, likewise. Checked by hand: of 3 clients client 2 may abort tag 34 while a command of its is there,
-- and tag 17 or 48 is no such task of its.
abbrev pub solo_task_fault : SoloState → ℕ → Task → Option SubmitFault
solo_task_fault own ticket task =
    first_task_fault true (is_some (held_under own.tasks (task_index own.tags))) own.least_ticket ticket (is_there own.tags own.tasks task)

abbrev pub own_task_fault : ℕ → SoloState → ℕ → ℕ → Task → Option SubmitFault
own_task_fault clients own client ticket task =
    if nat_lt client clients then solo_task_fault own ticket (own_management own.tags client task) else Some NotYours

-- a task management's fault comes alone
abbrev pub fault_alone : Option SubmitFault → Option Refusal
fault_alone fault = option_map (λ first. record { fault = first; command = None }) fault

-- a fault comes with the command that was handed in
abbrev pub handed_back : Command → Option SubmitFault → Option Refusal
handed_back command fault = option_map (λ first. record { fault = first; command = Some command }) fault

-- Whether a submission is refused, and for what, is the client's own doing.
abbrev pub RefusalsAreOwn : Type 0
RefusalsAreOwn =
    (state : Shared) (client tag ticket : ℕ) (command : Command)
    → (shared_step state (Submit client tag ticket command)).1.refused
    ≡ handed_back command (own_fault (length state.parts) (own_state state client) client tag ticket command)

-- The same of a task management.
abbrev pub TaskRefusalsAreOwn : Type 0
TaskRefusalsAreOwn =
    (state : Shared) (client ticket : ℕ) (task : Task)
    → (shared_step state (TaskStep client ticket task)).1.refused
    ≡ fault_alone (own_task_fault (length state.parts) (own_state state client) client ticket task)

abbrev pub TasksAreOwned : Type 0
TasksAreOwned =
    (state : Shared) (client ticket : ℕ) (task : Task)
    → ((shared_step state (TaskStep client ticket task)).1.acted ≡ true) × ((shared_step state (TaskStep client ticket task)).1.owner ≡ Some client)

abbrev pub RefusedTaskChangesNothing : Type 0
RefusedTaskChangesNothing =
    (state : Shared) (client ticket : ℕ) (task : Task) (fault : SubmitFault)
    → own_task_fault (length state.parts) (own_state state client) client ticket task ≡ Some fault
    → shared_step state (TaskStep client ticket task) ≡ (state, task_refusal client fault)

-- A submission acts, and is its client's, refused or not.
abbrev pub SubmissionsAreOwned : Type 0
SubmissionsAreOwned =
    (state : Shared) (client tag ticket : ℕ) (command : Command)
    → ((shared_step state (Submit client tag ticket command)).1.acted ≡ true)
    × ((shared_step state (Submit client tag ticket command)).1.owner ≡ Some client)

-- A refused submission leaves all as it was, and tells nothing but the refusal.
abbrev pub RefusedChangesNothing : Type 0
RefusedChangesNothing =
    (state : Shared) (client tag ticket : ℕ) (command : Command) (fault : SubmitFault)
    → own_fault (length state.parts) (own_state state client) client tag ticket command ≡ Some fault
    → shared_step state (Submit client tag ticket command) ≡ (state, refusal client fault command)

abbrev pub is_submission : Step → Bool
is_submission (Submit client tag ticket command) = true
is_submission (TaskStep client ticket task) = true
is_submission _ = false

-- Nothing but a submission is refused.
abbrev pub OnlySubmissionsAreRefused : Type 0
OnlySubmissionsAreRefused =
    (state : Shared) (step : Step) → is_submission step ≡ false → (shared_step state step).1.refused ≡ None

-- OVER WHOLE REPLAYS

-- the state after a label, or the same state where there is none
abbrev pub after_label : SoloState → Option Label → Option SoloState
after_label own None = Some own
after_label own (Some label) = option_map (λ after. after.0) (solo_step own label)

-- a submission of this client was refused as its own state has it
abbrev pub RefusedAsOwn : ℕ → ℕ → SoloState → Step → Outcome → Type 0
RefusedAsOwn clients client own (Submit owner tag ticket command) outcome =
    owner ≡ client → outcome.refused ≡ handed_back command (own_fault clients own client tag ticket command)
RefusedAsOwn clients client own (TaskStep owner ticket task) outcome =
    owner ≡ client → outcome.refused ≡ fault_alone (own_task_fault clients own client ticket task)
RefusedAsOwn clients client own CommandPipe outcome = Unit {0}
RefusedAsOwn clients client own (Data tag) outcome = Unit {0}
RefusedAsOwn clients client own (Status tag) outcome = Unit {0}
RefusedAsOwn clients client own Engine outcome = Unit {0}
RefusedAsOwn clients client own Event outcome = Unit {0}
RefusedAsOwn clients client own (Retire pipe tag) outcome = Unit {0}
RefusedAsOwn clients client own (Take owner) outcome = Unit {0}

-- each submission of this client was refused as its own state has it, which goes by its own labels alone
abbrev pub AllRefusedAsOwn : ℕ → ℕ → SoloState → List Step → List Outcome → Type 0
AllRefusedAsOwn clients client own [] outcomes = outcomes ≡ []
AllRefusedAsOwn clients client own (step ∷ steps) [] = ⊥
AllRefusedAsOwn clients client own (step ∷ steps) (outcome ∷ outcomes) =
    RefusedAsOwn clients client own step outcome
    × (after : SoloState) × (after_label own (own_label own.tags client step outcome) ≡ Some after) × AllRefusedAsOwn clients client after steps outcomes

-- One step with this outcome: each client's submission is refused as its own state has it, and nothing but a submission is refused.
pub record IsRefusedAsOwn (old : Shared) (step : Step) (outcome : Outcome) : Type 0 where
  pub own : (client : ℕ) → RefusedAsOwn (length old.parts) client (own_state old client) step outcome
  pub other : is_submission step ≡ false → outcome.refused ≡ None

-- In a replay from new units each refusal follows from the client's first blocks and its own labels.
abbrev pub ReplayRefusesAsOwn : Type 0
ReplayRefusesAsOwn =
    (tags : ℕ) (units : List BlockMaps) (steps : List Step) (client : ℕ) (unit : BlockMaps)
    → slice_get units client ≡ Some unit
    → AllRefusedAsOwn (length units) client (solo_opening tags unit) steps (replay tags units steps).1
