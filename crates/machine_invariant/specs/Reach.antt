-- How far a step reaches: no further than its owner's part, and what it ends there a task management had noted.
use Rattle.std.specs.Prelude.{◌≡◌, ℕ, ◌<◌, true, List, ◌∷◌, length, Some, None, slice_get}
use Rattle.arrayvec.specs.ArrayVec.{ArrayVec}
use Rattle.scsi_cmd.specs.Request.{ended_by}
use Rattle.scsi_cmd.specs.declared.Request.TheVariants.{Manage}
use Rattle.scsi_cmd.specs.declared.Task.{Task}
use Rattle.uas_profile.specs.Tags.{task_slot}
use Rattle.solo_model.specs.TaggedTask.{is_noted}
use Rattle.solo_model.specs.declared.Phase.TheVariants.{Gone}
use Rattle.uas_profile.specs.declared.Place.{Place}
use Rattle.shared_machine.specs.declared.Outcome.{Outcome}
use Rattle.shared_machine.specs.declared.Step.{Step}
use Rattle.shared_machine.specs.declared.Step.TheVariants.{CommandPipe, Task as TaskStep}
use Rattle.shared_machine.specs.Td.{Entry}
use Rattle.shared_machine.specs.Part.{Part, named_slot, new_management, noted_tickets}
use Rattle.shared_machine.specs.Shared.{Shared, shared_step}
use Rattle.machine_invariant.specs.Ordered.{IsOrdered, names, under}

-- THE OTHER CLIENTS

-- A step leaves every part but its owner's as it was: unit, entries with all TDs, least ticket and ready slots. So another client's retirement
-- changes no byte of this client, loses no TRB of it and doubles none.
abbrev pub OthersStay : Type 0
OthersStay =
    (state : Shared) (step : Step) (owner client : ℕ) → (shared_step state step).1.owner ≡ Some owner → (owner ≡ client → ⊥)
    → slice_get (shared_step state step).0.parts client ≡ slice_get state.parts client

-- A step without an owner leaves them all.
abbrev pub NobodyStays : Type 0
NobodyStays = (state : Shared) (step : Step) → (shared_step state step).1.owner ≡ None → (shared_step state step).0.parts ≡ state.parts

-- WHAT A TASK MANAGEMENT ENDS

-- the first message is of a task management of the place's own client, which ends the command of this ticket
pub record IsEndedBy (state : Shared) (place : Place) (ticket : ℕ) : Type 0 where
  pub head : Place
  pub rest : List Place
  pub management : Entry
  pub what : Task
  pub noted : ArrayVec ℕ
  pub first : state.messages ≡ head ∷ rest
  pub held : under state.parts head ≡ Some management
  pub request : management.task.request ≡ Manage what noted
  pub client : head.client ≡ place.client
  pub ticket_ended : is_noted (ended_by what noted).items ticket ≡ true

-- A command is gone only where a task management of its own client that noted its ticket to end it is carried: never a later command on the same
-- tag, and none by a query.
abbrev pub GoneByNote : Type 0
GoneByNote =
    (state : Shared) (step : Step) (place : Place) (old now : Entry) → under state.parts place ≡ Some old
    → under (shared_step state step).0.parts place ≡ Some now → now.task.phase ≡ Gone → (old.task.phase ≡ Gone → ⊥)
    → (step ≡ CommandPipe) × IsEndedBy state place old.task.ticket

-- It ends only what it names, an abort the command under its tag, and only what was submitted before it. That follows from the order facts,
-- which hold in every replay.
abbrev pub EndsEarlierNamed : Type 0
EndsEarlierNamed =
    (state : Shared) (place : Place) (old : Entry) → IsOrdered state → under state.parts place ≡ Some old → place.slot < task_slot state.tags
    → (ended : IsEndedBy state place old.task.ticket)
    → (names state.tags place.client place.slot ended.what ≡ true) × (old.task.ticket < ended.management.task.ticket)

-- No step changes the ticket or the request of what stands at a place before and after it: so a task management notes later what it noted first.
abbrev pub RequestsStay : Type 0
RequestsStay =
    (state : Shared) (step : Step) (place : Place) (old now : Entry) → under state.parts place ≡ Some old
    → under (shared_step state step).0.parts place ≡ Some now → (now.task.ticket ≡ old.task.ticket) × (now.task.request ≡ old.task.request)

-- the place of a client's task managements
abbrev pub task_place : ℕ → ℕ → Place
task_place tags client = record { client = client; slot = task_slot tags }

-- A task management that is accepted notes just what the client holds then of that which it names.
abbrev pub NotedAtSubmission : Type 0
NotedAtSubmission =
    (state : Shared) (client ticket : ℕ) (task : Task) (part : Part) → slice_get state.parts client ≡ Some part → task_slot state.tags < length part.entries
    → (shared_step state (TaskStep client ticket task)).1.refused ≡ None
    → under (shared_step state (TaskStep client ticket task)).0.parts (task_place state.tags client)
    ≡ Some (new_management ticket task (noted_tickets state.tags part (named_slot state.tags (length state.parts) client task) task))

-- OF ONE STEP, BY THE STATES BEFORE AND AFTER IT

-- whoever isn't the step's owner keeps its whole part
abbrev pub KeepsOthers : Shared → Outcome → Shared → Type 0
KeepsOthers old outcome new = (client : ℕ) → (outcome.owner ≡ Some client → ⊥) → slice_get new.parts client ≡ slice_get old.parts client

-- What is gone after it and wasn't before was ended by a task management of its own client that had noted its ticket, and was no query.
abbrev pub EndsAsNoted : Shared → Step → Shared → Type 0
EndsAsNoted old step new =
    (place : Place) (was now : Entry) → under old.parts place ≡ Some was → under new.parts place ≡ Some now → now.task.phase ≡ Gone
    → (was.task.phase ≡ Gone → ⊥) → (step ≡ CommandPipe) × IsEndedBy old place was.task.ticket
