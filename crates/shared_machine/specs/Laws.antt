-- The laws of the shared machine, as statements that a contract can name.
use Rattle.std.specs.Prelude.{◌≡◌, ℕ, ◌+◌, ◌<◌, true, false, List, [], ◌∷◌, length, slice_get}
use Rattle.std.specs.Option.{option_map_or}
use Rattle.scsi_cmd.specs.declared.Reply.{Reply}
use Rattle.scsi_cmd.specs.declared.Reply.TheVariants.{Status as StatusReply, Aborted as AbortedReply, Task as TaskReply}
use Rattle.scsi_cmd.specs.declared.Request.{Request}
use Rattle.scsi_cmd.specs.declared.Request.TheVariants.{Execute, Manage}
use Rattle.scsi_cmd.specs.Held.{held_at}
use Rattle.solo_model.specs.declared.Phase.{Phase}
use Rattle.solo_model.specs.declared.Phase.TheVariants.{Queued, Begun, Sent, Gone}
use Rattle.solo_model.specs.declared.TaskAnswer.{TaskAnswer}
use Rattle.solo_model.specs.declared.TaskAnswer.TheVariants.{WithStatus, WithResponse}
use Rattle.shared_machine.specs.Td.{Entry}
use Rattle.shared_machine.specs.declared.Step.{Step}
use Rattle.shared_machine.specs.declared.Step.TheVariants.{Take}
use Rattle.shared_machine.specs.Part.{Part}
use Rattle.shared_machine.specs.Shared.{Shared, greatest_tag, idle, due, shared_step}
use Rattle.shared_machine.specs.Replay.{replayed}
use Rattle.shared_machine.specs.Drain.{tries, drained}

-- WHERE A STEP ACTS

-- a step acts exactly where it is due
abbrev pub ActsWhereDue : Type 0
ActsWhereDue = (state : Shared) (step : Step) → (shared_step state step).1.acted ≡ due state step

-- a step that isn't due changes nothing and tells nothing
abbrev pub IdleChangesNothing : Type 0
IdleChangesNothing = (state : Shared) (step : Step) → due state step ≡ false → shared_step state step ≡ (state, idle)

-- a step keeps the number of clients
abbrev pub StepKeepsClients : Type 0
StepKeepsClients = (state : Shared) (step : Step) → length (shared_step state step).0.parts ≡ length state.parts

-- a step keeps the number of tags
abbrev pub StepKeepsTags : Type 0
StepKeepsTags = (state : Shared) (step : Step) → (shared_step state step).0.tags ≡ state.tags

-- THE DRAIN

-- none of these steps is due
abbrev pub NoneDue : Shared → List Step → Type 0
NoneDue state [] = Unit {0}
NoneDue state (step ∷ steps) = (due state step ≡ false) × NoneDue state steps

-- a drain that ends quiet leaves nothing due that it tries
abbrev pub QuietLeavesNothingDue : Type 0
QuietLeavesNothingDue =
    (state : Shared) (limit : ℕ) → (drained state limit).quiet ≡ true
    → NoneDue (drained state limit).state (tries (greatest_tag (drained state limit).state))

-- a drain that doesn't end quiet took as many steps as it may
abbrev pub UnquietSpendsLimit : Type 0
UnquietSpendsLimit = (state : Shared) (limit : ℕ) → (drained state limit).quiet ≡ false → (drained state limit).left ≡ 0

-- a drain that ends quiet could have taken more
abbrev pub QuietSparesLimit : Type 0
QuietSparesLimit = (state : Shared) (limit : ℕ) → (drained state limit).quiet ≡ true → 0 < (drained state limit).left

-- each of these steps is due in its turn
abbrev pub AllDue : Shared → List Step → Type 0
AllDue state [] = Unit {0}
AllDue state (step ∷ steps) = (due state step ≡ true) × AllDue (shared_step state step).0 steps

-- these steps, each due in its turn, lead from one state to the other
pub record LeadsTo (old : Shared) (steps : List Step) (new : Shared) : Type 0 where
  pub due : AllDue old steps
  pub state : (replayed old steps).0 ≡ new

-- a drain is a run of steps that act, so many as it took of those that it may
abbrev pub DrainIsRun : Type 0
DrainIsRun =
    (state : Shared) (limit : ℕ)
    → (steps : List Step) × LeadsTo state steps (drained state limit).state × (length steps + (drained state limit).left ≡ limit)

-- a drain keeps the number of clients
abbrev pub DrainKeepsClients : Type 0
DrainKeepsClients = (state : Shared) (limit : ℕ) → length (drained state limit).state.parts ≡ length state.parts

-- and the number of tags
abbrev pub DrainKeepsTags : Type 0
DrainKeepsTags = (state : Shared) (limit : ℕ) → (drained state limit).state.tags ≡ state.tags

-- THE NEXT REPLY

-- how many bytes a reply brings; a task's brings none
abbrev pub reply_len : Reply → ℕ
reply_len (StatusReply tag ticket status sense buffer) = length buffer
reply_len (AbortedReply tag ticket buffer) = length buffer
reply_len (TaskReply tag ticket code) = 0

-- what the reply of a request brings: of a command its buffer, of a task management nothing
abbrev pub brought_len : Request → List ℕ → ℕ
brought_len (Execute op) buffer = length buffer
brought_len (Manage what noted) buffer = 0

-- a status brings it, a response nothing
abbrev pub answered_len : TaskAnswer → Request → List ℕ → ℕ
answered_len (WithStatus answer) request buffer = brought_len request buffer
answered_len (WithResponse code) request buffer = 0

-- a request brings it once its answer was sent, and a command that is gone at once
abbrev pub sent_len : Phase → Request → List ℕ → ℕ
sent_len Queued request buffer = 0
sent_len (Begun progress) request buffer = 0
sent_len (Sent answer) request buffer = answered_len answer request buffer
sent_len Gone request buffer = brought_len request buffer

abbrev pub entry_len : Entry → ℕ
entry_len entry = sent_len entry.task.phase entry.task.request entry.task.buffer

abbrev pub first_len : Part → List ℕ → ℕ
first_len part [] = 0
first_len part (slot ∷ rest) = option_map_or entry_len (held_at part.entries slot) 0

abbrev pub part_len : Part → ℕ
part_len part = first_len part part.ready

-- how many bytes the client's next reply would bring, 0 where none is ready
abbrev pub next_len : Shared → ℕ → ℕ
next_len state client = option_map_or part_len (slice_get state.parts client) 0

-- a Take's reply brings as many bytes as was told of it, and no reply brings none
abbrev pub TakeBringsNextLen : Type 0
TakeBringsNextLen =
    (state : Shared) (client : ℕ) → option_map_or reply_len (shared_step state (Take client)).1.reply 0 ≡ next_len state client
