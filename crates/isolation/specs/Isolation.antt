-- The headline's words: a client's own labels and replies in a run, and its part as a state of the solo machine.
use Rattle.std.specs.Prelude.{◌≡◌, ℕ, ◌==◌, Bool, false, List, [], ◌∷◌, ◌++◌, if◌then◌else◌, Option, Some, None, option_map, option_to_list}
use Rattle.std.specs.Prelude.{slice_get, map}
use Rattle.std.specs.Option.{option_map_or}
use Rattle.scsi_cmd.specs.declared.Reply.{Reply}
use Rattle.scsi_cmd.specs.declared.Reply.TheVariants.{Status as StatusReply, Aborted as AbortedReply, Task as TaskReply}
use Rattle.scsi_cmd.specs.declared.Request.{Request}
use Rattle.scsi_cmd.specs.declared.Request.TheVariants.{Execute, Manage}
use Rattle.scsi_cmd.specs.declared.Task.{Task}
use Rattle.scsi_cmd.specs.declared.Task.TheVariants.{Abort, Reset, Query}
use Rattle.solo_model.specs.declared.Label.{Label}
use Rattle.solo_model.specs.declared.Label.TheVariants.{Submit as SubmitLabel, Task as TaskLabel, Carry as CarryLabel, Move as MoveLabel}
use Rattle.solo_model.specs.declared.Label.TheVariants.{Send as SendLabel, Settle as SettleLabel}
use Rattle.solo_model.specs.TaggedTask.{TaggedTask}
use Rattle.solo_model.specs.Solo.{SoloState, solo_run}
use Rattle.shared_machine.specs.declared.Step.{Step}
use Rattle.shared_machine.specs.declared.Step.TheVariants.{Submit, Task as TaskStep, CommandPipe, Data, Status, Engine, Event, Retire, Take}
use Rattle.shared_machine.specs.declared.Mark.{Mark}
use Rattle.shared_machine.specs.declared.Mark.TheVariants.{Submit as SubmitMark, Task as TaskMark, Carry, Move, Send, Settle, Quiet}
use Rattle.shared_machine.specs.declared.Outcome.{Outcome}
use Rattle.shared_machine.specs.Td.{Entry}
use Rattle.shared_machine.specs.Part.{Part}
use Rattle.shared_machine.specs.Part.{own_tag}
use Rattle.shared_machine.specs.Shared.{Shared}

-- the label of an accepted submission: its index, and what the client handed in
abbrev pub submit_label : ℕ → Step → Option Label
submit_label index (Submit client tag ticket command) = Some (SubmitLabel index ticket command)
submit_label index (TaskStep client ticket task) = None
submit_label index CommandPipe = None
submit_label index (Data tag) = None
submit_label index (Status tag) = None
submit_label index Engine = None
submit_label index Event = None
submit_label index (Retire pipe tag) = None
submit_label index (Take client) = None

abbrev pub own_management : ℕ → ℕ → Task → Task
own_management tags client (Abort tag) = Abort (own_tag tags client tag)
own_management tags client Reset = Reset
own_management tags client (Query tag) = Query (own_tag tags client tag)

-- the label of an accepted task management: what the client handed in
abbrev pub task_label : ℕ → Step → Option Label
task_label tags (TaskStep client ticket task) = Some (TaskLabel ticket (own_management tags client task))
task_label tags _ = None

-- the label of a step with this mark; none where it is Quiet
abbrev pub label_of : ℕ → Mark → Step → Option Label
label_of tags (SubmitMark index) step = submit_label index step
label_of tags TaskMark step = task_label tags step
label_of tags (Carry index) step = Some (CarryLabel index)
label_of tags (Move index) step = Some (MoveLabel index)
label_of tags (Send index) step = Some (SendLabel index)
label_of tags (Settle index) step = Some (SettleLabel index)
label_of tags Quiet step = None

-- the outcome is of a step of this client
abbrev pub is_own : ℕ → Outcome → Bool
is_own client outcome = option_map_or (λ owner. owner == client) outcome.owner false

abbrev pub own_label : ℕ → ℕ → Step → Outcome → Option Label
own_label tags client step outcome = if is_own client outcome then label_of tags outcome.mark step else None

-- Own labels: the labels, in order, of the steps of the run that acted, are the client's and aren't Quiet.
abbrev pub own_labels : ℕ → ℕ → List Step → List Outcome → List Label
own_labels tags client [] outcomes = []
own_labels tags client (step ∷ steps) [] = []
own_labels tags client (step ∷ steps) (outcome ∷ outcomes) =
    option_to_list (own_label tags client step outcome) ++ own_labels tags client steps outcomes

abbrev pub renumbered : ℕ → ℕ → Reply → Reply
renumbered tags client (StatusReply tag ticket status sense buffer) = StatusReply (own_tag tags client tag) ticket status sense buffer
renumbered tags client (AbortedReply tag ticket buffer) = AbortedReply (own_tag tags client tag) ticket buffer
renumbered tags client (TaskReply tag ticket code) = TaskReply (own_tag tags client tag) ticket code

abbrev pub own_reply : ℕ → ℕ → Outcome → Option Reply
own_reply tags client outcome = if is_own client outcome then option_map (renumbered tags client) outcome.reply else None

-- the replies in the outcomes of the client's steps, in order
abbrev pub own_replies : ℕ → ℕ → List Outcome → List Reply
own_replies tags client [] = []
own_replies tags client (outcome ∷ outcomes) = option_to_list (own_reply tags client outcome) ++ own_replies tags client outcomes

-- what the client's solo machine has of an entry: its task, which names another by its index
abbrev pub own_request : ℕ → ℕ → Request → Request
own_request tags client (Execute op) = Execute op
own_request tags client (Manage what noted) = Manage (own_management tags client what) noted

abbrev pub own_of : ℕ → ℕ → TaggedTask → TaggedTask
own_of tags client task = record task { request = own_request tags client task.request }

abbrev pub own_task : ℕ → ℕ → Entry → TaggedTask
own_task tags client entry = own_of tags client entry.task

-- a part as a state of the client's solo machine: it forgets the TDs and the ready slots
abbrev pub solo_of : ℕ → ℕ → Part → SoloState
solo_of tags client part = record {
  tags = tags;
  unit = part.unit;
  tasks = map (option_map (own_task tags client)) part.entries;
  least_ticket = part.least_ticket;
}

-- a client that isn't there has nothing
abbrev pub nobody : ℕ → SoloState
nobody tags = record { tags = tags; unit = record { count = 0; blocks = []; medium = []; attention = false; bad = [] }; tasks = []; least_ticket = 0 }

-- the client's part of the shared machine as a state of the solo machine
abbrev pub own_state : Shared → ℕ → SoloState
own_state state client = option_map_or (solo_of state.tags client) (slice_get state.parts client) (nobody state.tags)

-- The headline, of a run from one state to another with these outcomes: from the client's own state, its own labels are
-- a run of the solo machine, with these replies, to its own state after them.
abbrev pub IsIsolated : Shared → List Step → List Outcome → Shared → ℕ → Type 0
IsIsolated old steps outcomes new client =
    solo_run (own_state old client) (own_labels old.tags client steps outcomes)
    ≡ Some (own_state new client, own_replies old.tags client outcomes)
