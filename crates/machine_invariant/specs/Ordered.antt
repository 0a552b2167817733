-- The order of a client's requests: the device receives them in the order of their tickets, a task management notes those before it that it names,
-- and what it ends is done with before its response is seen. Counts don't tell it.
use Rattle.std.specs.Prelude.{◌≡◌, ℕ, ◌<◌, ◌==◌, nat_lt, Bool, true, false, ◌&&◌, List, [], ◌∷◌, Option, Some, None, All, slice_get}
use Rattle.std.specs.Option.{option_map_or}
use Rattle.arrayvec.specs.ArrayVec.{ArrayVec}
use Rattle.scsi_cmd.specs.Request.{ended_by}
use Rattle.scsi_cmd.specs.declared.Request.{Request}
use Rattle.scsi_cmd.specs.declared.Request.TheVariants.{Execute, Manage}
use Rattle.scsi_cmd.specs.declared.Task.{Task}
use Rattle.scsi_cmd.specs.declared.Task.TheVariants.{Abort, Reset, Query}
use Rattle.scsi_cmd.specs.Held.{held_at}
use Rattle.solo_model.specs.declared.Phase.{Phase}
use Rattle.solo_model.specs.declared.Phase.TheVariants.{Queued, Begun, Sent, Gone}
use Rattle.solo_model.specs.TaggedTask.{can_go, is_noted}
use Rattle.uas_profile.specs.declared.Place.{Place}
use Rattle.uas_profile.specs.Tags.{tag_of, task_slot}
use Rattle.shared_machine.specs.declared.Completion.{Completion}
use Rattle.shared_machine.specs.declared.Completion.TheVariants.{CommandDone, DataDone, StatusDone, EngineDone}
use Rattle.shared_machine.specs.Td.{Entry}
use Rattle.shared_machine.specs.Part.{Part}
use Rattle.shared_machine.specs.Shared.{Shared}

-- WHAT STANDS AT A PLACE

abbrev pub held_in : Place → Part → Option Entry
held_in place part = held_at part.entries place.slot

abbrev pub under : List Part → Place → Option Entry
under parts place = option_map_or (held_in place) (slice_get parts place.client) None

-- the ticket there, 0 where nothing stands
abbrev pub ticket_at : List Part → Place → ℕ
ticket_at parts place = option_map_or (λ entry. entry.task.ticket) (under parts place) 0

-- the device hasn't received it
abbrev pub is_queued : Phase → Bool
is_queued Queued = true
is_queued (Begun progress) = false
is_queued (Sent answer) = false
is_queued Gone = false

-- ONE CLIENT

-- the slot of a client is one that a task management names: an abort and a query that of its tag, a reset each
abbrev pub names : ℕ → ℕ → ℕ → Task → Bool
names tags client slot (Abort tag) = tag == tag_of tags (record { client = client; slot = slot })
names tags client slot Reset = true
names tags client slot (Query tag) = tag == tag_of tags (record { client = client; slot = slot })

-- every ticket is below the least that may come, and no two slots have one ticket
pub record HasTickets (part : Part) : Type 0 where
  pub below : (slot : ℕ) (entry : Entry) → held_at part.entries slot ≡ Some entry → entry.task.ticket < part.least_ticket
  pub apart : (one other : ℕ) (first second : Entry) → held_at part.entries one ≡ Some first → held_at part.entries other ≡ Some second
      → first.task.ticket ≡ second.task.ticket → one ≡ other

-- the device receives a client's requests in the order of their tickets: one that it has received comes before each that it hasn't
abbrev pub IsReceivedInOrder : Part → Type 0
IsReceivedInOrder part =
    (one other : ℕ) (first second : Entry) → held_at part.entries one ≡ Some first → held_at part.entries other ≡ Some second
    → is_queued first.task.phase ≡ false → is_queued second.task.phase ≡ true → first.task.ticket < second.task.ticket

-- A task management of this ticket noted of the commands that it names those with earlier tickets, and nothing else. Once it was received, what
-- it ends is gone, unless its answer had been handed over.
pub record HasNoted (tags client : ℕ) (part : Part) (management : Entry) (what : Task) (noted : ArrayVec ℕ) : Type 0 where
  pub earlier : All (λ ticket. ticket < management.task.ticket) noted.items
  pub exact : (slot : ℕ) (entry : Entry) → slot < task_slot tags → held_at part.entries slot ≡ Some entry
      → is_noted noted.items entry.task.ticket ≡ (names tags client slot what && nat_lt entry.task.ticket management.task.ticket)
  pub ended : is_queued management.task.phase ≡ false → (slot : ℕ) (entry : Entry) → slot < task_slot tags → held_at part.entries slot ≡ Some entry
      → is_noted (ended_by what noted).items entry.task.ticket ≡ true → can_go entry.task.phase ≡ false

abbrev pub NotedBy : ℕ → ℕ → Part → Entry → Request → Type 0
NotedBy tags client part entry (Execute op) = Unit {0}
NotedBy tags client part entry (Manage what noted) = HasNoted tags client part entry what noted

pub record IsOrderedPart (tags client : ℕ) (part : Part) : Type 0 where
  pub tickets : HasTickets part
  pub received : IsReceivedInOrder part
  pub noted : (slot : ℕ) (entry : Entry) → held_at part.entries slot ≡ Some entry → NotedBy tags client part entry entry.task.request

-- THE MESSAGES: those of one client are in the order of their tickets

abbrev pub IsLater : List Part → Place → Place → Type 0
IsLater parts place other = place.client ≡ other.client → ticket_at parts place < ticket_at parts other

abbrev pub AreLater : List Part → Place → List Place → Type 0
AreLater parts place [] = Unit {0}
AreLater parts place (other ∷ rest) = IsLater parts place other × AreLater parts place rest

abbrev pub AreRising : List Part → List Place → Type 0
AreRising parts [] = Unit {0}
AreRising parts (place ∷ rest) = AreLater parts place rest × AreRising parts rest

-- THE EVENTS: behind the response of a task management comes no event of a command that it ended

abbrev pub ends_ticket : Request → ℕ → Bool
ends_ticket (Execute op) ticket = false
ends_ticket (Manage what noted) ticket = is_noted (ended_by what noted).items ticket

abbrev pub is_ended_by : List Part → Place → Place → Bool
is_ended_by parts place other =
    (place.client == other.client) && option_map_or (λ entry. ends_ticket entry.task.request (ticket_at parts other)) (under parts place) false

abbrev pub IsNotEnded : List Part → Place → Completion → Type 0
IsNotEnded parts place (CommandDone other) = Unit {0}
IsNotEnded parts place (DataDone other) = is_ended_by parts place other ≡ false
IsNotEnded parts place (StatusDone other) = is_ended_by parts place other ≡ false
IsNotEnded parts place (EngineDone other) = Unit {0}

abbrev pub AreNotEnded : List Part → Place → List Completion → Type 0
AreNotEnded parts place [] = Unit {0}
AreNotEnded parts place (event ∷ rest) = IsNotEnded parts place event × AreNotEnded parts place rest

abbrev pub AreBehind : List Part → List Completion → Type 0
AreBehind parts [] = Unit {0}
AreBehind parts (CommandDone place ∷ rest) = AreBehind parts rest
AreBehind parts (DataDone place ∷ rest) = AreBehind parts rest
AreBehind parts (StatusDone place ∷ rest) = AreNotEnded parts place rest × AreBehind parts rest
AreBehind parts (EngineDone place ∷ rest) = AreBehind parts rest

-- THE WHOLE

pub record IsOrdered (state : Shared) : Type 0 where
  pub parts : (client : ℕ) (part : Part) → slice_get state.parts client ≡ Some part → IsOrderedPart state.tags client part
  pub messages : AreRising state.parts state.messages
  pub events : AreBehind state.parts state.events
