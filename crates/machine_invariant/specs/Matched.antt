-- What waits in the shared machine, counted exactly: each message and each event is of one TD, and each TD of one.
use Rattle.std.specs.Prelude.{◌≡◌, ℕ, suc, ◌+◌, ◌*◌, ◌<◌, ◌≤◌, ◌==◌, nat_lt, Bool, true, false, ◌&&◌, List, [], ◌∷◌, ◌++◌, length, slice_get, Option, Some}
use Rattle.std.specs.Prelude.{None, is_some, IfSome}
use Rattle.std.specs.Option.{option_map_or}
use Rattle.block_unit.specs.BlockMaps.{BlockMaps}
use Rattle.scsi_cmd.specs.declared.Command.{Command}
use Rattle.scsi_cmd.specs.Submission.{first_submit_fault}
use Rattle.scsi_cmd.specs.Op.{moved_bytes}
use Rattle.uas_profile.specs.declared.TheConstants.{MOST_TAGS, STREAMS, WINDOW_BYTES, MOST_DATA_TRBS}
use Rattle.scsi_cmd.specs.Request.{ends_commands}
use Rattle.scsi_cmd.specs.declared.Request.{Request}
use Rattle.scsi_cmd.specs.declared.Request.TheVariants.{Execute, Manage}
use Rattle.scsi_cmd.specs.declared.Task.{Task}
use Rattle.solo_model.specs.declared.TaskAnswer.{TaskAnswer}
use Rattle.solo_model.specs.declared.TaskAnswer.TheVariants.{WithStatus, WithResponse}
use Rattle.device_server.specs.declared.Answer.TheVariants.{Good, Check}
use Rattle.solo_model.specs.declared.Phase.{Phase}
use Rattle.solo_model.specs.declared.Phase.TheVariants.{Queued, Begun, Sent, Gone}
use Rattle.solo_model.specs.declared.ResponseCode.{ResponseCode}
use Rattle.solo_model.specs.declared.ResponseCode.TheVariants.{Complete, Succeeded}
use Rattle.solo_model.specs.declared.TaskProgress.TheVariants.{Moving, Ended}
use Rattle.shared_machine.specs.Tests.{is_pending}
use Rattle.uas_profile.specs.declared.Place.{Place}
use Rattle.uas_profile.specs.declared.TdState.{TdState}
use Rattle.uas_profile.specs.declared.TdState.TheVariants.{Pending, Seen, LeftOver, Retired}
use Rattle.shared_machine.specs.declared.Td.{Td}
use Rattle.shared_machine.specs.declared.Completion.{Completion}
use Rattle.shared_machine.specs.declared.Completion.TheVariants.{CommandDone, DataDone, StatusDone, EngineDone}
use Rattle.shared_machine.specs.declared.Step.{Step}
use Rattle.shared_machine.specs.declared.Step.TheVariants.{CommandPipe, Data, Status, Event}
use Rattle.shared_machine.specs.declared.Mark.TheVariants.{Carry}
use Rattle.shared_machine.specs.Td.{Entry, pushed, has_trb, is_awaited, data_trbs, trbs_on, td_on, has_trb_on, is_left_over_on}
use Rattle.shared_machine.specs.declared.Retirement.{Retirement}
use Rattle.shared_machine.specs.declared.RetirementStage.{RetirementStage}
use Rattle.shared_machine.specs.declared.RetirementStage.TheVariants.{StopAsked, StopAnswered, MoveAsked, MoveAnswered}
use Rattle.uas_profile.specs.declared.Pipe.{Pipe}
use Rattle.uas_profile.specs.Pipes.{HasStreams}
use Rattle.uas_profile.specs.Pipes.{same_pipe}
use Rattle.shared_machine.specs.Part.{Part, event_place, seen_by}
pub use Rattle.machine_invariant.specs.Ordered.{held_in, under}
use Rattle.machine_invariant.specs.Ordered.{IsOrdered}
use Rattle.shared_machine.specs.Shared.{Shared, greatest_tag, opening, due, is_asked, is_held, pipe_of, shared_step}
use Rattle.uas_profile.specs.Tags.{AreTags, place_of, task_slot}
use Rattle.shared_machine.specs.Replay.{replay}
use Rattle.shared_machine.specs.Bus.{IsPlace}
use Rattle.shared_machine.specs.Soundness.{one_if, awaited_data, readied_of, times_in}

-- PLACES

abbrev pub same_place : Place → Place → Bool
same_place one other = (one.client == other.client) && (one.slot == other.slot)

-- how often a place is in a list
abbrev pub times : Place → List Place → ℕ
times place [] = 0
times place (first ∷ rest) = one_if (same_place first place) + times place rest

-- EVENTS OF ONE KIND

-- the places whose command events wait, the oldest first
abbrev pub carried_places : List Completion → List Place
carried_places [] = []
carried_places (CommandDone place ∷ rest) = place ∷ carried_places rest
carried_places (DataDone place ∷ rest) = carried_places rest
carried_places (StatusDone place ∷ rest) = carried_places rest
carried_places (EngineDone place ∷ rest) = carried_places rest

-- the same of data events
abbrev pub moved_places : List Completion → List Place
moved_places [] = []
moved_places (CommandDone place ∷ rest) = moved_places rest
moved_places (DataDone place ∷ rest) = place ∷ moved_places rest
moved_places (StatusDone place ∷ rest) = moved_places rest
moved_places (EngineDone place ∷ rest) = moved_places rest

-- the same of status events
abbrev pub sent_places : List Completion → List Place
sent_places [] = []
sent_places (CommandDone place ∷ rest) = sent_places rest
sent_places (DataDone place ∷ rest) = sent_places rest
sent_places (StatusDone place ∷ rest) = place ∷ sent_places rest
sent_places (EngineDone place ∷ rest) = sent_places rest

-- the same of the controller's own commands
abbrev pub retired_places : List Completion → List Place
retired_places [] = []
retired_places (CommandDone place ∷ rest) = retired_places rest
retired_places (DataDone place ∷ rest) = retired_places rest
retired_places (StatusDone place ∷ rest) = retired_places rest
retired_places (EngineDone place ∷ rest) = place ∷ retired_places rest

-- How many events of a kind wait for a place. Checked by hand: of CommandDone p, StatusDone p, CommandDone q there is
-- one command event for p, one status event for p and no data event.
abbrev pub command_events : Place → List Completion → ℕ
command_events place events = times place (carried_places events)

abbrev pub data_events : Place → List Completion → ℕ
data_events place events = times place (moved_places events)

abbrev pub status_events : Place → List Completion → ℕ
status_events place events = times place (sent_places events)

-- how often a slot stands in its client's queue of ready slots
abbrev pub readied_in : Place → Part → ℕ
readied_in place part = times_in place.slot part.ready

abbrev pub times_ready : List Part → Place → ℕ
times_ready parts place = option_map_or (readied_in place) (slice_get parts place.client) 0

-- WHAT AN ENTRY WAITS FOR

-- one message while the command TD's TRB is in the ring
abbrev pub waiting_command : Option Entry → ℕ
waiting_command None = 0
waiting_command (Some entry) = one_if (has_trb entry.command_td 1)

-- one event of a TD whose last TRB was taken and whose event wasn't seen
abbrev pub awaited_command : Option Entry → ℕ
awaited_command None = 0
awaited_command (Some entry) = one_if (is_awaited entry.command_td 1)

abbrev pub awaited_status : Option Entry → ℕ
awaited_status None = 0
awaited_status (Some entry) = one_if (is_awaited entry.status_td 1)

abbrev pub awaited_data_of : Option Entry → ℕ
awaited_data_of None = 0
awaited_data_of (Some entry) = awaited_data (data_trbs entry.task.request) entry.data_td

-- WHAT A SLOT IS FOR

-- the last slot of a client is for task managements, the others for commands
abbrev pub IsRequestIn : ℕ → ℕ → Request → Type 0
IsRequestIn tags slot (Execute op) = slot < task_slot tags
IsRequestIn tags slot (Manage what noted) = slot ≡ task_slot tags

-- a command ends with a status
abbrev pub IsStatusAnswer : TaskAnswer → Type 0
IsStatusAnswer (WithStatus answer) = Unit {0}
IsStatusAnswer (WithResponse code) = ⊥

abbrev pub IsCommandPhase : Phase → Type 0
IsCommandPhase Queued = Unit {0}
IsCommandPhase (Begun (Moving chunk)) = Unit {0}
IsCommandPhase (Begun (Ended answer)) = IsStatusAnswer answer
IsCommandPhase (Sent answer) = IsStatusAnswer answer
IsCommandPhase Gone = Unit {0}

-- a task management ends with the response COMPLETE, or with SUCCEEDED where it ends no command: that is a query's alone
abbrev pub IsResponseTo : Task → ResponseCode → Type 0
IsResponseTo what Complete = Unit {0}
IsResponseTo what Succeeded = ends_commands what ≡ false

abbrev pub IsResponseAnswer : Task → TaskAnswer → Type 0
IsResponseAnswer what (WithStatus answer) = ⊥
IsResponseAnswer what (WithResponse code) = IsResponseTo what code

-- it is answered as it is received, and none ends it
abbrev pub IsManagedPhase : Task → Phase → Type 0
IsManagedPhase what Queued = Unit {0}
IsManagedPhase what (Begun (Moving chunk)) = ⊥
IsManagedPhase what (Begun (Ended answer)) = IsResponseAnswer what answer
IsManagedPhase what (Sent answer) = IsResponseAnswer what answer
IsManagedPhase what Gone = ⊥

abbrev pub IsPhaseOf : Request → Phase → Type 0
IsPhaseOf (Execute op) phase = IsCommandPhase phase
IsPhaseOf (Manage what noted) phase = IsManagedPhase what phase

-- THE TDS OF AN ENTRY, BY ITS PHASE: what no count tells

-- the device takes the command TD's TRB as it receives the command; so it has of a command that is gone
abbrev pub IsCommandTd : Phase → Td → Type 0
IsCommandTd Queued td = td ≡ pushed
IsCommandTd (Begun progress) td = td.consumed ≡ 1
IsCommandTd (Sent answer) td = td.consumed ≡ 1
IsCommandTd Gone td = td.consumed ≡ 1

-- the host waits for the event of an answer that was handed over, or has seen it
abbrev pub IsAwaitedOrSeen : TdState → Type 0
IsAwaitedOrSeen Pending = Unit {0}
IsAwaitedOrSeen Seen = Unit {0}
IsAwaitedOrSeen LeftOver = ⊥
IsAwaitedOrSeen Retired = ⊥

-- the answer of a command that is gone is never handed over, nor seen
abbrev pub IsGivenUp : ℕ → TdState → Type 0
IsGivenUp consumed Pending = consumed ≡ 0
IsGivenUp consumed Seen = ⊥
IsGivenUp consumed LeftOver = Unit {0}
IsGivenUp consumed Retired = Unit {0}

-- the device takes the status TD's TRB as it hands over the answer
abbrev pub IsStatusTd : Phase → Td → Type 0
IsStatusTd Queued td = td ≡ pushed
IsStatusTd (Begun progress) td = td ≡ pushed
IsStatusTd (Sent answer) td = (td.consumed ≡ 1) × IsAwaitedOrSeen td.state
IsStatusTd Gone td = IsGivenUp td.consumed td.state

-- as many TRBs of a data TD were taken as chunks were moved, and one more is there
abbrev pub IsMovingTd : ℕ → ℕ → Option Td → Type 0
IsMovingTd trbs chunk None = Unit {0}
IsMovingTd trbs chunk (Some td) = (td.state ≡ Pending) × (td.consumed ≡ chunk) × (chunk < trbs)

-- every TRB was taken
abbrev pub IsWholeTd : ℕ → Option Td → Type 0
IsWholeTd trbs None = Unit {0}
IsWholeTd trbs (Some td) = td.consumed ≡ trbs

-- a TRB is left as long as the host waits for the TD
abbrev pub IsShortTd : ℕ → Option Td → Type 0
IsShortTd trbs None = Unit {0}
IsShortTd trbs (Some td) = is_pending td.state ≡ true → td.consumed < trbs

-- no more TRBs were taken than there are
abbrev pub IsWithinTd : ℕ → Option Td → Type 0
IsWithinTd trbs None = Unit {0}
IsWithinTd trbs (Some td) = td.consumed ≤ trbs

-- GOOD comes after the last chunk, CHECK CONDITION before it, so that a TRB is left then; before a response no chunk is left
abbrev pub IsAnsweredTd : ℕ → TaskAnswer → Option Td → Type 0
IsAnsweredTd trbs (WithStatus Good) td = IsWholeTd trbs td
IsAnsweredTd trbs (WithStatus (Check sense)) td = IsShortTd trbs td × IsWithinTd trbs td
IsAnsweredTd trbs (WithResponse code) td = IsWholeTd trbs td

-- Checked by hand: of 8,192 bytes, two TRBs, none was taken at Moving 0, one at Moving 1 and both at Ended (WithStatus Good).
abbrev pub IsDataTd : ℕ → Phase → Option Td → Type 0
IsDataTd trbs Queued td = IsMovingTd trbs 0 td
IsDataTd trbs (Begun (Moving chunk)) td = IsMovingTd trbs chunk td
IsDataTd trbs (Begun (Ended answer)) td = IsAnsweredTd trbs answer td
IsDataTd trbs (Sent answer) td = IsAnsweredTd trbs answer td
IsDataTd trbs Gone td = IsWithinTd trbs td

abbrev pub request_bytes : Request → ℕ
request_bytes (Execute op) = moved_bytes op
request_bytes (Manage what noted) = 0

-- An entry of a slot and its TDs. There is a data TD exactly where bytes are moved, and 65,536 bytes are the most.
pub record IsMatchedEntry (tags slot : ℕ) (entry : Entry) : Type 0 where
  pub asks : IsRequestIn tags slot entry.task.request
  pub answers : IsPhaseOf entry.task.request entry.task.phase
  pub command : IsCommandTd entry.task.phase entry.command_td
  pub status : IsStatusTd entry.task.phase entry.status_td
  pub chunks : IsDataTd (data_trbs entry.task.request) entry.task.phase entry.data_td
  pub moves : is_some entry.data_td ≡ nat_lt 0 (request_bytes entry.task.request)
  pub small : request_bytes entry.task.request ≤ WINDOW_BYTES

-- MATCHED

-- What waits for a place is what stands there waits for, each exactly as often.
pub record IsMatchedAt (state : Shared) (place : Place) (held : Option Entry) : Type 0 where
  pub messages : times place state.messages ≡ waiting_command held
  pub carried : command_events place state.events ≡ awaited_command held
  pub moved : data_events place state.events ≡ awaited_data_of held
  pub sent : status_events place state.events ≡ awaited_status held
  pub ready : times_ready state.parts place ≡ readied_of held
  pub sound : IfSome held (IsMatchedEntry state.tags place.slot)

-- each client that is there has the places of the most slots; those from its number of tags on are empty, as each request asks its slot
abbrev pub HaveSlots : List Part → Type 0
HaveSlots parts = (client : ℕ) → IfSome (slice_get parts client) (λ part. length part.entries ≡ MOST_TAGS)

-- THE RETIREMENT

-- an event of the controller's own commands waits exactly where one of them was executed and its event wasn't taken
abbrev pub answered_place : RetirementStage → Place → List Place
answered_place StopAsked place = []
answered_place StopAnswered place = place ∷ []
answered_place MoveAsked place = []
answered_place MoveAnswered place = place ∷ []

abbrev pub answered_places : Option Retirement → List Place
answered_places None = []
answered_places (Some retirement) = answered_place retirement.stage retirement.place

-- the TD of a place on a pipe is left over; the controller may take a TRB of it
abbrev pub is_left_over_at : Shared → Pipe → Place → Bool
is_left_over_at state pipe place = option_map_or (is_left_over_on pipe) (under state.parts place) false

abbrev pub has_trb_at : Shared → Pipe → Place → Bool
has_trb_at state pipe place = option_map_or (has_trb_on pipe) (under state.parts place) false

-- every TRB of the TD of a place on a pipe was taken, or passed
abbrev pub is_whole : ℕ → Option Td → Bool
is_whole trbs None = false
is_whole trbs (Some td) = td.consumed == trbs

abbrev pub is_whole_on : Pipe → Entry → Bool
is_whole_on pipe entry = is_whole (trbs_on pipe entry) (td_on pipe entry)

abbrev pub is_whole_at : Shared → Pipe → Place → Bool
is_whole_at state pipe place = option_map_or (is_whole_on pipe) (under state.parts place) false

-- Stop Endpoint finds the pipe running, and from then on it is stopped; once the controller was moved every TRB of the TD is consumed.
-- (So of as many clients as there are streams: those alone are rung as a pipe is held no more.)
abbrev pub IsAtStage : Shared → Pipe → Place → RetirementStage → Type 0
IsAtStage state pipe place StopAsked = greatest_tag state ≤ STREAMS → (pipe_of state pipe).runs ≡ true
IsAtStage state pipe place StopAnswered = (pipe_of state pipe).runs ≡ false
IsAtStage state pipe place MoveAsked = (pipe_of state pipe).runs ≡ false
IsAtStage state pipe place MoveAnswered = ((pipe_of state pipe).runs ≡ false) × (is_whole_at state pipe place ≡ true)

-- The retirement under way is of a pipe with streams and of a place that is there, whose TD on that pipe is left over.
pub record IsRetiring (state : Shared) (retirement : Retirement) : Type 0 where
  pub streams : HasStreams retirement.pipe
  pub there : IsPlace state.tags (length state.parts) retirement.place
  pub left : is_left_over_at state retirement.pipe retirement.place ≡ true
  pub stage : IsAtStage state retirement.pipe retirement.place retirement.stage

-- the controller was moved past the place's TD on this pipe, which the host hasn't seen yet
abbrev pub was_moved : RetirementStage → Bool
was_moved MoveAnswered = true
was_moved _ = false

abbrev pub is_passed : Shared → Pipe → Place → Bool
is_passed state pipe place =
    option_map_or (λ retirement. same_pipe retirement.pipe pipe && (same_place retirement.place place && was_moved retirement.stage)) state.retirement false

-- What stands on a pipe for a place. While the pipe isn't held it runs wherever it has a TRB to take, so that a TD that is left over is
-- retired from a pipe that runs (of as many clients as there are streams). A TD that is left over has a TRB until the controller was moved past it.
pub record FlowsAt (state : Shared) (pipe : Pipe) (place : Place) : Type 0 where
  pub runs : greatest_tag state ≤ STREAMS → is_held state pipe ≡ false → has_trb_at state pipe place ≡ true → (pipe_of state pipe).runs ≡ true
  pub left : is_passed state pipe place ≡ false → is_left_over_at state pipe place ≡ true → has_trb_at state pipe place ≡ true

-- Every place is matched, also one that isn't there: nothing stands at it, so that nothing names it.
pub record IsMatched (state : Shared) : Type 0 where
  pub tags : AreTags state.tags
  pub slots : HaveSlots state.parts
  pub places : (place : Place) → IsMatchedAt state place (under state.parts place)
  pub ordered : IsOrdered state
  pub retired : retired_places state.events ≡ answered_places state.retirement
  pub retiring : IfSome state.retirement (IsRetiring state)
  pub flows : (pipe : Pipe) (place : Place) → FlowsAt state pipe place

-- WHAT FOLLOWS

-- The places of the TRBs in the command pipe's ring, the oldest first: of those taken whose events wait, then of those
-- that the device hasn't received.
abbrev pub pipe_places : Shared → List Place
pipe_places state = carried_places state.events ++ state.messages

-- a client has as many TRBs in the command pipe's ring as it has slots at most, and three events for each slot; and the controller's own
-- commands one event
pub record HasRoom (state : Shared) : Type 0 where
  pub pipe : length (pipe_places state) ≤ greatest_tag state
  pub events : length state.events ≤ 3 * greatest_tag state + 1

-- the same of as many tags as there are streams: the command pipe's ring has room for all but two of its places, and the event ring for all but one
pub record HasRingRoom (state : Shared) : Type 0 where
  pub pipe : length (pipe_places state) ≤ STREAMS
  pub events : length state.events ≤ 3 * STREAMS + 1

-- nothing names a place twice
pub record IsNamedOnce (state : Shared) (place : Place) : Type 0 where
  pub command : times place (pipe_places state) ≤ 1
  pub data_events : data_events place state.events ≤ 1
  pub status_events : status_events place state.events ≤ 1
  pub ready : times_ready state.parts place ≤ 1

-- a message is of a queued command of a place that is there, and the command TD is as it was pushed
pub record IsOwnMessage (tags : ℕ) (parts : List Part) (place : Place) : Type 0 where
  pub entry : Entry
  pub held : under parts place ≡ Some entry
  pub there : IsPlace tags (length parts) place
  pub queued : entry.task.phase ≡ Queued
  pub pushed : entry.command_td ≡ pushed

-- the event is of a TD that is pending and whose last TRB was taken
abbrev pub awaits_data : ℕ → Option Td → Bool
awaits_data trbs None = false
awaits_data trbs (Some td) = is_awaited td trbs

abbrev pub awaits_event : Completion → Entry → Bool
awaits_event (CommandDone place) entry = is_awaited entry.command_td 1
awaits_event (DataDone place) entry = awaits_data (data_trbs entry.task.request) entry.data_td
awaits_event (StatusDone place) entry = is_awaited entry.status_td 1
awaits_event (EngineDone place) entry = false

-- an event of a TD is of such a one, of a place that is there, and the host makes something of it
pub record IsOwnTdEvent (tags : ℕ) (parts : List Part) (event : Completion) : Type 0 where
  pub entry : Entry
  pub held : under parts (event_place event) ≡ Some entry
  pub there : IsPlace tags (length parts) (event_place event)
  pub awaits : awaits_event event entry ≡ true
  pub seen : is_some (seen_by event entry) ≡ true

-- an event of the controller's own commands is of the retirement under way, whose command was executed
pub record IsOwnEngineEvent (state : Shared) (place : Place) : Type 0 where
  pub retirement : Retirement
  pub under_way : state.retirement ≡ Some retirement
  pub place_same : retirement.place ≡ place
  pub answered : is_asked retirement.stage ≡ false

abbrev pub IsOwnEvent : Shared → Completion → Type 0
IsOwnEvent state (CommandDone place) = IsOwnTdEvent state.tags state.parts (CommandDone place)
IsOwnEvent state (DataDone place) = IsOwnTdEvent state.tags state.parts (DataDone place)
IsOwnEvent state (StatusDone place) = IsOwnTdEvent state.tags state.parts (StatusDone place)
IsOwnEvent state (EngineDone place) = IsOwnEngineEvent state place

-- every message and every event that waits is of an entry that waits for it: none is stray
pub record HasNoStray (state : Shared) : Type 0 where
  pub messages : (at : ℕ) (place : Place) → slice_get state.messages at ≡ Some place → IsOwnMessage state.tags state.parts place
  pub events : (at : ℕ) (event : Completion) → slice_get state.events at ≡ Some event → IsOwnEvent state event

-- a TRB in the command pipe's ring is of a command TD that is pending
pub record IsPendingCommand (parts : List Part) (place : Place) : Type 0 where
  pub entry : Entry
  pub held : under parts place ≡ Some entry
  pub pending : entry.command_td.state ≡ Pending

abbrev pub ArePendingCommands : Shared → Type 0
ArePendingCommands state = (at : ℕ) (place : Place) → slice_get (pipe_places state) at ≡ Some place → IsPendingCommand state.parts place

-- of a command TD either the TRB was taken or its message waits
abbrev pub HaveCommandTrbs : Shared → Type 0
HaveCommandTrbs state = (place : Place) → IfSome (under state.parts place) (λ entry. entry.command_td.consumed + times place state.messages ≡ 1)

-- a data TD has MOST_DATA_TRBS TRBs at most, and is there exactly where it has one
pub record HasDataTrbs (entry : Entry) : Type 0 where
  pub most : data_trbs entry.task.request ≤ MOST_DATA_TRBS
  pub there : is_some entry.data_td ≡ nat_lt 0 (data_trbs entry.task.request)

abbrev pub HaveDataTrbs : Shared → Type 0
HaveDataTrbs state = (place : Place) → IfSome (under state.parts place) HasDataTrbs

-- THE LAWS

abbrev pub OpeningIsMatched : Type 0
OpeningIsMatched = (tags : ℕ) (units : List BlockMaps) → AreTags tags → IsMatched (opening tags units)

-- a step keeps what waits matched
abbrev pub StepKeepsMatches : Type 0
StepKeepsMatches = (state : Shared) (step : Step) → IsMatched state → IsMatched (shared_step state step).0

-- the order of a client's requests among it
abbrev pub OrderIsKept : Type 0
OrderIsKept = (state : Shared) (step : Step) → IsMatched state → IsOrdered (shared_step state step).0

-- what is so of every matched state
abbrev pub FromMatches : (Shared → Type 0) → Type 0
FromMatches Holds = (state : Shared) → IsMatched state → Holds state

-- the same of as many tags as there are streams at most
abbrev pub RingsHaveRoom : Type 0
RingsHaveRoom = (state : Shared) → IsMatched state → greatest_tag state ≤ STREAMS → HasRingRoom state

abbrev pub AreNamedOnce : Shared → Type 0
AreNamedOnce state = (place : Place) → IsNamedOnce state place

-- the device always receives the command that the first message is of
abbrev pub CarryActs : Shared → Type 0
CarryActs state =
    (place : Place) (rest : List Place) → state.messages ≡ place ∷ rest → (shared_step state CommandPipe).1.mark ≡ Carry (suc place.slot)

-- and the host always sees the first event: of a TD, what stood there becomes what the event makes of it
abbrev pub is_td_event : Completion → Bool
is_td_event (CommandDone place) = true
is_td_event (DataDone place) = true
is_td_event (StatusDone place) = true
is_td_event (EngineDone place) = false

abbrev pub EventActs : Shared → Type 0
EventActs state =
    (event : Completion) (rest : List Completion) → state.events ≡ event ∷ rest → is_td_event event ≡ true
    → (old : Entry) × (new : Entry) × (under state.parts (event_place event) ≡ Some old) × (seen_by event old ≡ Some new)
    × (under (shared_step state Event).0.parts (event_place event) ≡ Some new)

-- the event of a command TD frees the oldest TRB in the command pipe's ring, and no other is of its place
abbrev pub EventFreesFirst : Shared → Type 0
EventFreesFirst state =
    (place : Place) (rest : List Completion) → state.events ≡ CommandDone place ∷ rest
    → (pipe_places state ≡ place ∷ pipe_places (shared_step state Event).0) × (times place (pipe_places (shared_step state Event).0) ≡ 0)

-- where a chunk moves no data event of the place waits, and where an answer is handed over no status event
abbrev pub NoDataEventWaits : Shared → Type 0
NoDataEventWaits state =
    (tag : ℕ) (place : Place) → place_of state.tags (length state.parts) tag ≡ Some place → due state (Data tag) ≡ true → data_events place state.events ≡ 0

abbrev pub NoStatusEventWaits : Shared → Type 0
NoStatusEventWaits state =
    (tag : ℕ) (place : Place) → place_of state.tags (length state.parts) tag ≡ Some place → due state (Status tag) ≡ true → status_events place state.events ≡ 0

-- a submission without a fault has a data TD of MOST_DATA_TRBS TRBs at most
abbrev pub AcceptedFits : Type 0
AcceptedFits =
    (in_use : Bool) (least ticket : ℕ) (command : Command) → first_submit_fault true in_use least ticket command ≡ None
    → data_trbs (Execute command.op) ≤ MOST_DATA_TRBS

-- what is so of the state after every list of steps
abbrev pub OverReplays : (Shared → Type 0) → Type 0
OverReplays Holds = (tags : ℕ) (units : List BlockMaps) (steps : List Step) → AreTags tags → Holds (replay tags units steps).0

abbrev pub ReplaysHaveRoom : Type 0
ReplaysHaveRoom =
    (tags : ℕ) (units : List BlockMaps) (steps : List Step) → AreTags tags → length units * tags ≤ STREAMS → HasRingRoom (replay tags units steps).0
