-- Where a step acts, and what it leaves where it doesn't.
use Rattle.std.proofs.Common.{◌≡◌, ℕ, Bool, true, false, List, [], ◌∷◌, Option, Some, None, refl, rules}
use Rattle.scsi_cmd.specs.declared.Command.{Command}
use Rattle.scsi_cmd.specs.declared.Task.{Task}
use Rattle.uas_profile.specs.declared.Pipe.{Pipe}
use Rattle.uas_profile.specs.declared.Place.{Place}
use Rattle.std.specs.Prelude.{if◌then◌else◌, is_none, ◌&&◌}
use Rattle.std.specs.Option.{option_map_or}
use Rattle.shared_machine.specs.declared.Step.{Step}
use Rattle.shared_machine.specs.declared.Step.TheVariants.{Submit, Task as TaskStep, CommandPipe, Data, Status, Engine, Event, Retire, Take}
use Rattle.shared_machine.specs.Part.{Act, Part, event_act, move_act, retire_act, send_act}
use Rattle.shared_machine.specs.Td.{Entry, is_left_over_on}
use Rattle.shared_machine.specs.Shared.{Shared, data_is_due, idle, due, entry_fact, managed_to, part_fact, retire_step, routed_by_tag, shared_step}
use Rattle.shared_machine.specs.Shared.{engine_seen, event_seen, event_step, is_some_of, routed, stage_seen, status_is_due, submitted_under}
use Rattle.shared_machine.specs.declared.Completion.{Completion}
use Rattle.shared_machine.specs.declared.Completion.TheVariants.{CommandDone, DataDone, StatusDone, EngineDone}
use Rattle.shared_machine.specs.declared.Retirement.{Retirement}
use Rattle.shared_machine.specs.declared.RetirementStage.{RetirementStage}
use Rattle.shared_machine.specs.declared.RetirementStage.TheVariants.{StopAsked, StopAnswered, MoveAsked, MoveAnswered}
use Rattle.uas_profile.specs.Tags.{command_slot, place_of}

-- a fact of the entry at a place that a tag names
abbrev fact_at : Shared → (Entry → Bool) → Option Place → Bool
fact_at state test found = option_map_or (λ place. part_fact state place.client (entry_fact test place.slot)) found false

routed-acted : (state : Shared) (client : ℕ) (act : Part → Act) → (routed state client act).1.acted ≡ true
routed-acted state client act = search rules

tagged-acted : (state : Shared) (act : Place → Part → Act) (test : Entry → Bool) (found : Option Place)
    → (if fact_at state test found then routed_by_tag state act found else (state, idle)).1.acted ≡ fact_at state test found
tagged-acted state act test found = search rules

retired-acted : (state : Shared) (pipe : Pipe) (found : Option Place)
    → (if is_none state.retirement && fact_at state (is_left_over_on pipe) found then retire_step state pipe found else (state, idle)).1.acted
    ≡ (is_none state.retirement && fact_at state (is_left_over_on pipe) found)
retired-acted state pipe found = search rules

submitted-acted : (state : Shared) (client tag ticket : ℕ) (command : Command) (slot : Option ℕ)
    → (submitted_under state client tag ticket command slot).1.acted ≡ true
submitted-acted state client tag ticket command slot = search rules

managed-acted : (state : Shared) (place : Place) (slot : Option ℕ) (ticket : ℕ) (task : Task) (found : Option Part)
    → (managed_to state place slot ticket task found).1.acted ≡ true
managed-acted state place slot ticket task found = search rules

stage-acted : (state : Shared) (retirement : Retirement) (stage : RetirementStage) → (stage_seen state retirement stage).1.acted ≡ true
stage-acted state retirement StopAsked = refl
stage-acted state retirement StopAnswered = refl
stage-acted state retirement MoveAsked = refl
stage-acted state retirement MoveAnswered =
    routed-acted (record state { retirement = None }) retirement.place.client (retire_act retirement.pipe retirement.place)

engine-acted : (state : Shared) (place : Place) (retirement : Option Retirement) → (engine_seen state place retirement).1.acted ≡ true
engine-acted state place None = refl
engine-acted state place (Some retirement) = stage-acted state retirement retirement.stage

seen-acted : (state : Shared) (event : Completion) → (event_seen state event).1.acted ≡ true
seen-acted state (CommandDone place) = routed-acted state place.client (event_act (CommandDone place))
seen-acted state (DataDone place) = routed-acted state place.client (event_act (DataDone place))
seen-acted state (StatusDone place) = routed-acted state place.client (event_act (StatusDone place))
seen-acted state (EngineDone place) = engine-acted state place state.retirement

events-acted : (state : Shared) (events : List Completion)
    → (if is_some_of events then event_step state events else (state, idle)).1.acted ≡ is_some_of events
events-acted state [] = refl
events-acted state (event ∷ rest) = seen-acted (record state { events = rest }) event

-- a step acts exactly where it is due
pub shared_step-acted : (state : Shared) (step : Step) → (shared_step state step).1.acted ≡ due state step
shared_step-acted state (Submit client tag ticket command) =
    submitted-acted state client tag ticket command (command_slot _ _ client tag)
shared_step-acted state (TaskStep client ticket task) = managed-acted state _ _ ticket task _
shared_step-acted state CommandPipe = search rules
shared_step-acted state (Data tag) = tagged-acted state move_act (data_is_due state tag) (place_of _ _ tag)
shared_step-acted state (Status tag) = tagged-acted state send_act (status_is_due state tag) (place_of _ _ tag)
shared_step-acted state Engine = search rules
shared_step-acted state Event = events-acted state state.events
shared_step-acted state (Retire pipe tag) = retired-acted state pipe (place_of _ _ tag)
shared_step-acted state (Take client) = search rules

-- a step that isn't due changes nothing and tells nothing
pub shared_step-idle : (state : Shared) (step : Step) → due state step ≡ false → shared_step state step ≡ (state, idle)
shared_step-idle state step is = rw is refl
