-- What a submission is refused for.
use Rattle.std.proofs.Common.{◌≡◌, ℕ, zero, suc, ◌<◌, ◌≤◌, true, false, cond, List, [], ◌∷◌, Option, Some, None, refl, arith, ap, sym, ◌∙◌, subst, rules}
use Rattle.std.specs.Prelude.{if◌then◌else◌, nat_lt, length, slice_get, is_some}
use Rattle.std.specs.Option.{option_map_or}
use Rattle.std.proofs.lemmas.Option.{none-some, some_pair_parts}
use Rattle.std.proofs.lemmas.Bool.{ltb-true, le-ltb, lt-ltb}
use Rattle.block_unit.specs.BlockMaps.{BlockMaps}
use Rattle.scsi_cmd.specs.declared.Command.{Command}
use Rattle.scsi_cmd.specs.declared.Reply.{Reply}
use Rattle.scsi_cmd.specs.declared.Task.{Task}
use Rattle.scsi_cmd.specs.declared.SubmitFault.{SubmitFault}
use Rattle.scsi_cmd.specs.declared.SubmitFault.TheVariants.{NotYours}
use Rattle.solo_model.specs.declared.Label.{Label}
use Rattle.scsi_cmd.specs.Held.{held_at, held_under}
use Rattle.scsi_cmd.specs.Submission.{first_submit_fault}
use Rattle.solo_model.specs.Solo.{SoloState, opening as solo_opening}
use Rattle.uas_profile.specs.declared.Place.{Place}
use Rattle.shared_machine.specs.declared.Step.{Step}
use Rattle.shared_machine.specs.declared.Step.TheVariants.{Submit, Task as TaskStep, CommandPipe, Data, Status, Engine, Event, Retire, Take}
use Rattle.uas_profile.specs.Tags.{command_slot, task_slot}
use Rattle.shared_machine.specs.Part.{Act, Part, event_act, fault_at, named_slot, retire_act, task_fault_at}
use Rattle.shared_machine.specs.Shared.{Shared, managed_or, managed_to, opening, refusal, submitted_under, shared_step, task_refusal}
use Rattle.shared_machine.specs.Shared.{engine_seen, event_seen, event_step, idle, is_some_of, routed, stage_seen}
use Rattle.shared_machine.specs.declared.Completion.{Completion}
use Rattle.shared_machine.specs.declared.Completion.TheVariants.{CommandDone, DataDone, StatusDone, EngineDone}
use Rattle.shared_machine.specs.declared.Retirement.{Retirement}
use Rattle.shared_machine.specs.declared.RetirementStage.{RetirementStage}
use Rattle.shared_machine.specs.declared.RetirementStage.TheVariants.{StopAsked, StopAnswered, MoveAsked, MoveAnswered}
use Rattle.shared_machine.specs.Replay.{replay, replayed}
use Rattle.isolation.specs.Isolation.{own_label, own_reply, own_state, solo_of, nobody}
use Rattle.shared_machine.specs.Part.{own_tag}
use Rattle.isolation.specs.Refusals.{solo_fault, own_fault, own_task_fault, fault_alone, handed_back, after_label, is_submission, IsRefusedAsOwn, OnlySubmissionsAreRefused}
use Rattle.isolation.specs.Refusals.{RefusedAsOwn, AllRefusedAsOwn, TasksAreOwned}
use Rattle.shared_machine.specs.declared.Outcome.{Outcome}
use Rattle.isolation.proofs.Acts.{solo_try, held_at-solo_of, is_some-own}
use Rattle.shared_machine.proofs.OwnSlots.{IsOwnSlot, command_slot-own, own-command_slot}
use Rattle.isolation.proofs.Managed.{task_fault-own}
use Rattle.isolation.proofs.Routes.{shared_step-own}
use Rattle.shared_machine.proofs.NumberOfClients.{length-parts}
use Rattle.shared_machine.proofs.Opening.{length-new_parts}
use Rattle.isolation.proofs.FirstBlocks.{opening-solo}
use Rattle.shared_machine.proofs.Standing.{get-none, get-within}

-- FAULTS

-- the fault that the shared machine finds for a submission, under this slot of this part
abbrev pub shared_fault : Option Part → ℕ → Command → Option ℕ → Option SubmitFault
shared_fault part ticket command None = Some NotYours
shared_fault part ticket command (Some slot) = option_map_or (λ (p : Part). fault_at p slot ticket command) part (Some NotYours)

-- no slot: the tag is no command tag of the client
not_yours : (clients client tag ticket : ℕ) (own : SoloState) (command : Command) → command_slot own.tags clients client tag ≡ None →
    own_fault clients own client tag ticket command ≡ Some NotYours
not_yours clients client tag ticket own command none =
    elim (nat_lt client clients) as
    (λ b. nat_lt client clients ≡ b → cond b (solo_fault own (own_tag own.tags client tag) ticket command) (Some NotYours) ≡ Some NotYours) [
      | false ↦ λ is. refl
      | true ↦ λ there. elim (own_tag own.tags client tag) as (λ index. own_tag own.tags client tag ≡ index → solo_fault own index ticket command ≡ Some NotYours) [
        | zero ↦ λ index. refl
        | suc slot ↦ λ index. elim (nat_lt slot (task_slot own.tags)) as
            (λ b. nat_lt slot (task_slot own.tags) ≡ b
            → first_submit_fault b (is_some (held_under own.tasks (suc slot))) own.least_ticket ticket command ≡ Some NotYours) [
              | false ↦ λ is. refl
              | true ↦ λ within. absurd (none-some slot (sym none
                  ∙ own-command_slot own.tags clients client tag slot (record { there = ltb-true _ _ there; within = ltb-true _ _ within; index = index })))
            ] refl
      ] refl
    ] refl

-- the client's own state has the bus's number of tags, whether it is there or not
own-tags : (state : Shared) (client : ℕ) (found : Option Part) → (option_map_or (solo_of state.tags client) found (nobody state.tags)).tags ≡ state.tags
own-tags state client None = refl
own-tags state client (Some part) = refl

-- a slot: the solo machine has under the index what the entry has
slot_fault : (state : Shared) (client tag ticket slot : ℕ) (command : Command) (found : Option Part) → slice_get state.parts client ≡ found →
    IsOwnSlot state.tags (length state.parts) client tag slot →
    own_fault (length state.parts) (option_map_or (solo_of state.tags client) found (nobody state.tags)) client tag ticket command ≡ shared_fault found ticket command (Some slot)
slot_fault state client tag ticket slot command None found own = let past = get-none state.parts client found in absurd (omega (arith, own.there))
slot_fault state client tag ticket slot command (Some part) found own =
    let there : nat_lt client (length state.parts) ≡ true = lt-ltb _ _ own.there in
    let within : nat_lt slot (task_slot state.tags) ≡ true = lt-ltb _ _ own.within in
    let index = own.index in
    rw (there, index, within, held_at-solo_of state.tags client part.entries slot)
    (ap (λ b. first_submit_fault true b part.least_ticket ticket command) (is_some-own state.tags client (held_at part.entries slot)))

-- the shared machine's fault is the client's own
pub own_fault-shared : (state : Shared) (client tag ticket : ℕ) (command : Command) (slot : Option ℕ) → command_slot state.tags (length state.parts) client tag ≡ slot →
    own_fault (length state.parts) (own_state state client) client tag ticket command ≡ shared_fault (slice_get state.parts client) ticket command slot
own_fault-shared state client tag ticket command None is =
    not_yours (length state.parts) client tag ticket (own_state state client) command
    (ap (λ tags. command_slot tags (length state.parts) client tag) (own-tags state client (slice_get state.parts client)) ∙ is)
own_fault-shared state client tag ticket command (Some slot) is =
    slot_fault state client tag ticket slot command (slice_get state.parts client) refl (command_slot-own state.tags (length state.parts) client tag slot is)

-- what the shared machine refuses
pub submitted_under-refused : (state : Shared) (client tag ticket : ℕ) (command : Command) (slot : Option ℕ) →
    (submitted_under state client tag ticket command slot).1.refused ≡ handed_back command (shared_fault (slice_get state.parts client) ticket command slot)
submitted_under-refused state client tag ticket command slot = search rules

pub submitted_under-unchanged : (state : Shared) (client tag ticket : ℕ) (command : Command) (slot : Option ℕ) (fault : SubmitFault) →
    shared_fault (slice_get state.parts client) ticket command slot ≡ Some fault →
    submitted_under state client tag ticket command slot ≡ (state, refusal client fault command)
submitted_under-unchanged state client tag ticket command slot fault is = search rules

-- THE LAWS

pub submit-refused : (state : Shared) (client tag ticket : ℕ) (command : Command) →
    (shared_step state (Submit client tag ticket command)).1.refused
    ≡ handed_back command (own_fault (length state.parts) (own_state state client) client tag ticket command)
submit-refused state client tag ticket command =
    submitted_under-refused state client tag ticket command (command_slot state.tags (length state.parts) client tag)
    ∙ ap (handed_back command) (sym (own_fault-shared state client tag ticket command (command_slot state.tags (length state.parts) client tag) refl))

pub submit-unchanged : (state : Shared) (client tag ticket : ℕ) (command : Command) (fault : SubmitFault) →
    own_fault (length state.parts) (own_state state client) client tag ticket command ≡ Some fault →
    shared_step state (Submit client tag ticket command) ≡ (state, refusal client fault command)
submit-unchanged state client tag ticket command fault is =
    submitted_under-unchanged state client tag ticket command (command_slot state.tags (length state.parts) client tag) fault
    (sym (own_fault-shared state client tag ticket command (command_slot state.tags (length state.parts) client tag) refl) ∙ is)

-- TASK MANAGEMENT

-- the fault that the shared machine finds for a task management of this part
abbrev pub shared_task_fault : ℕ → ℕ → Option Part → ℕ → ℕ → Task → Option SubmitFault
shared_task_fault tags clients part client ticket task =
    option_map_or (λ (p : Part). task_fault_at tags p (named_slot tags clients client task) ticket task) part (Some NotYours)

task_fault-found : (state : Shared) (client ticket : ℕ) (task : Task) (found : Option Part) → slice_get state.parts client ≡ found
    → own_task_fault (length state.parts) (option_map_or (solo_of state.tags client) found (nobody state.tags)) client ticket task
    ≡ shared_task_fault state.tags (length state.parts) found client ticket task
task_fault-found state client ticket task None found =
    let past : length state.parts ≤ client = get-none state.parts client found in
    let beyond : nat_lt client (length state.parts) ≡ false = le-ltb _ _ past in
    rw beyond refl
task_fault-found state client ticket task (Some part) found =
    let here : client < length state.parts = get-within state.parts client part found in
    let within : nat_lt client (length state.parts) ≡ true = lt-ltb _ _ here in
    rw within (task_fault-own state.tags (length state.parts) client ticket part task here)

managed_to-refused : (state : Shared) (place : Place) (slot : Option ℕ) (ticket : ℕ) (task : Task) (part : Option Part)
    → (managed_to state place slot ticket task part).1.refused
    ≡ fault_alone (option_map_or (λ (p : Part). task_fault_at state.tags p slot ticket task) part (Some NotYours))
managed_to-refused state place slot ticket task part = search rules

managed_to-unchanged : (state : Shared) (place : Place) (slot : Option ℕ) (ticket : ℕ) (task : Task) (part : Option Part) (fault : SubmitFault)
    → option_map_or (λ (p : Part). task_fault_at state.tags p slot ticket task) part (Some NotYours) ≡ Some fault
    → managed_to state place slot ticket task part ≡ (state, task_refusal place.client fault)
managed_to-unchanged state place slot ticket task part fault is = search rules

pub task-refused : (state : Shared) (client ticket : ℕ) (task : Task) →
    (shared_step state (TaskStep client ticket task)).1.refused
    ≡ fault_alone (own_task_fault (length state.parts) (own_state state client) client ticket task)
task-refused state client ticket task =
    managed_to-refused state (record { client = client; slot = task_slot state.tags }) (named_slot state.tags (length state.parts) client task) ticket task
    (slice_get state.parts client)
    ∙ ap fault_alone (sym (task_fault-found state client ticket task (slice_get state.parts client) refl))

pub task-unchanged : (state : Shared) (client ticket : ℕ) (task : Task) (fault : SubmitFault) →
    own_task_fault (length state.parts) (own_state state client) client ticket task ≡ Some fault →
    shared_step state (TaskStep client ticket task) ≡ (state, task_refusal client fault)
task-unchanged state client ticket task fault is =
    managed_to-unchanged state (record { client = client; slot = task_slot state.tags }) (named_slot state.tags (length state.parts) client task) ticket task
    (slice_get state.parts client) fault
    (sym (task_fault-found state client ticket task (slice_get state.parts client) refl) ∙ is)

managed_or-owned : (state : Shared) (part : Part) (place : Place) (slot : Option ℕ) (ticket : ℕ) (task : Task) (fault : Option SubmitFault)
    → ((managed_or state part place slot ticket task fault).1.acted ≡ true) × ((managed_or state part place slot ticket task fault).1.owner ≡ Some place.client)
managed_or-owned state part place slot ticket task None = (refl, refl)
managed_or-owned state part place slot ticket task (Some fault) = (refl, refl)

managed_to-owned : (state : Shared) (place : Place) (slot : Option ℕ) (ticket : ℕ) (task : Task) (part : Option Part)
    → ((managed_to state place slot ticket task part).1.acted ≡ true) × ((managed_to state place slot ticket task part).1.owner ≡ Some place.client)
managed_to-owned state place slot ticket task None = (refl, refl)
managed_to-owned state place slot ticket task (Some part) = managed_or-owned state part place slot ticket task (task_fault_at state.tags part slot ticket task)

pub task-owned : TasksAreOwned
task-owned state client ticket task =
    managed_to-owned state (record { client = client; slot = task_slot state.tags }) (named_slot state.tags (length state.parts) client task) ticket task
    (slice_get state.parts client)

-- OVER WHOLE REPLAYS

-- a client's own submission was refused as its own state has it
pub refused-own : (state : Shared) (client : ℕ) (step : Step)
    → RefusedAsOwn (length state.parts) client (own_state state client) step (shared_step state step).1
refused-own state client (Submit owner tag ticket command) = λ same.
    rw (← same) (submit-refused state owner tag ticket command)
refused-own state client (TaskStep owner ticket task) = λ same.
    subst (λ other. (shared_step state (TaskStep owner ticket task)).1.refused
    ≡ fault_alone (own_task_fault (length state.parts) (own_state state other) other ticket task)) same (task-refused state owner ticket task)
refused-own state client CommandPipe = tt
refused-own state client (Data tag) = tt
refused-own state client (Status tag) = tt
refused-own state client Engine = tt
refused-own state client Event = tt
refused-own state client (Retire pipe tag) = tt
refused-own state client (Take owner) = tt

-- nothing but a submission is refused
routed-unrefused : (state : Shared) (client : ℕ) (act : Part → Act) → (routed state client act).1.refused ≡ None
routed-unrefused state client act = search rules

stage-unrefused : (state : Shared) (retirement : Retirement) (stage : RetirementStage) → (stage_seen state retirement stage).1.refused ≡ None
stage-unrefused state retirement StopAsked = refl
stage-unrefused state retirement StopAnswered = refl
stage-unrefused state retirement MoveAsked = refl
stage-unrefused state retirement MoveAnswered =
    routed-unrefused (record state { retirement = None }) retirement.place.client (retire_act retirement.pipe retirement.place)

engine-unrefused : (state : Shared) (place : Place) (retirement : Option Retirement) → (engine_seen state place retirement).1.refused ≡ None
engine-unrefused state place None = refl
engine-unrefused state place (Some retirement) = stage-unrefused state retirement retirement.stage

seen-unrefused : (state : Shared) (event : Completion) → (event_seen state event).1.refused ≡ None
seen-unrefused state (CommandDone place) = routed-unrefused state place.client (event_act (CommandDone place))
seen-unrefused state (DataDone place) = routed-unrefused state place.client (event_act (DataDone place))
seen-unrefused state (StatusDone place) = routed-unrefused state place.client (event_act (StatusDone place))
seen-unrefused state (EngineDone place) = engine-unrefused state place state.retirement

events-unrefused : (state : Shared) (events : List Completion)
    → (if is_some_of events then event_step state events else (state, idle)).1.refused ≡ None
events-unrefused state [] = refl
events-unrefused state (event ∷ rest) = seen-unrefused (record state { events = rest }) event

pub submissions-alone : OnlySubmissionsAreRefused
submissions-alone state (Submit client tag ticket command) is = search rules
submissions-alone state (TaskStep client ticket task) is = search rules
submissions-alone state CommandPipe is = search rules
submissions-alone state (Data tag) is = search rules
submissions-alone state (Status tag) is = search rules
submissions-alone state Engine is = search rules
submissions-alone state Event is = events-unrefused state state.events
submissions-alone state (Retire pipe tag) is = search rules
submissions-alone state (Take client) is = search rules

pub step_refused_as_own : (old new : Shared) (step : Step) (outcome : Outcome) → shared_step old step ≡ (new, outcome) → IsRefusedAsOwn old step outcome
step_refused_as_own old new step outcome is =
    let P : Shared × Outcome → Type 0 = λ after. IsRefusedAsOwn old step after.1 in
    subst P is (record { own = λ client. refused-own old client step; other = submissions-alone old step })

-- the state after a label is the solo machine's
after_label-is : (own now : SoloState) (label : Option Label) (reply : Option Reply) → solo_try own label ≡ Some (now, reply) → after_label own label ≡ Some now
after_label-is own now None reply is = let parts = some_pair_parts own now None reply is in ap Some parts.0
after_label-is own now (Some label) reply is = rw is refl

pub replayed-refused : (state : Shared) (client : ℕ) (steps : List Step) →
    AllRefusedAsOwn (length state.parts) client (own_state state client) steps (replayed state steps).1
replayed-refused state client [] = refl
replayed-refused state client (step ∷ steps) =
    let after = shared_step state step in
    let P : ℕ → Type 0 = λ n. AllRefusedAsOwn n client (own_state after.0 client) steps (replayed after.0 steps).1 in (
      refused-own state client step,
      own_state after.0 client,
      subst (λ tags. after_label (own_state state client) (own_label tags client step after.1) ≡ Some (own_state after.0 client))
          (sym (own-tags state client (slice_get state.parts client)))
          (after_label-is (own_state state client) (own_state after.0 client) (own_label state.tags client step after.1)
          (own_reply state.tags client after.1) (shared_step-own client state step)),
      subst P (length-parts state step) (replayed-refused after.0 client steps),
    )

pub replay-refused : (tags : ℕ) (units : List BlockMaps) (steps : List Step) (client : ℕ) (unit : BlockMaps) → slice_get units client ≡ Some unit →
    AllRefusedAsOwn (length units) client (solo_opening tags unit) steps (replay tags units steps).1
replay-refused tags units steps client unit is =
    let P : ℕ → Type 0 = λ n. AllRefusedAsOwn n client (own_state (opening tags units) client) steps (replay tags units steps).1 in
    let Q : SoloState → Type 0 = λ own. AllRefusedAsOwn (length units) client own steps (replay tags units steps).1 in
    subst Q (opening-solo tags units client unit is) (subst P (length-new_parts 0 units) (replayed-refused (opening tags units) client steps))
