-- What a step of the shared machine is to each client's own solo machine.
use Rattle.std.proofs.Common.{◌≡◌, ℕ, true, false, cond, List, [], ◌∷◌, Option, Some, None, option_map, refl, ap, subst, rules}
use Rattle.std.specs.Prelude.{nat_lt, ◌==◌, slice_get, slice_set, length, option_and_then}
use Rattle.std.proofs.lemmas.Bool.{eqb-true, eqb-false}
use Rattle.scsi_cmd.specs.declared.Command.{Command}
use Rattle.scsi_cmd.specs.Op.{direction_of}
use Rattle.scsi_cmd.specs.declared.Task.{Task}
use Rattle.scsi_cmd.specs.declared.SubmitFault.{SubmitFault}
use Rattle.scsi_cmd.specs.declared.SubmitFault.TheVariants.{NotYours}
use Rattle.solo_model.specs.Solo.{SoloState}
use Rattle.uas_profile.specs.declared.Place.{Place}
use Rattle.std.specs.Option.{option_map_or}
use Rattle.uas_profile.specs.declared.Pipe.{Pipe}
use Rattle.uas_profile.specs.PipeStates.{stopped_pipe}
use Rattle.shared_machine.specs.declared.Completion.{Completion}
use Rattle.shared_machine.specs.declared.Completion.TheVariants.{CommandDone, DataDone, StatusDone, EngineDone}
use Rattle.shared_machine.specs.declared.Retirement.{Retirement}
use Rattle.shared_machine.specs.declared.RetirementStage.{RetirementStage}
use Rattle.shared_machine.specs.declared.RetirementStage.TheVariants.{StopAsked, StopAnswered, MoveAsked, MoveAnswered}
use Rattle.shared_machine.specs.Pipes.{all_rung}
use Rattle.shared_machine.specs.declared.Step.{Step}
use Rattle.shared_machine.specs.declared.Step.TheVariants.{Submit, Task as TaskStep, CommandPipe, Data, Status as StatusStep, Engine, Event, Retire, Take}
use Rattle.shared_machine.specs.declared.Mark.TheVariants.{Quiet}
use Rattle.shared_machine.specs.declared.Outcome.{Outcome}
use Rattle.uas_profile.specs.Tags.{place_of, own_slot, command_slot, task_slot}
use Rattle.shared_machine.specs.Part.{Part, Act, fault_at, submitted_part, carry_act, move_act, send_act, event_act, take_act, stop_act, pass_act, retire_act}
use Rattle.shared_machine.specs.Part.{managed_part, named_slot, task_fault_at}
use Rattle.shared_machine.specs.Shared.{Shared, idle, unmoved, refusal, due, acted_on, routed, routed_to, routed_by_tag, accepted, answered, submitted_to}
use Rattle.shared_machine.specs.Shared.{submitted_under, carry_step, event_step, event_seen, due_step, shared_step}
use Rattle.shared_machine.specs.Shared.{at_stage, engine_did, engine_seen, engine_step, pipe_of, resumed, retire_step, ringing, stage_seen, streams_pending}
use Rattle.shared_machine.specs.Shared.{with_pipe, managed, managed_or, managed_to, task_refusal}
use Rattle.isolation.specs.Isolation.{label_of, nobody, own_label, own_reply, renumbered, solo_of, own_state}
use Rattle.isolation.proofs.Managed.{managed_part-own}
use Rattle.isolation.proofs.Acts.{solo_try, IsOwnAct, carry_act-own, move_act-own, send_act-own, event_act-own, take_act-own, submitted_part-own, pass_act-own}
use Rattle.isolation.proofs.Acts.{retire_act-own}
use Rattle.shared_machine.proofs.Standing.{get-within, slice_get-slice_set_same, slice_get-slice_set_other}
use Rattle.shared_machine.proofs.OwnSlots.{placed_slot-within}
use Rattle.shared_machine.proofs.NumberOfClients.{with_pipe-own}
use Rattle.shared_machine.proofs.NumberOfTags.{with_pipe-tags, with_streams_rung-tags}

-- what each client's own solo machine makes of a step of the shared machine
abbrev pub IsOwnStep : ℕ → Step → Shared → Shared × Outcome → Type 0
IsOwnStep client step old after =
    solo_try (own_state old client) (own_label old.tags client step after.1) ≡ Some (own_state after.0 client, own_reply old.tags client after.1)

-- ONE STEP

-- a step without a mark that changes no part
pub quiet-own : (client : ℕ) (step : Step) (old new : Shared) (outcome : Outcome) → new.tags ≡ old.tags → new.parts ≡ old.parts
    → outcome.mark ≡ Quiet → outcome.reply ≡ None →
    IsOwnStep client step old (new, outcome)
quiet-own client step old new outcome tags same mark reply = search rules

-- to its owner a step on one part is what it is to that part
pub written-owner : (client : ℕ) (step : Step) (old new : Shared) (outcome : Outcome) (part now : Part) →
    slice_get old.parts client ≡ Some part → new.tags ≡ old.tags → new.parts ≡ slice_set old.parts client now →
    solo_try (solo_of old.tags client part) (label_of old.tags outcome.mark step)
    ≡ Some (solo_of old.tags client now, option_map (renumbered old.tags client) outcome.reply) →
    solo_try (own_state old client) (label_of old.tags outcome.mark step) ≡ Some (own_state new client, option_map (renumbered old.tags client) outcome.reply)
written-owner client step old new outcome part now found tags wrote own =
    rw (found, tags, wrote, slice_get-slice_set_same old.parts client part now found) own

-- nobody else can tell a step on one part
pub written-other : (owner client : ℕ) (old new : Shared) (now : Part) → (owner ≡ client → ⊥) → new.tags ≡ old.tags → new.parts ≡ slice_set old.parts owner now →
    own_state old client ≡ own_state new client
written-other owner client old new now apart tags wrote = rw (tags, wrote, slice_get-slice_set_other old.parts owner client now apart) refl

-- a step on one part is to each client what it is to its own part, or nothing
pub written-own : (client : ℕ) (step : Step) (old new : Shared) (owner : ℕ) (outcome : Outcome) (part now : Part) →
    slice_get old.parts owner ≡ Some part → new.tags ≡ old.tags → new.parts ≡ slice_set old.parts owner now → outcome.owner ≡ Some owner →
    solo_try (solo_of old.tags owner part) (label_of old.tags outcome.mark step)
    ≡ Some (solo_of old.tags owner now, option_map (renumbered old.tags owner) outcome.reply) →
    IsOwnStep client step old (new, outcome)
written-own client step old new owner outcome part now found tags wrote owns own =
    rw owns (elim (owner == client) as (λ b. (owner == client) ≡ b → solo_try (own_state old client) (cond b (label_of old.tags outcome.mark step) None)
    ≡ Some (own_state new client, cond b (option_map (renumbered old.tags client) outcome.reply) None)) [
      | true ↦ λ same. let it : owner ≡ client = eqb-true owner client same in
          written-owner client step old new outcome part now (subst (λ o. slice_get old.parts o ≡ Some part) it found) tags
          (subst (λ o. new.parts ≡ slice_set old.parts o now) it wrote)
          (subst (λ o. solo_try (solo_of old.tags o part) (label_of old.tags outcome.mark step)
          ≡ Some (solo_of old.tags o now, option_map (renumbered old.tags o) outcome.reply)) it own)
      | false ↦ λ apart. ap (λ (state : SoloState). Some (state, None)) (written-other owner client old new now (eqb-false owner client apart) tags wrote)
    ] refl)

-- an act routed to a client is what it is to that client's part
pub routed_to-own : (client : ℕ) (step : Step) (old : Shared) (owner : ℕ) (act : Part → Act) (found : Option Part) →
    slice_get old.parts owner ≡ found → ((part : Part) → IsOwnAct old.tags owner step part (act part)) → IsOwnStep client step old (routed_to old owner act found)
routed_to-own client step old owner act None is own = quiet-own client step old old (unmoved owner) refl refl refl refl
routed_to-own client step old owner act (Some part) is own =
    written-own client step old (acted_on old owner (act part)).0 owner (acted_on old owner (act part)).1 part (act part).part is refl refl refl (own part)

-- the same, of the client of a number
pub routed-own : (client : ℕ) (step : Step) (old : Shared) (owner : ℕ) (act : Part → Act) →
    ((part : Part) → IsOwnAct old.tags owner step part (act part)) → IsOwnStep client step old (routed old owner act)
routed-own client step old owner act own = routed_to-own client step old owner act (slice_get old.parts owner) refl own

-- the same, of the place of a tag
pub routed_by_tag-own : (client : ℕ) (step : Step) (old : Shared) (act : Place → Part → Act) (place : Option Place) →
    ((owner : ℕ) (place : Place) (part : Part) → IsOwnAct old.tags owner step part (act place part)) → IsOwnStep client step old (routed_by_tag old act place)
routed_by_tag-own client step old act None own = quiet-own client step old old idle refl refl refl refl
routed_by_tag-own client step old act (Some place) own = routed-own client step old place.client (act place) (own place.client place)

-- the first message leaves the command pipe
pub carry_step-own : (client : ℕ) (step : Step) (old : Shared) (messages : List Place) → IsOwnStep client step old (carry_step old messages)
carry_step-own client step old [] = quiet-own client step old old idle refl refl refl refl
carry_step-own client step old (place ∷ rest) =
    routed-own client step (record old { messages = rest }) place.client (carry_act place) (carry_act-own old.tags place.client step place)

-- RETIREMENT

-- nor the doorbells that are rung
resumed-own : (client : ℕ) (step : Step) (old : Shared) (pipe : Pipe) (after : Shared × Outcome) → IsOwnStep client step old after
    → IsOwnStep client step old (resumed pipe after)
resumed-own client step old pipe after own =
    let now = all_rung (pipe_of after.0 pipe) (streams_pending after.0 pipe) in
    rw (with_pipe-tags after.0 pipe now, with_pipe-own after.0 pipe now) own

-- the controller executes the command of a retirement
engine_did-own : (client : ℕ) (step : Step) (old : Shared) (retirement : Retirement) (stage : RetirementStage)
    → IsOwnStep client step old (engine_did old retirement stage)
engine_did-own client step old retirement StopAsked =
    let held = with_pipe old retirement.pipe stopped_pipe in
    subst (λ tags. solo_try (option_map_or (solo_of tags client) (slice_get old.parts client) (nobody tags))
    (own_label tags client step (engine_did old retirement StopAsked).1)
    ≡ Some (own_state (engine_did old retirement StopAsked).0 client, own_reply tags client (engine_did old retirement StopAsked).1))
    (with_pipe-tags old retirement.pipe stopped_pipe)
    (subst (λ parts. solo_try (option_map_or (solo_of held.tags client) (slice_get parts client) (nobody held.tags))
    (own_label held.tags client step (engine_did old retirement StopAsked).1)
    ≡ Some (own_state (engine_did old retirement StopAsked).0 client, own_reply held.tags client (engine_did old retirement StopAsked).1))
    (with_pipe-own old retirement.pipe stopped_pipe)
    (routed-own client step (at_stage held retirement StopAnswered) retirement.place.client (stop_act retirement.place) (λ part. refl)))
engine_did-own client step old retirement StopAnswered = quiet-own client step old old idle refl refl refl refl
engine_did-own client step old retirement MoveAsked =
    routed-own client step (at_stage old retirement MoveAnswered) retirement.place.client (pass_act retirement.pipe retirement.place)
    (pass_act-own old.tags retirement.place.client step retirement.pipe retirement.place)
engine_did-own client step old retirement MoveAnswered = quiet-own client step old old idle refl refl refl refl

engine_step-own : (client : ℕ) (step : Step) (old : Shared) (retirement : Option Retirement) → IsOwnStep client step old (engine_step old retirement)
engine_step-own client step old None = quiet-own client step old old idle refl refl refl refl
engine_step-own client step old (Some retirement) = engine_did-own client step old retirement retirement.stage

-- the host begins a retirement
retire_step-own : (client : ℕ) (step : Step) (old : Shared) (pipe : Pipe) (place : Option Place) → IsOwnStep client step old (retire_step old pipe place)
retire_step-own client step old pipe None = quiet-own client step old old idle refl refl refl refl
retire_step-own client step old pipe (Some place) =
    quiet-own client step old (retire_step old pipe (Some place)).0 (retire_step old pipe (Some place)).1 refl refl refl refl

-- the host takes the event of a retirement's command
stage_seen-own : (client : ℕ) (step : Step) (old : Shared) (retirement : Retirement) (stage : RetirementStage)
    → IsOwnStep client step old (stage_seen old retirement stage)
stage_seen-own client step old retirement StopAsked = quiet-own client step old old (unmoved retirement.place.client) refl refl refl refl
stage_seen-own client step old retirement StopAnswered =
    quiet-own client step old (at_stage old retirement MoveAsked) (ringing retirement.place.client (0 ∷ [])) refl refl refl refl
stage_seen-own client step old retirement MoveAsked = quiet-own client step old old (unmoved retirement.place.client) refl refl refl refl
stage_seen-own client step old retirement MoveAnswered =
    let after = routed (record old { retirement = None }) retirement.place.client (retire_act retirement.pipe retirement.place) in
    resumed-own client step old retirement.pipe after
    (routed-own client step (record old { retirement = None }) retirement.place.client (retire_act retirement.pipe retirement.place)
    (retire_act-own old.tags retirement.place.client step retirement.pipe retirement.place))

engine_seen-own : (client : ℕ) (step : Step) (old : Shared) (place : Place) (retirement : Option Retirement)
    → IsOwnStep client step old (engine_seen old place retirement)
engine_seen-own client step old place None = quiet-own client step old old (unmoved place.client) refl refl refl refl
engine_seen-own client step old place (Some retirement) = stage_seen-own client step old retirement retirement.stage

-- EVENTS

event_seen-own : (client : ℕ) (step : Step) (old : Shared) (event : Completion) → IsOwnStep client step old (event_seen old event)
event_seen-own client step old (CommandDone place) =
    routed-own client step old place.client (event_act (CommandDone place)) (event_act-own old.tags place.client step (CommandDone place))
event_seen-own client step old (DataDone place) =
    routed-own client step old place.client (event_act (DataDone place)) (event_act-own old.tags place.client step (DataDone place))
event_seen-own client step old (StatusDone place) =
    routed-own client step old place.client (event_act (StatusDone place)) (event_act-own old.tags place.client step (StatusDone place))
event_seen-own client step old (EngineDone place) = engine_seen-own client step old place old.retirement

-- the first event is taken
pub event_step-own : (client : ℕ) (step : Step) (old : Shared) (events : List Completion) → IsOwnStep client step old (event_step old events)
event_step-own client step old [] = quiet-own client step old old idle refl refl refl refl
event_step-own client step old (event ∷ rest) = event_seen-own client step (record old { events = rest }) event

-- SUBMISSION

-- a submission is accepted, or refused and Quiet
pub answered-own : (client : ℕ) (old : Shared) (part : Part) (owner tag ticket slot : ℕ) (command : Command) (fault : Option SubmitFault) →
    slice_get old.parts owner ≡ Some part → nat_lt slot (task_slot old.tags) ≡ true → fault_at part slot ticket command ≡ fault →
    IsOwnStep client (Submit owner tag ticket command) old (answered old part (record { client = owner; slot = slot }) tag ticket command fault)
answered-own client old part owner tag ticket slot command None found within none =
    let after = accepted old part (record { client = owner; slot = slot }) tag ticket command in
    written-own client (Submit owner tag ticket command) old after.0 owner after.1 part (submitted_part part slot ticket command) found
    (with_streams_rung-tags old (direction_of command.op) tag) refl refl (submitted_part-own old.tags owner part slot ticket command within none)
answered-own client old part owner tag ticket slot command (Some fault) found within some =
    quiet-own client (Submit owner tag ticket command) old old (refusal owner fault command) refl refl refl refl

-- the same, of a client that is there, or isn't
pub submitted_to-own : (client : ℕ) (old : Shared) (owner tag ticket slot : ℕ) (command : Command) (found : Option Part) →
    slice_get old.parts owner ≡ found → nat_lt slot (task_slot old.tags) ≡ true →
    IsOwnStep client (Submit owner tag ticket command) old (submitted_to old (record { client = owner; slot = slot }) tag ticket command found)
submitted_to-own client old owner tag ticket slot command None is within =
    quiet-own client (Submit owner tag ticket command) old old (refusal owner NotYours command) refl refl refl refl
submitted_to-own client old owner tag ticket slot command (Some part) is within =
    answered-own client old part owner tag ticket slot command (fault_at part slot ticket command) is within refl

-- the same, under a tag that is the client's, or isn't
pub submitted_under-own : (client : ℕ) (old : Shared) (owner tag ticket : ℕ) (command : Command) (place : Option Place) (slot : Option ℕ) →
    option_and_then (own_slot old.tags owner) place ≡ slot →
    IsOwnStep client (Submit owner tag ticket command) old (submitted_under old owner tag ticket command slot)
submitted_under-own client old owner tag ticket command place None is =
    quiet-own client (Submit owner tag ticket command) old old (refusal owner NotYours command) refl refl refl refl
submitted_under-own client old owner tag ticket command place (Some slot) is =
    submitted_to-own client old owner tag ticket slot command (slice_get old.parts owner) refl (placed_slot-within old.tags owner place slot is)

-- TASK MANAGEMENT

-- a task management is accepted, or refused and Quiet
managed_or-own : (client : ℕ) (old : Shared) (part : Part) (owner ticket : ℕ) (task : Task) (fault : Option SubmitFault) → slice_get old.parts owner ≡ Some part
    → task_fault_at old.tags part (named_slot old.tags (length old.parts) owner task) ticket task ≡ fault
    → IsOwnStep client (TaskStep owner ticket task) old
    (managed_or old part (record { client = owner; slot = task_slot old.tags }) (named_slot old.tags (length old.parts) owner task) ticket task fault)
managed_or-own client old part owner ticket task None found none =
    let slot = named_slot old.tags (length old.parts) owner task in
    let after = managed old part (record { client = owner; slot = task_slot old.tags }) slot ticket task in
    written-own client (TaskStep owner ticket task) old after.0 owner after.1 part (managed_part old.tags part slot ticket task) found refl refl refl
    (managed_part-own old.tags (length old.parts) owner ticket part task (get-within old.parts owner part found) none)
managed_or-own client old part owner ticket task (Some fault) found some =
    quiet-own client (TaskStep owner ticket task) old old (task_refusal owner fault) refl refl refl refl

-- the same, of a client that is there, or isn't
managed_to-own : (client : ℕ) (old : Shared) (owner ticket : ℕ) (task : Task) (found : Option Part) → slice_get old.parts owner ≡ found
    → IsOwnStep client (TaskStep owner ticket task) old
    (managed_to old (record { client = owner; slot = task_slot old.tags }) (named_slot old.tags (length old.parts) owner task) ticket task found)
managed_to-own client old owner ticket task None is = quiet-own client (TaskStep owner ticket task) old old (task_refusal owner NotYours) refl refl refl refl
managed_to-own client old owner ticket task (Some part) is =
    managed_or-own client old part owner ticket task (task_fault_at old.tags part (named_slot old.tags (length old.parts) owner task) ticket task) is refl

-- EVERY STEP

-- whatever is due is to each client what its own solo machine makes of it
pub due_step-own : (client : ℕ) (old : Shared) (step : Step) → IsOwnStep client step old (due_step old step)
due_step-own client old (Submit owner tag ticket command) =
    submitted_under-own client old owner tag ticket command (place_of old.tags (length old.parts) tag) (command_slot old.tags (length old.parts) owner tag) refl
due_step-own client old (TaskStep owner ticket task) = managed_to-own client old owner ticket task (slice_get old.parts owner) refl
due_step-own client old CommandPipe = carry_step-own client CommandPipe old old.messages
due_step-own client old (Data tag) = routed_by_tag-own client (Data tag) old move_act (place_of old.tags (length old.parts) tag) (λ owner. move_act-own old.tags owner (Data tag))
due_step-own client old (StatusStep tag) = routed_by_tag-own client (StatusStep tag) old send_act (place_of old.tags (length old.parts) tag)
    (λ owner. send_act-own old.tags owner (StatusStep tag))
due_step-own client old Engine = engine_step-own client Engine old old.retirement
due_step-own client old Event = event_step-own client Event old old.events
due_step-own client old (Retire pipe tag) = retire_step-own client (Retire pipe tag) old pipe (place_of old.tags (length old.parts) tag)
due_step-own client old (Take owner) = routed-own client (Take owner) old owner (take_act old.tags owner) (take_act-own old.tags owner (Take owner))

-- each client's own solo machine takes the step's own label to its own state after it, with its own reply
pub shared_step-own : (client : ℕ) (old : Shared) (step : Step) → IsOwnStep client step old (shared_step old step)
shared_step-own client old step =
    elim (due old step) as (λ b. IsOwnStep client step old (cond b (due_step old step) (old, idle))) [
      | true ↦ due_step-own client old step
      | false ↦ quiet-own client step old old idle refl refl refl refl
    ]
