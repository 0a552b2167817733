-- No step but a Take brings a reply: act by act, and step by step.
use Rattle.std.proofs.Common.{◌≡◌, ℕ, List, [], ◌∷◌, Option, Some, None, refl}
use Rattle.std.specs.Prelude.{slice_get}
use Rattle.block_unit.specs.BlockMaps.{BlockMaps}
use Rattle.uas_profile.specs.declared.Pipe.{Pipe}
use Rattle.scsi_cmd.specs.declared.Command.{Command}
use Rattle.scsi_cmd.specs.declared.Task.{Task}
use Rattle.scsi_cmd.specs.declared.SubmitFault.{SubmitFault}
use Rattle.scsi_cmd.specs.Held.{held_at}
use Rattle.solo_model.specs.TaggedTask.{TaggedTask, carried, finds, moved, sent}
use Rattle.uas_profile.specs.declared.Place.{Place}
use Rattle.shared_machine.specs.declared.Completion.{Completion}
use Rattle.shared_machine.specs.declared.Completion.TheVariants.{CommandDone, DataDone, StatusDone, EngineDone}
use Rattle.shared_machine.specs.declared.Retirement.{Retirement}
use Rattle.shared_machine.specs.declared.RetirementStage.{RetirementStage}
use Rattle.shared_machine.specs.declared.RetirementStage.TheVariants.{StopAsked, StopAnswered, MoveAsked, MoveAnswered}
use Rattle.shared_machine.specs.Td.{Entry}
use Rattle.shared_machine.specs.Part.{Part, Act, carry_act, carried_entry, carried_slot, event_act, fault_at, moved_entry, moved_slot, tasks_in}
use Rattle.shared_machine.specs.Part.{pass_act, passed_slot, retire_act, seen_entry, sent_entry, sent_slot, stop_act, task_fault_at}
use Rattle.shared_machine.specs.Shared.{Shared, answered, carry_step, engine_did, engine_seen, engine_step, event_seen, event_step}
use Rattle.shared_machine.specs.Shared.{managed_or, managed_to, retire_step, routed, routed_by_tag, routed_to, stage_seen, submitted_to}
use Rattle.shared_machine.specs.Shared.{submitted_under}

-- ACTS

-- an act that brings no reply
abbrev pub IsSilent : (Part → Act) → Type 0
IsSilent act = (part : Part) → (act part).reply ≡ None

carried-silent : (part : Part) (slot : ℕ) (place : Place) (entry : Entry) (after : Option (BlockMaps × TaggedTask))
    → (carried_entry part slot place entry after).reply ≡ None
carried-silent part slot place entry None = refl
carried-silent part slot place entry (Some after) = refl

carry-slot : (part : Part) (slot : ℕ) (place : Place) (held : Option Entry) → (carried_slot part slot place held).reply ≡ None
carry-slot part slot place None = refl
carry-slot part slot place (Some entry) = carried-silent part slot place entry (carried part.unit (finds entry.task.request (tasks_in part.entries)) entry.task)

moved-silent : (part : Part) (slot : ℕ) (place : Place) (entry : Entry) (after : Option (BlockMaps × TaggedTask))
    → (moved_entry part slot place entry after).reply ≡ None
moved-silent part slot place entry None = refl
moved-silent part slot place entry (Some after) = refl

pub move-slot : (part : Part) (slot : ℕ) (place : Place) (held : Option Entry) → (moved_slot part slot place held).reply ≡ None
move-slot part slot place None = refl
move-slot part slot place (Some entry) = moved-silent part slot place entry (moved part.unit entry.task)

sent-silent : (part : Part) (slot : ℕ) (place : Place) (entry : Entry) (after : Option TaggedTask) → (sent_entry part slot place entry after).reply ≡ None
sent-silent part slot place entry None = refl
sent-silent part slot place entry (Some after) = refl

pub send-slot : (part : Part) (slot : ℕ) (place : Place) (held : Option Entry) → (sent_slot part slot place held).reply ≡ None
send-slot part slot place None = refl
send-slot part slot place (Some entry) = sent-silent part slot place entry (sent entry.task)

seen-silent : (event : Completion) (part : Part) (slot : ℕ) (seen : Option Entry) → (seen_entry event part slot seen).reply ≡ None
seen-silent event part slot None = refl
seen-silent event part slot (Some entry) = refl

pass-slot : (pipe : Pipe) (part : Part) (place : Place) (held : Option Entry) → (passed_slot pipe part place held).reply ≡ None
pass-slot pipe part place None = refl
pass-slot pipe part place (Some entry) = refl

-- STEPS

routed_to-silent : (state : Shared) (client : ℕ) (act : Part → Act) (at : Option Part) → IsSilent act → (routed_to state client act at).1.reply ≡ None
routed_to-silent state client act None silent = refl
routed_to-silent state client act (Some part) silent = silent part

routed-silent : (state : Shared) (client : ℕ) (act : Part → Act) → IsSilent act → (routed state client act).1.reply ≡ None
routed-silent state client act silent = routed_to-silent state client act (slice_get state.parts client) silent

pub tagged-silent : (state : Shared) (act : Place → Part → Act) (place : Option Place) → ((at : Place) → IsSilent (act at))
    → (routed_by_tag state act place).1.reply ≡ None
tagged-silent state act None silent = refl
tagged-silent state act (Some place) silent = routed-silent state place.client (act place) (silent place)

answered-silent : (state : Shared) (part : Part) (place : Place) (tag ticket : ℕ) (command : Command) (fault : Option SubmitFault)
    → (answered state part place tag ticket command fault).1.reply ≡ None
answered-silent state part place tag ticket command None = refl
answered-silent state part place tag ticket command (Some fault) = refl

submitted_to-silent : (state : Shared) (place : Place) (tag ticket : ℕ) (command : Command) (at : Option Part)
    → (submitted_to state place tag ticket command at).1.reply ≡ None
submitted_to-silent state place tag ticket command None = refl
submitted_to-silent state place tag ticket command (Some part) =
    answered-silent state part place tag ticket command (fault_at part place.slot ticket command)

pub submitted-silent : (state : Shared) (client tag ticket : ℕ) (command : Command) (slot : Option ℕ)
    → (submitted_under state client tag ticket command slot).1.reply ≡ None
submitted-silent state client tag ticket command None = refl
submitted-silent state client tag ticket command (Some slot) =
    submitted_to-silent state (record { client = client; slot = slot }) tag ticket command (slice_get state.parts client)

managed_or-silent : (state : Shared) (part : Part) (place : Place) (slot : Option ℕ) (ticket : ℕ) (task : Task) (fault : Option SubmitFault)
    → (managed_or state part place slot ticket task fault).1.reply ≡ None
managed_or-silent state part place slot ticket task None = refl
managed_or-silent state part place slot ticket task (Some fault) = refl

pub managed-silent : (state : Shared) (place : Place) (slot : Option ℕ) (ticket : ℕ) (task : Task) (at : Option Part)
    → (managed_to state place slot ticket task at).1.reply ≡ None
managed-silent state place slot ticket task None = refl
managed-silent state place slot ticket task (Some part) = managed_or-silent state part place slot ticket task (task_fault_at state.tags part slot ticket task)

pub carry-silent : (state : Shared) (messages : List Place) → (carry_step state messages).1.reply ≡ None
carry-silent state [] = refl
carry-silent state (place ∷ rest) =
    routed-silent (record state { messages = rest }) place.client (carry_act place) (λ part. carry-slot part place.slot place (held_at part.entries place.slot))

engine_did-silent : (state : Shared) (retirement : Retirement) (stage : RetirementStage) → (engine_did state retirement stage).1.reply ≡ None
engine_did-silent state retirement StopAsked = routed-silent _ retirement.place.client (stop_act retirement.place) (λ part. refl)
engine_did-silent state retirement StopAnswered = refl
engine_did-silent state retirement MoveAsked =
    routed-silent _ retirement.place.client (pass_act retirement.pipe retirement.place)
    (λ part. pass-slot retirement.pipe part retirement.place (held_at part.entries retirement.place.slot))
engine_did-silent state retirement MoveAnswered = refl

pub engine-silent : (state : Shared) (retirement : Option Retirement) → (engine_step state retirement).1.reply ≡ None
engine-silent state None = refl
engine-silent state (Some retirement) = engine_did-silent state retirement retirement.stage

stage-silent : (state : Shared) (retirement : Retirement) (stage : RetirementStage) → (stage_seen state retirement stage).1.reply ≡ None
stage-silent state retirement StopAsked = refl
stage-silent state retirement StopAnswered = refl
stage-silent state retirement MoveAsked = refl
stage-silent state retirement MoveAnswered =
    routed-silent (record state { retirement = None }) retirement.place.client (retire_act retirement.pipe retirement.place)
    (λ part. seen-silent (EngineDone retirement.place) part retirement.place.slot _)

engine_seen-silent : (state : Shared) (place : Place) (retirement : Option Retirement) → (engine_seen state place retirement).1.reply ≡ None
engine_seen-silent state place None = refl
engine_seen-silent state place (Some retirement) = stage-silent state retirement retirement.stage

event_seen-silent : (state : Shared) (event : Completion) → (event_seen state event).1.reply ≡ None
event_seen-silent state (CommandDone place) =
    routed-silent state place.client (event_act (CommandDone place)) (λ part. seen-silent (CommandDone place) part place.slot _)
event_seen-silent state (DataDone place) =
    routed-silent state place.client (event_act (DataDone place)) (λ part. seen-silent (DataDone place) part place.slot _)
event_seen-silent state (StatusDone place) =
    routed-silent state place.client (event_act (StatusDone place)) (λ part. seen-silent (StatusDone place) part place.slot _)
event_seen-silent state (EngineDone place) = engine_seen-silent state place state.retirement

pub event-silent : (state : Shared) (events : List Completion) → (event_step state events).1.reply ≡ None
event-silent state [] = refl
event-silent state (event ∷ rest) = event_seen-silent (record state { events = rest }) event

pub retire-silent : (state : Shared) (pipe : Pipe) (place : Option Place) → (retire_step state pipe place).1.reply ≡ None
retire-silent state pipe None = refl
retire-silent state pipe (Some place) = refl
