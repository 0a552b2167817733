-- A reply brings back a tag of the client whose step it is, for each number of tags.
use Rattle.std.proofs.Common.{◌≡◌, ℕ, ◌<◌, Bool, true, false, List, [], ◌∷◌, Option, Some, None, IfSome, refl, ap, sym, subst, ◌∙◌}
use Rattle.std.specs.Prelude.{slice_get, if◌then◌else◌, option_and_then}
use Rattle.std.specs.Option.{option_map_or}
use Rattle.uas_profile.specs.declared.Place.{Place}
use Rattle.uas_profile.specs.Tags.{command_slot, place_of}
use Rattle.scsi_cmd.specs.declared.Reply.{Reply}
use Rattle.scsi_cmd.specs.declared.Request.{Request}
use Rattle.scsi_cmd.specs.declared.Request.TheVariants.{Execute, Manage}
use Rattle.scsi_cmd.specs.Held.{held_at}
use Rattle.scsi_cmd.specs.Replies.{reply_tag}
use Rattle.solo_model.specs.declared.TaskAnswer.{TaskAnswer}
use Rattle.solo_model.specs.declared.TaskAnswer.TheVariants.{WithStatus, WithResponse}
use Rattle.solo_model.specs.declared.Phase.{Phase}
use Rattle.solo_model.specs.declared.Phase.TheVariants.{Queued, Begun, Sent, Gone}
use Rattle.solo_model.specs.TaggedTask.{TaggedTask, aborted_by, answered_by, reply_from}
use Rattle.shared_machine.specs.declared.Outcome.{Outcome}
use Rattle.shared_machine.specs.declared.Step.{Step}
use Rattle.shared_machine.specs.declared.Step.TheVariants.{Submit, Task, CommandPipe, Data, Status, Engine, Event, Retire, Take}
use Rattle.shared_machine.specs.Td.{Entry}
use Rattle.shared_machine.specs.Part.{Part, entry_reply, move_act, named_slot, send_act, settled, slot_tag, take_act, taken}
use Rattle.shared_machine.specs.Shared.{Shared, due, due_step, idle, routed_to, shared_step}
use Rattle.shared_machine.specs.Replay.{replayed}
use Rattle.machine_invariant.specs.Matched.{IsMatched, held_in}
use Rattle.machine_invariant.proofs.MatchedBounds.{held-place}
use Rattle.machine_invariant.proofs.MatchedSteps.{shared_step-matched}
use Rattle.log_audit.proofs.Silent.{carry-silent, engine-silent, event-silent, managed-silent, move-slot, retire-silent, send-slot, submitted-silent, tagged-silent}
use Rattle.shared_machine.proofs.NumberOfTags.{kept-tags}

-- a reply brings back the tag of a slot of this client, of so many that each has
pub record IsOf (tags owner : ℕ) (reply : Reply) : Type 0 where
  pub slot : ℕ
  pub within : slot < tags
  pub is : reply_tag reply ≡ slot_tag tags owner slot

-- where there is a reply it brings back a tag of the owner
abbrev pub IsTagged : ℕ → Option ℕ → Option Reply → Type 0
IsTagged tags owner None = Unit {0}
IsTagged tags None (Some reply) = ⊥
IsTagged tags (Some owner) (Some reply) = IsOf tags owner reply

-- ONE REPLY

-- a reply under a slot's tag
under-slot : (tags client slot : ℕ) (reply : Reply) → slot < tags → reply_tag reply ≡ slot_tag tags client slot → IsOf tags client reply
under-slot tags client slot reply within is = record { slot = slot; within = within; is = is }

aborted-tagged : (tags client slot ticket : ℕ) (buffer : List ℕ) (request : Request) → slot < tags
    → IsTagged tags (Some client) (aborted_by (slot_tag tags client slot) ticket buffer request)
aborted-tagged tags client slot ticket buffer (Execute op) within = under-slot tags client slot _ within refl
aborted-tagged tags client slot ticket buffer (Manage what noted) within = tt

answered-tagged : (tags client slot ticket : ℕ) (buffer : List ℕ) (answer : TaskAnswer) (request : Request) → slot < tags
    → IsTagged tags (Some client) (answered_by (slot_tag tags client slot) ticket buffer answer request)
answered-tagged tags client slot ticket buffer (WithStatus answer) (Execute op) within = under-slot tags client slot _ within refl
answered-tagged tags client slot ticket buffer (WithStatus answer) (Manage what noted) within = tt
answered-tagged tags client slot ticket buffer (WithResponse code) (Execute op) within = tt
answered-tagged tags client slot ticket buffer (WithResponse code) (Manage what noted) within = under-slot tags client slot _ within refl

phase-tagged : (tags client slot : ℕ) (task : TaggedTask) (phase : Phase) → slot < tags
    → IsTagged tags (Some client) (reply_from (slot_tag tags client slot) task phase)
phase-tagged tags client slot task Queued within = tt
phase-tagged tags client slot task (Begun progress) within = tt
phase-tagged tags client slot task (Sent answer) within =
    answered-tagged tags client slot task.ticket task.buffer answer task.request within
phase-tagged tags client slot task Gone within = aborted-tagged tags client slot task.ticket task.buffer task.request within

-- TAKE

-- a part holds something at its client's slots alone, so many that each client has tags
abbrev HoldsBelow : ℕ → Part → Type 0
HoldsBelow tags part = (slot : ℕ) (entry : Entry) → held_at part.entries slot ≡ Some entry → slot < tags

-- so does each part of a matched state
matched-below : (state : Shared) (client : ℕ) (found : Option Part) → IsMatched state → slice_get state.parts client ≡ found
    → IfSome found (HoldsBelow state.tags)
matched-below state client None all there = tt
matched-below state client (Some part) all there = λ slot entry held.
    let place : Place = record { client = client; slot = slot } in
    (held-place state place entry all (ap (λ found. option_map_or (held_in place) found None) there ∙ held)).slot

settled-tagged : (tags : ℕ) (owner : Option ℕ) (part : Part) (slot : ℕ) (rest : List ℕ) (reply : Option Reply) → IsTagged tags owner reply
    → IsTagged tags owner (settled part slot rest reply).reply
settled-tagged tags owner part slot rest None is = tt
settled-tagged tags owner part slot rest (Some reply) is = is

held-tagged : (tags client slot : ℕ) (part : Part) (rest : List ℕ) (held : Option Entry) → HoldsBelow tags part → held_at part.entries slot ≡ held
    → IsTagged tags (Some client) (settled part slot rest (option_and_then (entry_reply (slot_tag tags client slot)) held)).reply
held-tagged tags client slot part rest None below is = tt
held-tagged tags client slot part rest (Some entry) below is =
    settled-tagged tags (Some client) part slot rest (entry_reply (slot_tag tags client slot) entry)
    (phase-tagged tags client slot entry.task entry.task.phase (below slot entry is))

ready-tagged : (tags client : ℕ) (part : Part) (ready : List ℕ) → HoldsBelow tags part → IsTagged tags (Some client) (taken tags client part ready).reply
ready-tagged tags client part [] below = tt
ready-tagged tags client part (slot ∷ rest) below = held-tagged tags client slot part rest (held_at part.entries slot) below refl

routed-tagged : (state : Shared) (client : ℕ) (found : Option Part) → IfSome found (HoldsBelow state.tags)
    → IsTagged state.tags (routed_to state client (take_act state.tags client) found).1.owner (routed_to state client (take_act state.tags client) found).1.reply
routed-tagged state client None below = tt
routed-tagged state client (Some part) below = ready-tagged state.tags client part part.ready below

-- ONE STEP

untold : (tags : ℕ) (owner : Option ℕ) (reply : Option Reply) → reply ≡ None → IsTagged tags owner reply
untold tags owner reply none = let P : Option Reply → Type 0 = λ told. IsTagged tags owner told in subst P (sym none) tt

-- a step that acts or is idle
tried : (state : Shared) (after : Shared × Outcome) (acts : Bool) → IsTagged state.tags after.1.owner after.1.reply
    → IsTagged state.tags (if acts then after else (state, idle)).1.owner (if acts then after else (state, idle)).1.reply
tried state after true is = is
tried state after false is = tt

silent-tagged : (state : Shared) (step : Step) → (due_step state step).1.reply ≡ None
    → IsTagged state.tags (shared_step state step).1.owner (shared_step state step).1.reply
silent-tagged state step none =
    tried state (due_step state step) (due state step) (untold state.tags (due_step state step).1.owner (due_step state step).1.reply none)

pub shared_step-tagged : (state : Shared) (step : Step) → IsMatched state → IsTagged state.tags (shared_step state step).1.owner (shared_step state step).1.reply
shared_step-tagged state (Submit client tag ticket command) all =
    silent-tagged state (Submit client tag ticket command) (submitted-silent state client tag ticket command (command_slot state.tags _ client tag))
shared_step-tagged state (Task client ticket task) all =
    silent-tagged state (Task client ticket task) (managed-silent state _ (named_slot state.tags _ client task) ticket task (slice_get state.parts client))
shared_step-tagged state CommandPipe all = silent-tagged state CommandPipe (carry-silent state state.messages)
shared_step-tagged state (Data tag) all =
    silent-tagged state (Data tag) (tagged-silent state move_act (place_of state.tags _ tag) (λ at part. move-slot part at.slot at (held_at part.entries at.slot)))
shared_step-tagged state (Status tag) all =
    silent-tagged state (Status tag) (tagged-silent state send_act (place_of state.tags _ tag) (λ at part. send-slot part at.slot at (held_at part.entries at.slot)))
shared_step-tagged state Engine all = silent-tagged state Engine (engine-silent state state.retirement)
shared_step-tagged state Event all = silent-tagged state Event (event-silent state state.events)
shared_step-tagged state (Retire pipe tag) all = silent-tagged state (Retire pipe tag) (retire-silent state pipe (place_of state.tags _ tag))
shared_step-tagged state (Take client) all =
    tried state (due_step state (Take client)) (due state (Take client)) (routed-tagged state client (slice_get state.parts client) (matched-below state client (slice_get state.parts client) all refl))

-- A REPLAY

abbrev pub AllTagged : ℕ → List Outcome → Type 0
AllTagged tags [] = Unit {0}
AllTagged tags (outcome ∷ rest) = IsTagged tags outcome.owner outcome.reply × AllTagged tags rest

pub replayed-tagged : (tags : ℕ) (state : Shared) (steps : List Step) → state.tags ≡ tags → IsMatched state → AllTagged tags (replayed state steps).1
replayed-tagged tags state [] number all = tt
replayed-tagged tags state (step ∷ steps) number all = (
  subst (λ count. IsTagged count (shared_step state step).1.owner (shared_step state step).1.reply) number (shared_step-tagged state step all),
  replayed-tagged tags (shared_step state step).0 steps (kept-tags state step ∙ number) (shared_step-matched state step all),
)
