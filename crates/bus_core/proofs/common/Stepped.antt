-- Each step of host and controller, on a world that fits a state: the world after it reads as the shared machine's state after its
-- step, and the outcome is the shared machine's.
use Rattle.std.proofs.Common.{◌≡◌, ℕ, zero, suc, ◌*◌, ◌/◌, ◌%◌, ◌<◌, ◌≤◌, Bool, true, List, [], ◌∷◌, length, Option, Some, None, IfSome, refl, ap, sym}
use Rattle.std.proofs.Common.{subst, ◌∙◌}
use Rattle.std.specs.Prelude.{slice_get, nat_lt, option_and_then, option_map, is_some}
use Rattle.std.proofs.lemmas.Bool.{false≢true}
use Rattle.std.proofs.lemmas.List.{length-replicate}
use Rattle.std.proofs.lemmas.Option.{none-some, cond_some, same_Some}
use Rattle.stream_array.specs.Rings.{LinesState, IsLines, IsOpeningLines}
use Rattle.event_ring.specs.declared.Event.{Event}
use Rattle.frame_store.specs.declared.TagBuffers.{TagBuffers}
use Rattle.frame_store.specs.Buffers.{IsWhole, opening as opening_frames}
use Rattle.uas_profile.specs.declared.TheConstants.{MAX_CLIENTS, STREAMS}
use Rattle.uas_target.specs.declared.DeviceTask.{DeviceTask}
use Rattle.uas_target.specs.Device.{Device, opening as opening_device}
use Rattle.scsi_cmd.specs.declared.Reply.{Reply}
use Rattle.scsi_cmd.specs.declared.Reply.TheVariants.{Aborted, Status as StatusReply, Task as TaskReply}
use Rattle.scsi_cmd.specs.declared.Request.{Request}
use Rattle.scsi_cmd.specs.declared.Request.TheVariants.{Execute, Manage}
use Rattle.scsi_cmd.specs.Held.{held_at}
use Rattle.solo_model.specs.declared.TaskAnswer.{TaskAnswer}
use Rattle.solo_model.specs.declared.TaskAnswer.TheVariants.{WithStatus, WithResponse}
use Rattle.device_server.specs.Server.{sense_of, status_of}
use Rattle.solo_model.specs.TaggedTask.{TaggedTask, aborted_by, answered_by, reply_from, response_number}
use Rattle.solo_model.specs.declared.Phase.{Phase}
use Rattle.solo_model.specs.declared.Phase.TheVariants.{Queued, Begun, Sent, Gone}
use Rattle.uas_host.specs.Replies.{Given, replied}
use Rattle.uas_profile.specs.declared.Place.{Place}
use Rattle.uas_host.specs.declared.Handled.{Handled}
use Rattle.uas_host.specs.declared.Handled.TheVariants.{Matched}
use Rattle.uas_host.specs.declared.Retirement.{Retirement as HostRetirement}
use Rattle.uas_host.specs.State.{HostState, IsHost, opening as opening_host}
use Rattle.uas_profile.specs.Tags.{place_of, tag_of}
use Rattle.uas_host.specs.Events.{Sides as EventSides, event_doors, handled}
use Rattle.xhci_ctl.specs.declared.Acted.{Acted}
use Rattle.xhci_ctl.specs.declared.Acted.TheVariants.{Acted as DidAct}
use Rattle.block_unit.specs.BlockMaps.{BlockMaps}
use Rattle.xhci_ctl.specs.Pipes.{ControllerState, new_controller}
use Rattle.xhci_ctl.specs.Steps.{Sides, sides_of, commanded, moved, sent_by}
use Rattle.shared_machine.specs.declared.Completion.{Completion}
use Rattle.shared_machine.specs.declared.Completion.TheVariants.{CommandDone, DataDone, StatusDone, EngineDone}
use Rattle.shared_machine.specs.declared.Mark.{Mark}
use Rattle.shared_machine.specs.declared.Mark.TheVariants.{Carry, Move, Send, Settle}
use Rattle.shared_machine.specs.declared.Outcome.{Outcome}
use Rattle.shared_machine.specs.declared.Step.{Step}
use Rattle.shared_machine.specs.declared.Step.TheVariants.{CommandPipe, Data, Status, Event as EventStep, Take}
use Rattle.shared_machine.specs.Td.{Entry}
use Rattle.shared_machine.specs.Part.{Part, entry_reply, event_place, settled, slot_tag, take_act, taken}
use Rattle.shared_machine.specs.Shared.{Shared, due, due_step, shared_step, is_some_of, data_is_due, status_is_due, opening, outcome_of, place_fact}
use Rattle.shared_machine.specs.Shared.{ringing, routed, routed_to}
use Rattle.shared_machine.specs.Bus.{IsPlace}
use Rattle.machine_invariant.specs.Matched.{IsMatched, IsOwnMessage, IsOwnEvent}
use Rattle.bus_core.specs.World.{World, sides_in, with_sides, world_of}
use Rattle.bus_core.specs.Fits.{Fits, IsSoundWorld, host_retirement}
use Rattle.bus_core.specs.Decoded.{decoded, FitsItself}
use Rattle.bus_core.specs.WorldSteps.{event_sides, event_world, handled_for, rung_all, take_world, opening_world, CommandFits}
use Rattle.bus_core.specs.WorldSteps.{EventFits, EventsFit, TakeFits}
use Rattle.bus_core.specs.WorldDue.{StreamsAreMarked, marked}
use Rattle.bus_core.specs.Owners.{acted_as, handled_as, index_of, mark_by, owner_of, replying, retirement_seen}
use Rattle.bus_core.proofs.common.EventTexts.{event-within}
use Rattle.machine_invariant.proofs.MatchedBounds.{held-place}
use Rattle.machine_invariant.proofs.MatchedNext.{matched-no_stray}
use Rattle.machine_invariant.proofs.MatchedSteps.{IsDueAt, place_fact-due}
use Rattle.bus_core.proofs.common.DeviceTags.{tags-commanded}
use Rattle.bus_core.proofs.carry.CommandFits.{command_fits}
use Rattle.bus_core.proofs.chunks.DataDue.{data_fits}
use Rattle.bus_core.proofs.event.DueEvents.{events-are-due}
use Rattle.bus_core.proofs.common.OpeningFits.{opening-fits}
use Rattle.bus_core.proofs.common.OutcomeMarks.{carry-marked, move-marked, send-marked, event-marked}
use Rattle.bus_core.proofs.common.ReadBack.{decoded-back}
use Rattle.bus_core.proofs.status.StatusFits.{status_fits}
use Rattle.bus_core.proofs.take.Taking.{takes-fit}
use Rattle.uas_profile.proofs.TagLaws.{tag-of_its_place, slot-of_tag}
use Rattle.uas_profile.specs.Tags.{slot_of}
use Rattle.machine_invariant.specs.Matched.{held_in}
use Rattle.std.specs.Option.{option_map_or}

-- A STEP

-- the world after a step reads as the shared machine's state after it, and fits it; the outcome is the shared machine's
pub record IsStepped (state : Shared) (step : Step) (new : World) (outcome : Outcome) : Type 0 where
  pub fits : FitsItself new
  pub shared : due_step state step ≡ (decoded new, outcome)

pub stepped : (state : Shared) (new : World) (step : Step) (outcome : Outcome) → due state step ≡ true → Fits (shared_step state step).0 new
    → (shared_step state step).1 ≡ outcome → IsStepped state step new outcome
stepped state new step outcome acts fits told =
    let back : decoded new ≡ (shared_step state step).0 = decoded-back (shared_step state step).0 new fits in
    let whole : shared_step state step ≡ due_step state step = rw acts refl in
    record {
      fits = subst (λ s. Fits s new) (sym back) fits;
      shared = sym whole ∙ ap (λ s. (s, (shared_step state step).1)) (sym back) ∙ ap (λ o. (decoded new, o)) told;
    }

-- WHOSE A TAG IS

client-of : (tags : ℕ) (place : Place) → place.slot < tags → owner_of tags (tag_of tags place) ≡ place.client
client-of tags place within = (tag-of_its_place tags place within).0

marked-at : (tags : ℕ) (place : Place) (mark : ℕ → Mark) → place.slot < tags
    → marked place.client (mark (suc place.slot)) ≡ marked (owner_of tags (tag_of tags place)) (mark (index_of tags (tag_of tags place)))
marked-at tags place mark within =
    ap (λ c. marked c (mark (suc place.slot))) (sym (client-of tags place within))
    ∙ ap (λ s. marked (owner_of tags (tag_of tags place)) (mark (suc s))) (sym (tag-of_its_place tags place within).1)

pub place-named : (tags clients tag : ℕ) (place : Place) → place_of tags clients tag ≡ Some place → (place.client ≡ owner_of tags tag) × (suc place.slot ≡ index_of tags tag)
place-named tags clients zero place is = absurd (none-some place is)
place-named tags clients (suc before) place is =
    let same : record { client = before / tags; slot = before % tags }
    ≡ place = (cond_some (nat_lt (before / tags) clients) (record { client = before / tags; slot = before % tags }) place is).1 in
    (sym (ap (λ (p : Place). p.client) same), ap suc (sym (ap (λ (p : Place). p.slot) same)))

marked-named : (tags clients tag : ℕ) (place : Place) (mark : ℕ → Mark) → place_of tags clients tag ≡ Some place
    → marked place.client (mark (suc place.slot)) ≡ marked (owner_of tags tag) (mark (index_of tags tag))
marked-named tags clients tag place mark is =
    let named = place-named tags clients tag place is in
    ap (λ c. marked c (mark (suc place.slot))) named.0 ∙ ap (λ k. marked (owner_of tags tag) (mark k)) named.1

-- CARRY, MOVE, SEND: a step of the controller is the shared machine's

-- what is so of a step of the controller that is due
pub record IsDone (state : Shared) (world : World) (step : Step) (after : Sides × Acted) (mark : ℕ → Mark) : Type 0 where
  pub told : (shared_step state step).1 ≡ acted_as state.tags mark after.1
  pub fits : IsSoundWorld (with_sides world after.0) → Fits (shared_step state step).0 (with_sides world after.0)

-- so the world after it reads as the shared machine's state
pub done-stepped : (state : Shared) (world : World) (step : Step) (after : Sides × Acted) (mark : ℕ → Mark) (lines : LinesState)
    (frames : List TagBuffers) (device : Device) (acted : Acted)
    → due state step ≡ true → Fits state world → IsDone state world step after mark → after ≡ (sides_of lines frames device, acted)
    → IsLines lines → IsWhole frames → length after.0.device.tasks ≡ length world.device.tasks
    → IsStepped state step (world_of world.host world.controller device lines frames) (acted_as state.tags mark acted)
done-stepped state world step after mark lines frames device acted acts fits done is standing whole kept =
    let sides : after.0 ≡ sides_of lines frames device = ap (λ (a : Sides × Acted). a.0) is in
    let new : with_sides world after.0 ≡ world_of world.host world.controller device lines frames = ap (λ (s : Sides). with_sides world s) sides in
    let tags : length device.tasks ≡ STREAMS = sym (ap (λ (s : Sides). length s.device.tasks) sides) ∙ kept ∙ fits.sound.tags in
    let sound : IsSoundWorld (with_sides world after.0) = subst IsSoundWorld (sym new)
    (record { host = fits.sound.host; lines = standing; frames = whole; tags = tags }) in
    stepped state (world_of world.host world.controller device lines frames) step (acted_as state.tags mark acted) acts
    (subst (λ w. Fits (shared_step state step).0 w) new (done.fits sound))
    (done.told ∙ ap (λ (a : Sides × Acted). acted_as state.tags mark a.1) is)

carry-by : (state : Shared) (world : World) (messages : List Place) → Fits state world → state.messages ≡ messages → is_some_of messages ≡ true
    → IsDone state world CommandPipe (commanded (sides_in world)) Carry
carry-by state world [] fits is some = absurd (false≢true some)
carry-by state world (place ∷ rest) fits is some =
    let own : IsOwnMessage state.tags state.parts place = (matched-no_stray state fits.matched).messages 0 place (ap (λ ms. slice_get ms 0) is) in
    let within : IsPlace state.tags (length state.parts) place = held-place state place own.entry fits.matched own.held in
    let it : CommandFits state world place = command_fits state world place rest fits is in
    record {
      told = carry-marked state place rest fits.matched is ∙ marked-at state.tags place Carry within.slot ∙ ap (acted_as state.tags Carry) (sym it.acted);
      fits = it.fits;
    }

pub carried : (state : Shared) (world : World) (lines : LinesState) (device : Device) (acted : Acted) → Fits state world → due state CommandPipe ≡ true
    → commanded (sides_in world) ≡ (sides_of lines world.frames device, acted) → IsLines lines → IsWhole world.frames
    → IsStepped state CommandPipe (world_of world.host world.controller device lines world.frames) (acted_as state.tags Carry acted)
carried state world lines device acted fits acts is standing whole =
    done-stepped state world CommandPipe (commanded (sides_in world)) Carry lines world.frames device acted acts fits
    (carry-by state world state.messages fits refl acts) is standing whole
    (tags-commanded (sides_in world))

-- what is so of the steps of the tags' streams, wherever one is due
pub record AreStreamSteps (step : ℕ → Step) (mark : ℕ → Mark) (moves : ControllerState → Sides → ℕ → Sides × Acted) : Type 0 where
  pub told : (state : Shared) (tag : ℕ) → IsMatched state → due state (step tag) ≡ true → (shared_step state (step tag)).1 ≡ acted_as state.tags mark (DidAct tag)
  pub acted : (state : Shared) (world : World) (tag : ℕ) → Fits state world → due state (step tag) ≡ true
      → (moves world.controller (sides_in world) tag).1 ≡ DidAct tag
  pub fits : (state : Shared) (world : World) (tag : ℕ) → Fits state world → due state (step tag) ≡ true
      → IsSoundWorld (with_sides world (moves world.controller (sides_in world) tag).0)
      → Fits (shared_step state (step tag)).0 (with_sides world (moves world.controller (sides_in world) tag).0)

abbrev pub KeepTags : (ControllerState → Sides → ℕ → Sides × Acted) → Type 0
KeepTags moves =
    (controller : ControllerState) (sides : Sides) (tag : ℕ) → length (moves controller sides tag).0.device.tasks ≡ length sides.device.tasks

stream-told : (step : ℕ → Step) (mark : ℕ → Mark) (test : Shared → ℕ → Entry → Bool) → StreamsAreMarked step mark → (state : Shared) (tag : ℕ)
    → IsMatched state → place_fact state tag (test state tag) ≡ true → due state (step tag) ≡ true
    → (shared_step state (step tag)).1 ≡ acted_as state.tags mark (DidAct tag)
stream-told step mark test told state tag all is acts =
    let at : IsDueAt state tag (test state tag) = place_fact-due state tag (test state tag) is in
    told state tag at.place all at.named acts ∙ marked-named state.tags (length state.parts) tag at.place mark at.named

pub data-steps : AreStreamSteps Data Move moved
data-steps = record {
  told = λ state tag all acts. stream-told Data Move data_is_due move-marked state tag all acts acts;
  acted = λ state world tag fits acts. (data_fits state world tag fits acts).acted;
  fits = λ state world tag fits acts. (data_fits state world tag fits acts).fits;
}

pub status-steps : AreStreamSteps Status Send sent_by
status-steps = record {
  told = λ state tag all acts. stream-told Status Send status_is_due send-marked state tag all acts acts;
  acted = λ state world tag fits acts. (status_fits state world tag fits acts).acted;
  fits = λ state world tag fits acts. (status_fits state world tag fits acts).fits;
}

pub stream-stepped : {step : ℕ → Step} {mark : ℕ → Mark} {moves : ControllerState → Sides → ℕ → Sides × Acted} → AreStreamSteps step mark moves
    → KeepTags moves → (state : Shared) (world : World) (tag : ℕ) (lines : LinesState) (frames : List TagBuffers) (device : Device) (acted : Acted)
    → Fits state world → due state (step tag) ≡ true
    → moves world.controller (sides_in world) tag ≡ (sides_of lines frames device, acted) → IsLines lines → IsWhole frames
    → IsStepped state (step tag) (world_of world.host world.controller device lines frames) (acted_as state.tags mark acted)
stream-stepped {step} {mark} {moves} steps tags state world tag lines frames device acted fits acts is standing whole =
    done-stepped state world (step tag) (moves world.controller (sides_in world) tag) mark lines frames device acted acts fits
    (record {
      told = steps.told state tag fits.matched acts ∙ ap (acted_as state.tags mark) (sym (steps.acted state world tag fits acts));
      fits = steps.fits state world tag fits acts;
    }) is standing whole
    (tags world.controller (sides_in world) tag)

-- a world that reads as a state fits it
pub fits-as : (state : Shared) (world : World) → decoded world ≡ state → FitsItself world → Fits state world
fits-as state world is fits = subst (λ s. Fits s world) is fits

-- EVENT

-- the outcome of an event, told by what the host made of it and by the doorbells that it rang: an event of a TD is its client's, and one of
-- the controller's own commands the retirement's
told-td : (tags : ℕ) (retirement : Option HostRetirement) (doors : List ℕ) (place : Place) → place.slot < tags
    → ringing place.client doors ≡ handled_as tags retirement doors (Matched (tag_of tags place))
told-td tags retirement doors place within = ap (λ c. ringing c doors) (sym (client-of tags place within))

told-for : (state : Shared) (world : World) (done : Completion) (doors : List ℕ) → Fits state world → IsOwnEvent state done
    → (event_place done).slot < state.tags → ringing (event_place done).client doors ≡ handled_as state.tags world.host.retirement doors (handled_for state.tags done)
told-for state world (CommandDone place) doors fits own within = told-td state.tags world.host.retirement doors place within
told-for state world (DataDone place) doors fits own within = told-td state.tags world.host.retirement doors place within
told-for state world (StatusDone place) doors fits own within = told-td state.tags world.host.retirement doors place within
told-for state world (EngineDone place) doors fits own within =
    ap (λ (p : Place). ringing p.client doors) (sym own.place_same)
    ∙ sym (ap (λ r. retirement_seen r doors) (fits.engine.retirement ∙ ap (option_map host_retirement) own.under_way))

seen-by : (state : Shared) (world : World) (event : Event) (events : List Completion) (host : HostState) (lines : LinesState) (doors : List ℕ)
    (handled_it : Handled)
    → EventsFit → Fits state world → state.events ≡ events
    → is_some_of events ≡ true → slice_get world.lines.events.pending 0 ≡ Some event
    → handled (event_sides world) world.frames event ≡ (record { host = host; lines = lines }, handled_it) → event_doors (event_sides world) event ≡ doors
    → IsHost host → IsLines lines → IsWhole world.frames
    → IsStepped state EventStep (world_of host (rung_all world.controller doors) world.device lines world.frames)
    (handled_as state.tags world.host.retirement doors handled_it)
seen-by state world event [] host lines doors handled_it every fits is some first so rang hosting standing whole = absurd (false≢true some)
seen-by state world event (done ∷ rest) host lines doors handled_it every fits is some first so rang hosting standing whole =
    let it = every state world done rest fits is in
    let same : it.0 ≡ event = same_Some it.0 event (sym it.1 ∙ first) in
    let fit : EventFits state world event done = subst (λ e. EventFits state world e done) same it.2 in
    let own : IsOwnEvent state done = (matched-no_stray state fits.matched).events 0 done (ap (λ es. slice_get es 0) is) in
    let after : event_world world event ≡ world_of host (rung_all world.controller doors) world.device lines world.frames =
    ap (λ (a : EventSides × Handled). record world
    { host = a.0.host; controller = rung_all world.controller (event_doors (event_sides world) event); lines = a.0.lines }) so
    ∙ ap (λ ds. world_of host (rung_all world.controller ds) world.device lines world.frames) rang in
    let told : (shared_step state EventStep).1 ≡ handled_as state.tags world.host.retirement doors handled_it =
    event-marked state done rest fits.matched is
    ∙ ap (λ ds. ringing (event_place done).client ds) (sym fit.doors ∙ rang)
    ∙ told-for state world done doors fits own (event-within state done fits.matched own)
    ∙ ap (handled_as state.tags world.host.retirement doors) (sym fit.matched)
    ∙ ap (λ (a : EventSides × Handled). handled_as state.tags world.host.retirement doors a.1) so in
    let sound : IsSoundWorld (event_world world event) = subst IsSoundWorld (sym after)
    (record { host = hosting; lines = standing; frames = whole; tags = fits.sound.tags }) in
    stepped state (world_of host (rung_all world.controller doors) world.device lines world.frames) EventStep
    (handled_as state.tags world.host.retirement doors handled_it) (ap is_some_of is)
    (subst (λ w. Fits (shared_step state EventStep).0 w) after (fit.fits sound)) told

-- an event, where every event fits
pub seen-on : (state : Shared) (world : World) (event : Event) (host : HostState) (lines : LinesState) (doors : List ℕ) (handled_it : Handled)
    → EventsFit → Fits state world → due state EventStep ≡ true
    → slice_get world.lines.events.pending 0 ≡ Some event
    → handled (event_sides world) world.frames event ≡ (record { host = host; lines = lines }, handled_it) → event_doors (event_sides world) event ≡ doors
    → IsHost host → IsLines lines → IsWhole world.frames
    → IsStepped state EventStep (world_of host (rung_all world.controller doors) world.device lines world.frames)
    (handled_as state.tags world.host.retirement doors handled_it)
seen-on state world event host lines doors handled_it every fits acts first so rang hosting standing whole =
    seen-by state world event state.events host lines doors handled_it every fits refl acts first so rang hosting standing whole

-- where an event is due one is pending
pub event-pends : (state : Shared) (world : World) → Fits state world → due state EventStep ≡ true → world.lines.events.pending ≡ [] → ⊥
event-pends state world fits acts none =
    false≢true (sym (ap (λ (es : List Event). nat_lt 0 (length es)) none) ∙ sym (events-are-due state world fits) ∙ acts)

-- TAKE

-- a reply under the slot's tag marks the step as the settling of its index
settled-told : (tags : ℕ) (client slot : ℕ) (part : Part) (rest : List ℕ) (reply : Reply) → slot < tags → mark_by tags reply ≡ Settle (index_of tags (slot_tag tags client slot))
    → outcome_of client (settled part slot rest (Some reply)) ≡ replying tags client (Some reply)
settled-told tags client slot part rest reply within marks =
    let index : slot ≡ slot_of tags (slot_tag tags client slot) = sym (slot-of_tag tags client slot within) in
    ap (λ m. record { acted = true; owner = Some client; mark = m; reply = Some reply; refused = None; doors = [] })
    (ap (λ k. Settle (suc k)) index ∙ sym marks)

settled-sent : (tags : ℕ) (client slot : ℕ) (part : Part) (rest : List ℕ) (ticket : ℕ) (buffer : List ℕ) (answer : TaskAnswer) (request : Request) → slot < tags
    → outcome_of client (settled part slot rest (answered_by (slot_tag tags client slot) ticket buffer answer request))
    ≡ replying tags client (settled part slot rest (answered_by (slot_tag tags client slot) ticket buffer answer request)).reply
settled-sent tags client slot part rest ticket buffer (WithStatus answer) (Execute op) within =
    settled-told tags client slot part rest (StatusReply (slot_tag tags client slot) ticket (status_of answer) (record { items = sense_of answer }) buffer) within refl
settled-sent tags client slot part rest ticket buffer (WithStatus answer) (Manage what noted) within = refl
settled-sent tags client slot part rest ticket buffer (WithResponse code) (Execute op) within = refl
settled-sent tags client slot part rest ticket buffer (WithResponse code) (Manage what noted) within =
    settled-told tags client slot part rest (TaskReply (slot_tag tags client slot) ticket (response_number code)) within refl

settled-gone : (tags : ℕ) (client slot : ℕ) (part : Part) (rest : List ℕ) (ticket : ℕ) (buffer : List ℕ) (request : Request) → slot < tags
    → outcome_of client (settled part slot rest (aborted_by (slot_tag tags client slot) ticket buffer request))
    ≡ replying tags client (settled part slot rest (aborted_by (slot_tag tags client slot) ticket buffer request)).reply
settled-gone tags client slot part rest ticket buffer (Execute op) within =
    settled-told tags client slot part rest (Aborted (slot_tag tags client slot) ticket buffer) within refl
settled-gone tags client slot part rest ticket buffer (Manage what noted) within = refl

settled-by : (tags : ℕ) (client slot : ℕ) (part : Part) (rest : List ℕ) (task : TaggedTask) (phase : Phase) → slot < tags
    → outcome_of client (settled part slot rest (reply_from (slot_tag tags client slot) task phase)) ≡ replying tags client
    (settled part slot rest (reply_from (slot_tag tags client slot) task phase)).reply
settled-by tags client slot part rest task Queued within = refl
settled-by tags client slot part rest task (Begun progress) within = refl
settled-by tags client slot part rest task (Sent answer) within = settled-sent tags client slot part rest task.ticket task.buffer answer task.request within
settled-by tags client slot part rest task Gone within = settled-gone tags client slot part rest task.ticket task.buffer task.request within

-- what stands in a part stands in a slot of a tag
abbrev AreSlots : ℕ → Part → Type 0
AreSlots tags part = (slot : ℕ) (entry : Entry) → held_at part.entries slot ≡ Some entry → slot < tags

settled-held : (tags client slot : ℕ) (part : Part) (rest : List ℕ) (held : Option Entry) → held_at part.entries slot ≡ held → AreSlots tags part
    → outcome_of client (settled part slot rest (option_and_then (entry_reply (slot_tag tags client slot)) held)) ≡ replying tags client
    (settled part slot rest (option_and_then (entry_reply (slot_tag tags client slot)) held)).reply
settled-held tags client slot part rest None is slots = refl
settled-held tags client slot part rest (Some entry) is slots =
    settled-by tags client slot part rest entry.task entry.task.phase (slots slot entry is)

taken-told : (tags client : ℕ) (part : Part) (queue : List ℕ) → AreSlots tags part
    → outcome_of client (taken tags client part queue) ≡ replying tags client (taken tags client part queue).reply
taken-told tags client part [] slots = refl
taken-told tags client part (slot ∷ rest) slots = settled-held tags client slot part rest (held_at part.entries slot) refl slots

routed-told : (state : Shared) (client : ℕ) (found : Option Part) → IfSome found (AreSlots state.tags)
    → (routed_to state client (take_act state.tags client) found).1 ≡ replying state.tags client (routed_to state client (take_act state.tags client) found).1.reply
routed-told state client None slots = refl
routed-told state client (Some part) slots = taken-told state.tags client part part.ready slots

slots-of : (state : Shared) (client : ℕ) (found : Option Part) → IsMatched state → slice_get state.parts client ≡ found → IfSome found (AreSlots state.tags)
slots-of state client None all is = tt
slots-of state client (Some part) all is = λ slot entry held.
    let place : Place = record { client = client; slot = slot } in
    (held-place state place entry all (ap (λ at. option_map_or (held_in place) at None) is ∙ held)).slot

take-told : (state : Shared) (client : ℕ) → IsMatched state → due state (Take client) ≡ true
    → (shared_step state (Take client)).1 ≡ replying state.tags client (shared_step state (Take client)).1.reply
take-told state client all acts =
    let whole : shared_step state (Take client) ≡ routed state client (take_act state.tags client) = rw acts refl in
    subst (λ (a : Shared × Outcome). a.1 ≡ replying state.tags client a.1.reply) (sym whole)
    (routed-told state client (slice_get state.parts client) (slots-of state client (slice_get state.parts client) all refl))

pub taken-on : (state : Shared) (world : World) (client : ℕ) (host : HostState) (frames : List TagBuffers) (reply : Option Reply) → Fits state world
    → due state (Take client) ≡ true
    → replied world.host world.frames client ≡ record { host = host; frames = frames; reply = reply } → IsHost host → IsLines world.lines → IsWhole frames
    → IsStepped state (Take client) (world_of host world.controller world.device world.lines frames) (replying state.tags client reply)
taken-on state world client host frames reply fits acts so hosting standing whole =
    let fit : TakeFits state world client = takes-fit state world client fits acts in
    let after : take_world world client ≡ world_of host world.controller world.device world.lines frames = ap
    (λ (g : Given). record world { host = g.host; frames = g.frames }) so in
    let sound : IsSoundWorld (take_world world client) = subst IsSoundWorld (sym after)
    (record { host = hosting; lines = standing; frames = whole; tags = fits.sound.tags }) in
    stepped state (world_of host world.controller world.device world.lines frames) (Take client) (replying state.tags client reply) acts
    (subst (λ w. Fits (shared_step state (Take client)).0 w) after (fit.fits sound))
    (take-told state client fits.matched acts ∙ ap (replying state.tags client) (sym fit.reply) ∙ ap (λ (g : Given). replying state.tags client g.reply) so)

-- a list has a first element where it isn't empty
pub some-first : {T : Type 0} (list : List T) → is_some (slice_get list 0) ≡ is_some_of list
some-first [] = refl
some-first (first ∷ rest) = refl

-- A NEW BUS

pub record IsOpened (tags : ℕ) (units : List BlockMaps) (new : World) : Type 0 where
  pub fits : FitsItself new
  pub opens : decoded new ≡ opening tags units

opened-at : (tags : ℕ) (units : List BlockMaps) (clients : ℕ) (lines : LinesState) → 1 ≤ length units → length units ≤ MAX_CLIENTS → length units * tags ≤ STREAMS
    → clients ≡ length units → IsOpeningLines lines
    → IsHost (opening_host tags clients) → IsLines lines → IsWhole opening_frames
    → IsOpened tags units (world_of (opening_host tags clients) new_controller (opening_device STREAMS units) lines opening_frames)
opened-at tags units clients lines some most streams count new hosting standing whole =
    let world : World = opening_world tags units clients lines in
    let sound : IsSoundWorld world = record { host = hosting; lines = standing; frames = whole; tags = length-replicate {A = Option DeviceTask} STREAMS None } in
    let fits : Fits (opening tags units) world =
    subst (λ n. Fits (opening tags units) (opening_world tags units n lines)) (sym count)
    (opening-fits tags units lines hosting.number some most streams new (subst (λ n. IsSoundWorld (opening_world tags units n lines)) count sound)) in
    let back : decoded world ≡ opening tags units = decoded-back (opening tags units) world fits in
    record { fits = subst (λ s. Fits s world) (sym back) fits; opens = back }

pub opened : (tags : ℕ) (units : List BlockMaps) (clients : ℕ) (host : HostState) (controller : ControllerState) (device : Device) (lines : LinesState)
    (frames : List TagBuffers)
    → 1 ≤ length units → length units ≤ MAX_CLIENTS → length units * tags ≤ STREAMS → clients ≡ length units → host ≡ opening_host tags clients → controller ≡ new_controller
    → device ≡ opening_device STREAMS units → frames ≡ opening_frames
    → IsOpeningLines lines → IsHost host → IsLines lines → IsWhole frames → IsOpened tags units (world_of host controller device lines frames)
opened tags units clients host controller device lines frames some most streams count host_is controller_is device_is frames_is new hosting standing whole =
    let same : world_of (opening_host tags clients) new_controller (opening_device STREAMS units) lines opening_frames ≡ world_of host controller device lines frames =
    rw (host_is, controller_is, device_is, frames_is) refl in
    subst (IsOpened tags units) same
    (opened-at tags units clients lines some most streams count new (subst IsHost host_is hosting) standing (subst IsWhole frames_is whole))
