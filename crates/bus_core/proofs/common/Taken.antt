-- Each step of host and controller, due or not: the world after it reads as the shared machine's state after its step, and the
-- outcome is the shared machine's. A step that isn't due leaves the world as it was. The answers of the bus's steps cite them.
use Rattle.std.proofs.Common.{◌≡◌, ℕ, Bool, true, false, cond, List, [], length, Option, Some, None, refl, ap, sym, subst, ◌∙◌}
use Rattle.std.specs.Prelude.{is_some, nat_lt, slice_get, option_map}
use Rattle.xhci_trb.specs.declared.Trb.{Trb}
use Rattle.std.proofs.lemmas.Option.{slice_get_past, slice_get_within}
use Rattle.std.proofs.lemmas.Bool.{false≢true, ltb-false, lt-ltb}
use Rattle.stream_array.specs.Rings.{LinesState, IsLines}
use Rattle.uas_profile.specs.declared.TheConstants.{COMMAND_RING_PLACES}
use Rattle.cycle_ring.specs.Ring.{pointer_of}
use Rattle.cycle_ring.specs.Items.{ItemRing, known_of}
use Rattle.event_ring.specs.declared.Event.{Event}
use Rattle.frame_store.specs.declared.TagBuffers.{TagBuffers}
use Rattle.frame_store.specs.Buffers.{IsWhole}
use Rattle.uas_target.specs.Device.{Device}
use Rattle.uas_host.specs.State.{HostState, IsHost}
use Rattle.uas_host.specs.Events.{event_doors, handled}
use Rattle.uas_host.specs.declared.Handled.{Handled}
use Rattle.xhci_ctl.specs.declared.Acted.{Acted}
use Rattle.xhci_ctl.specs.declared.Acted.TheVariants.{Idle}
use Rattle.xhci_ctl.specs.Pipes.{ControllerState, has_pending}
use Rattle.xhci_ctl.specs.Steps.{commanded, front_at, has_event_room, moved, on_front, received_at, sent_by, Sides, sides_of}
use Rattle.shared_machine.specs.declared.Mark.{Mark}
use Rattle.shared_machine.specs.declared.Mark.TheVariants.{Carry, Move, Send}
use Rattle.shared_machine.specs.declared.Outcome.{Outcome}
use Rattle.shared_machine.specs.declared.Step.{Step}
use Rattle.shared_machine.specs.declared.Step.TheVariants.{CommandPipe, Data, Status, Event as EventStep, Take}
use Rattle.shared_machine.specs.Shared.{Shared, due, due_step, idle, shared_step}
use Rattle.bus_core.specs.World.{World, sides_in, world_of}
use Rattle.bus_core.specs.WorldDue.{command_is_due}
use Rattle.bus_core.specs.Fits.{Fits}
use Rattle.bus_core.specs.Decoded.{decoded, FitsItself}
use Rattle.bus_core.specs.Owners.{acted_as, handled_as, replying, taken_as}
use Rattle.scsi_cmd.specs.declared.Reply.{Reply}
use Rattle.uas_host.specs.Replies.{Given, replied}
use Rattle.bus_core.specs.WorldSteps.{EventsFit, StreamsAreIdle, event_sides, rung_all}
use Rattle.shared_machine.proofs.Due.{shared_step-idle}
use Rattle.bus_core.proofs.common.DeviceTags.{tags-moved, tags-sent}
use Rattle.bus_core.proofs.common.Stepped.{AreStreamSteps, IsStepped, KeepTags, carried, data-steps, seen-on, status-steps, stream-stepped, taken-on}
use Rattle.bus_core.proofs.common.ReadBack.{decoded-back}
use Rattle.bus_core.proofs.carry.CommandFits.{commands_due}
use Rattle.bus_core.proofs.chunks.DataDue.{data_idle}
use Rattle.bus_core.proofs.status.StatusFits.{status_idle}
use Rattle.bus_core.proofs.event.DueEvents.{events-are-due}
use Rattle.bus_core.proofs.take.Taking.{take-is-idle, takes-fit}

-- the world after a step, due or not, reads as the shared machine's state after it, and fits it; the outcome is the shared
-- machine's
pub record IsTaken (state : Shared) (step : Step) (new : World) (outcome : Outcome) : Type 0 where
  pub fits : FitsItself new
  pub shared : shared_step state step ≡ (decoded new, outcome)

pub due-taken : (state : Shared) (step : Step) (new : World) (outcome : Outcome) → due state step ≡ true → IsStepped state step new outcome
    → IsTaken state step new outcome
due-taken state step new outcome acts it =
    let whole : shared_step state step ≡ due_step state step = rw acts refl in
    record { fits = it.fits; shared = whole ∙ it.shared }

-- a step that isn't due leaves the world
pub idle-taken : (state : Shared) (step : Step) (world : World) → due state step ≡ false → Fits state world → IsTaken state step world idle
idle-taken state step world rests fits =
    let back : decoded world ≡ state = decoded-back state world fits in
    record {
      fits = subst (λ s. Fits s world) (sym back) fits;
      shared = shared_step-idle state step rests ∙ ap (λ s. (s, idle)) (sym back);
    }

-- so does a step of the controller that found nothing to act on
controller-idle : (state : Shared) (step : Step) (world : World) (mark : ℕ → Mark) (lines : LinesState)
    (frames : List TagBuffers) (device : Device) (acted : Acted) →
    due state step ≡ false → Fits state world → ◌≡◌ {A = Sides × Acted} (sides_in world, Idle) (sides_of lines frames device, acted) →
    IsTaken state step (world_of world.host world.controller device lines frames) (acted_as state.tags mark acted)
controller-idle state step world mark lines frames device acted rests fits is =
    let P : Sides × Acted → Type 0 = λ after.
    IsTaken state step (world_of world.host world.controller after.0.device after.0.lines after.0.frames) (acted_as state.tags mark after.1) in
    subst P is (idle-taken state step world rests fits)

-- NOTHING TO ACT ON

no-front : (places : ℕ) (ring : ItemRing) → has_pending ring ≡ false → front_at places ring ≡ None
no-front places ring none =
    ap (λ found. option_map (λ item. (pointer_of places ring ring.got, known_of item)) found)
    (slice_get_past ring.put ring.got (ltb-false ring.got (length ring.put) none))

room-none : (test : Bool) → ◌≡◌ {A = Option (ℕ × Option Trb)} (cond test None None) None
room-none true = refl
room-none false = refl

idle-commanded : (world : World) → command_is_due world ≡ false → commanded (sides_in world) ≡ (sides_in world, Idle)
idle-commanded world none =
    ap (λ front. on_front (sides_in world) (received_at (sides_in world)) (cond (has_event_room world.lines) front None))
    (no-front COMMAND_RING_PLACES world.lines.command none)
    ∙ ap (λ front. on_front (sides_in world) (received_at (sides_in world)) front) (room-none (has_event_room world.lines))

-- STEPS, DUE OR NOT

pub command-taken : (state : Shared) (world : World) (lines : LinesState) (device : Device) (acted : Acted) → Fits state world
    → commanded (sides_in world) ≡ (sides_of lines world.frames device, acted) → IsLines lines → IsWhole world.frames
    → IsTaken state CommandPipe (world_of world.host world.controller device lines world.frames) (acted_as state.tags Carry acted)
command-taken state world lines device acted fits is standing whole =
    elim (due state CommandPipe) as
    (λ b. due state CommandPipe ≡ b → IsTaken state CommandPipe (world_of world.host world.controller device lines world.frames) (acted_as state.tags Carry acted)) [
      | true ↦ λ acts. due-taken state CommandPipe _ _ acts (carried state world lines device acted fits acts is standing whole)
      | false ↦ λ rests. controller-idle state CommandPipe world Carry lines world.frames device acted rests fits
          (sym (idle-commanded world (sym (commands_due state world fits).due ∙ rests)) ∙ is)
    ] refl

-- a step of a tag's stream
abbrev StreamsAreTaken : (ℕ → Step) → (ℕ → Mark) → (ControllerState → Sides → ℕ → Sides × Acted) → Type 0
StreamsAreTaken step mark moves =
    (state : Shared) (world : World) (tag : ℕ) (lines : LinesState) (frames : List TagBuffers) (device : Device) (acted : Acted) → Fits state world
    → moves world.controller (sides_in world) tag ≡ (sides_of lines frames device, acted) → IsLines lines → IsWhole frames
    → IsTaken state (step tag) (world_of world.host world.controller device lines frames) (acted_as state.tags mark acted)

stream-taken : {step : ℕ → Step} {mark : ℕ → Mark} {moves : ControllerState → Sides → ℕ → Sides × Acted} → AreStreamSteps step mark moves
    → KeepTags moves → StreamsAreIdle step moves → StreamsAreTaken step mark moves
stream-taken {step} {mark} {moves} steps tags idles state world tag lines frames device acted fits is standing whole =
    elim (due state (step tag)) as
    (λ b. due state (step tag) ≡ b → IsTaken state (step tag) (world_of world.host world.controller device lines frames) (acted_as state.tags mark acted)) [
      | true ↦ λ acts. due-taken state (step tag) _ _ acts (stream-stepped steps tags state world tag lines frames device acted fits acts is standing whole)
      | false ↦ λ rests. controller-idle state (step tag) world mark lines frames device acted rests fits (sym (idles state world tag fits rests) ∙ is)
    ] refl

pub data-taken : StreamsAreTaken Data Move moved
data-taken = stream-taken data-steps tags-moved data_idle

pub status-taken : StreamsAreTaken Status Send sent_by
status-taken = stream-taken status-steps tags-sent status_idle

-- an event is due where one is pending
pub event-is-due : (state : Shared) (world : World) (event : Event) → Fits state world → slice_get world.lines.events.pending 0 ≡ Some event
    → due state EventStep ≡ true
event-is-due state world event fits first =
    events-are-due state world fits ∙ lt-ltb 0 (length world.lines.events.pending) (slice_get_within world.lines.events.pending 0 event first)

pub event-rests : (state : Shared) (world : World) → Fits state world → world.lines.events.pending ≡ [] → due state EventStep ≡ false
event-rests state world fits none = events-are-due state world fits ∙ ap (λ (es : List Event). nat_lt 0 (length es)) none

-- an event, where every event fits
pub event-taken : (state : Shared) (world : World) (event : Event) (host : HostState) (lines : LinesState) (doors : List ℕ) (handled_it : Handled)
    → EventsFit → Fits state world → slice_get world.lines.events.pending 0 ≡ Some event
    → handled (event_sides world) world.frames event ≡ (record { host = host; lines = lines }, handled_it) → event_doors (event_sides world) event ≡ doors
    → IsHost host → IsLines lines → IsWhole world.frames
    → IsTaken state EventStep (world_of host (rung_all world.controller doors) world.device lines world.frames)
    (handled_as state.tags world.host.retirement doors handled_it)
event-taken state world event host lines doors handled_it every fits first so rang hosting standing whole =
    let acts : due state EventStep ≡ true = event-is-due state world event fits first in
    due-taken state EventStep _ _ acts (seen-on state world event host lines doors handled_it every fits acts first so rang hosting standing whole)

-- a Take that is due
take-due : (state : Shared) (world : World) (client : ℕ) (host : HostState) (frames : List TagBuffers) (reply : Option Reply) → Fits state world
    → due state (Take client) ≡ true
    → replied world.host world.frames client ≡ record { host = host; frames = frames; reply = reply } → IsHost host → IsLines world.lines → IsWhole frames
    → IsTaken state (Take client) (world_of host world.controller world.device world.lines frames) (replying state.tags client reply)
take-due state world client host frames reply fits acts so hosting standing whole =
    due-taken state (Take client) _ _ acts (taken-on state world client host frames reply fits acts so hosting standing whole)

-- what comes of a reply that there is
given-as : (tags : ℕ) (client : ℕ) (reply : Option Reply) → is_some reply ≡ true → replying tags client reply ≡ taken_as tags client reply
given-as tags client None some = absurd (false≢true some)
given-as tags client (Some reply) some = refl

-- a Take, due or not
pub take-taken : (state : Shared) (world : World) (client : ℕ) (host : HostState) (frames : List TagBuffers) (reply : Option Reply) → Fits state world
    → replied world.host world.frames client ≡ record { host = host; frames = frames; reply = reply } → IsHost host → IsLines world.lines → IsWhole frames
    → IsTaken state (Take client) (world_of host world.controller world.device world.lines frames) (taken_as state.tags client reply)
take-taken state world client host frames reply fits so hosting standing whole =
    let after : World = world_of host world.controller world.device world.lines frames in
    let P : Given → Type 0 = λ given.
    IsTaken state (Take client) (world_of given.host world.controller world.device world.lines given.frames) (taken_as state.tags client given.reply) in
    elim (due state (Take client)) as (λ b. due state (Take client) ≡ b → IsTaken state (Take client) after (taken_as state.tags client reply)) [
      | true ↦ λ acts.
          let some : is_some reply ≡ true = sym (ap (λ (g : Given). is_some g.reply) so) ∙ (takes-fit state world client fits acts).brings in
          subst (λ outcome. IsTaken state (Take client) after outcome) (given-as state.tags client reply some)
          (take-due state world client host frames reply fits acts so hosting standing whole)
      | false ↦ λ rests.
          subst P (sym (take-is-idle state world client fits rests) ∙ so) (idle-taken state (Take client) world rests fits)
    ] refl
