-- Where a step of a data stream is due, told by rings and device, what it does there, and that the controller is idle elsewhere.
use Rattle.std.proofs.Common.{◌≡◌, ℕ, Bool, true, false, ◌&&◌, cond, length, Option, Some, None, refl, arith, ap, sym, subst, ◌∙◌}
use Rattle.std.specs.Prelude.{nat_lt}
use Rattle.std.specs.Option.{option_map_or}
use Rattle.std.proofs.lemmas.Bool.{lt-ltb, and_parts}
use Rattle.cycle_ring.specs.Items.{ItemRing}
use Rattle.uas_profile.specs.declared.Pipe.{Pipe}
use Rattle.uas_profile.specs.declared.Pipe.TheVariants.{DataIn, DataOut}
use Rattle.stream_array.specs.Contexts.{has_stream}
use Rattle.stream_array.specs.Rings.{stream_ring}
use Rattle.uas_profile.specs.declared.Direction.{Direction}
use Rattle.uas_profile.specs.declared.Direction.TheVariants.{Nothing, ToHost, ToDevice}
use Rattle.scsi_cmd.specs.Held.{held_at}
use Rattle.scsi_cmd.specs.Op.{moved_bytes, direction_of}
use Rattle.scsi_cmd.specs.declared.Request.{Request}
use Rattle.solo_model.specs.declared.TaskAnswer.{TaskAnswer}
use Rattle.solo_model.specs.declared.TaskAnswer.TheVariants.{WithStatus, WithResponse}
use Rattle.solo_model.specs.declared.TaskProgress.TheVariants.{Moving, Ended}
use Rattle.solo_model.specs.declared.Phase.{Phase}
use Rattle.solo_model.specs.declared.Phase.TheVariants.{Queued, Begun, Sent, Gone}
use Rattle.uas_target.specs.declared.DeviceTask.{DeviceTask}
use Rattle.uas_target.specs.declared.Phase.{Phase as Wants}
use Rattle.uas_target.specs.declared.Phase.TheVariants.{Absent, Gives, Takes, Ends}
use Rattle.uas_target.specs.Device.{wanted}
use Rattle.uas_target.specs.Tasks.{task_wants, wanted_way}
use Rattle.uas_profile.specs.declared.Place.{Place}
use Rattle.uas_profile.specs.Tags.{place_of, tag_of}
use Rattle.uas_host.specs.Tds.{data_td, data_trb_count}
use Rattle.xhci_ctl.specs.declared.Acted.{Acted}
use Rattle.xhci_ctl.specs.declared.Acted.TheVariants.{Idle}
use Rattle.uas_profile.specs.declared.PipeState.{PipeState}
use Rattle.uas_profile.specs.PipeStates.{is_open}
use Rattle.xhci_ctl.specs.Pipes.{has_pending, is_armed}
use Rattle.xhci_ctl.specs.Steps.{Front, Sides, armed_front, gave_at, moved_by, on_front, room_front, took_at}
use Rattle.shared_machine.specs.declared.Step.TheVariants.{Data}
use Rattle.shared_machine.specs.Td.{Entry, data_trbs}
use Rattle.shared_machine.specs.Part.{Part}
use Rattle.shared_machine.specs.Shared.{Shared, data_is_due, due, has_data_trb, is_data_open, is_moving, request_direction}
use Rattle.bus_core.specs.Hosts.{begun_task, device_task, phase_task}
use Rattle.bus_core.specs.World.{World, sides_in}
use Rattle.bus_core.specs.Cells.{HoldsTrbs}
use Rattle.bus_core.specs.Fits.{Fits}
use Rattle.bus_core.specs.WorldSteps.{DataFit, DataFits, DataIsIdle}
use Rattle.bus_core.specs.WorldDue.{DataAreDue, data_due_by}
use Rattle.machine_invariant.proofs.MatchedSteps.{IsDueAt, place_fact-due}
use Rattle.machine_invariant.proofs.MatchedMoves.{IsMovingBy, moving_phase}
use Rattle.bus_core.proofs.common.ActFits.{IsPlaced, by-tag, place_of-tag, placed}
use Rattle.bus_core.proofs.chunks.ChunkEntries.{moving_entry}
use Rattle.bus_core.proofs.chunks.DataSteps.{IsChunkAt, chunk-at, chunk_size, has_stream-tag, pending-td}
use Rattle.bus_core.proofs.chunks.DataMoves.{chunk-fits, own-on, rings-on}
use Rattle.bus_core.proofs.chunks.OwnFronts.{HasOwnChunk, data-own}

-- WHAT IT DOES

same_held : (held : Option Entry) (one other : Entry) → held ≡ Some one → held ≡ Some other → one ≡ other
same_held held one other is so = cc

-- the entry of a place is the one that moves data there
entry-moving : {state : Shared} {world : World} {place : Place} {part : Part} (at : IsChunkAt state world place part) (entry : Entry)
    → held_at part.entries place.slot ≡ Some entry → entry ≡ moving_entry at.entry at.op at.chunk
entry-moving {state} {world} {place} {part} at entry held = same_held (held_at part.entries place.slot) entry _ held at.held

data-fits-at : (state : Shared) (world : World) (place : Place) (entry : Entry) → IsPlaced state world place entry → Fits state world
    → place_of state.tags (length state.parts) (tag_of state.tags place) ≡ Some place → due state (Data (tag_of state.tags place)) ≡ true → data_is_due state (tag_of state.tags place) entry ≡ true
    → DataFits state world (tag_of state.tags place)
data-fits-at state world place entry stands fits named is_due so =
    let moving = and_parts (is_moving entry.task.phase) _ so in
    let phase : IsMovingBy entry.task.phase = moving_phase entry.task.phase moving.0 in
    let at : IsChunkAt state world place stands.part = chunk-at state world place stands.part entry phase.chunk fits stands.there stands.held phase.is in
    let rung = (and_parts (is_data_open state (tag_of state.tags place) (request_direction entry.task.request))
    (has_data_trb (data_trbs entry.task.request) entry.data_td) moving.1).0 in
    chunk-fits at fits
    (subst (λ (e : Entry). is_data_open state (tag_of state.tags place) (request_direction e.task.request) ≡ true) (entry-moving at entry stands.held) rung) named is_due

pub data_fits : DataFit
data_fits state world tag fits is_due =
    let at : IsDueAt state tag (data_is_due state tag) = place_fact-due state tag (data_is_due state tag) is_due in
    let stands : IsPlaced state world at.place at.entry = placed state world at.place at.entry fits at.held in
    subst (λ t. place_of state.tags (length state.parts) t ≡ Some at.place → due state (Data t) ≡ true → data_is_due state t at.entry ≡ true → DataFits state world t)
    (place_of-tag state.tags (length state.parts) tag at.place (omega (arith, fits.matched.tags.least)) at.named)
    (λ named now so. data-fits-at state world at.place at.entry stands fits named now so) at.named is_due at.so

-- WHERE IT IS DUE

-- what the device wants on a tag with this task, or without one
abbrev wants_by : Option DeviceTask → Wants
wants_by task = option_map_or task_wants task Absent

-- whether a step is due is told by rings and device, and the TRB in front is the host's own
abbrev IsTold : World → ℕ → Wants → Bool → Type 0
IsTold world tag wants is_due = (is_due ≡ data_due_by world tag wants) × HasOwnChunk world.lines world.frames tag wants

armed-open : (rung has_trb has_ring pends : Bool) → has_trb ≡ true → has_ring ≡ true → pends ≡ true → (rung && has_trb) ≡ ((has_ring && rung) && pends)
armed-open rung has_trb has_ring pends one two three = rw (one, two, three) refl

-- a data ring with the TRB of the chunk in front is armed where its stream is open
told-armed : {state : Shared} {world : World} {place : Place} {part : Part} (at : IsChunkAt state world place part) (ring : ItemRing) (was now : PipeState)
    → HoldsTrbs ring (data_td (tag_of state.tags place) (moved_bytes at.op)) at.chunk → now ≡ was
    → (is_open was (tag_of state.tags place) && nat_lt at.chunk (data_trb_count (moved_bytes at.op)))
    ≡ ((has_stream (tag_of state.tags place) && is_open now (tag_of state.tags place)) && has_pending ring)
told-armed {state} {world} {place} {part} at ring was now holds same =
    armed-open (is_open was (tag_of state.tags place)) (nat_lt at.chunk (data_trb_count (moved_bytes at.op))) (has_stream (tag_of state.tags place)) (has_pending ring)
    (lt-ltb at.chunk (data_trb_count (moved_bytes at.op)) at.below) (has_stream-tag (tag_of state.tags place) (omega arith) (omega (arith, at.last_tag)))
    (pending-td ring (tag_of state.tags place) (moved_bytes at.op) at.chunk holds at.below)
    ∙ ap (λ p. (has_stream (tag_of state.tags place) && is_open p (tag_of state.tags place)) && has_pending ring) (sym same)

told-way : {state : Shared} {world : World} {place : Place} {part : Part} (at : IsChunkAt state world place part) (way : Direction) → direction_of at.op ≡ way
    → Fits state world → IsTold world (tag_of state.tags place) (wanted_way way (chunk_size at.op at.chunk))
    (is_data_open state (tag_of state.tags place) way && nat_lt at.chunk (data_trb_count (moved_bytes at.op)))
told-way at Nothing is fits = (refl, tt)
told-way {state} {world} {place} {part} at ToHost is fits = (
  told-armed at (stream_ring world.lines.data_in (tag_of state.tags place)) state.data_in world.controller.data_in (rings-on at ToHost is).0 fits.data_in,
  own-on at ToHost is,
)
told-way {state} {world} {place} {part} at ToDevice is fits = (
  told-armed at (stream_ring world.lines.data_out (tag_of state.tags place)) state.data_out world.controller.data_out (rings-on at ToDevice is).1 fits.data_out,
  own-on at ToDevice is,
)

-- what is told of an entry
abbrev IsToldOf : Shared → World → Place → Entry → Type 0
IsToldOf state world place entry = IsTold world (tag_of state.tags place) (wants_by (device_task place.client entry)) (data_is_due state (tag_of state.tags place) entry)

told-moving : {state : Shared} {world : World} {place : Place} {part : Part} (at : IsChunkAt state world place part) → Fits state world
    → IsToldOf state world place (moving_entry at.entry at.op at.chunk)
told-moving at fits = told-way at (direction_of at.op) refl fits

-- an entry whose phase moves no data
told-still : (state : Shared) (world : World) (place : Place) (entry : Entry) (phase : Phase) → entry.task.phase ≡ phase → is_moving phase ≡ false
    → IsTold world (tag_of state.tags place) (wants_by (phase_task (Some place.client) entry.task.request phase)) false → IsToldOf state world place entry
told-still state world place entry phase is still told =
    subst (λ p. IsTold world (tag_of state.tags place) (wants_by (phase_task (Some place.client) entry.task.request p))
    (is_moving p && (is_data_open state (tag_of state.tags place) (request_direction entry.task.request) && has_data_trb
    (data_trbs entry.task.request) entry.data_td))) (sym is)
    (subst (λ b. IsTold world (tag_of state.tags place) (wants_by (phase_task (Some place.client) entry.task.request phase))
    (b && (is_data_open state (tag_of state.tags place) (request_direction entry.task.request) && has_data_trb (data_trbs entry.task.request) entry.data_td)))
    (sym still) told)

-- what has ended wants to tell its answer
ended-wants : (unit : Option ℕ) (request : Request) (answer : TaskAnswer) → wants_by (begun_task unit request (Ended answer)) ≡ Ends
ended-wants unit request (WithStatus answer) = refl
ended-wants unit request (WithResponse code) = refl

told-phase : (state : Shared) (world : World) (place : Place) (entry : Entry) (phase : Phase) → entry.task.phase ≡ phase → IsPlaced state world place entry
    → Fits state world → IsToldOf state world place entry
told-phase state world place entry Queued is stands fits = told-still state world place entry Queued is refl (refl, tt)
told-phase state world place entry (Begun (Moving chunk)) is stands fits =
    let at : IsChunkAt state world place stands.part = chunk-at state world place stands.part entry chunk fits stands.there stands.held is in
    subst (IsToldOf state world place) (sym (entry-moving at entry stands.held)) (told-moving at fits)
told-phase state world place entry (Begun (Ended answer)) is stands fits = told-still state world place entry (Begun (Ended answer)) is refl
    (subst (λ w. IsTold world (tag_of state.tags place) w false) (sym (ended-wants (Some place.client) entry.task.request answer)) (refl, tt))
told-phase state world place entry (Sent answer) is stands fits = told-still state world place entry (Sent answer) is refl (refl, tt)
told-phase state world place entry Gone is stands fits = told-still state world place entry Gone is refl (refl, tt)

pub data_due : DataAreDue
data_due state world tag fits =
    let told : IsTold world tag (wanted world.device tag) (due state (Data tag)) =
    by-tag state world tag (data_is_due state tag) (λ task is_due. IsTold world tag (wants_by task) is_due) fits (refl, tt)
    (λ place entry is stands. subst (λ t. IsTold world t (wants_by (device_task place.client entry)) (data_is_due state t entry)) is
    (told-phase state world place entry entry.task.phase refl stands fits)) in
    record { due = told.0; own = data-own state world tag fits told.1 }

-- WHERE IT ISN'T

front-none : (world : World) (pipe : Pipe) (tag : ℕ) (step : Front → Sides × Acted) → is_armed world.controller world.lines pipe tag ≡ false
    → on_front (sides_in world) step (armed_front world.controller world.lines pipe tag) ≡ (sides_in world, Idle)
front-none world pipe tag step is = ap (λ b. on_front (sides_in world) step (cond b (room_front world.lines pipe tag) None)) is

undue-idle : (world : World) (tag : ℕ) (wants : Wants) → data_due_by world tag wants ≡ false
    → moved_by world.controller (sides_in world) tag wants ≡ (sides_in world, Idle)
undue-idle world tag Absent is = refl
undue-idle world tag (Gives size) is = front-none world DataIn tag (gave_at (sides_in world) tag size) is
undue-idle world tag (Takes size) is = front-none world DataOut tag (took_at (sides_in world) tag size) is
undue-idle world tag Ends is = refl

pub data_idle : DataIsIdle
data_idle state world tag fits undue = undue-idle world tag (wanted world.device tag) (sym (data_due state world tag fits).due ∙ undue)
