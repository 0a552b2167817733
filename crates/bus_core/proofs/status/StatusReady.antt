-- A status stream that is ready: the unit that answers a request, its bytes, and that the device has it for the host. Cited by
-- StatusFits.
use Rattle.std.proofs.Common.{◌≡◌, ℕ, ◌+◌, ◌≤◌, true, ◌&&◌, cond, List, take, drop, length, Option, Some}
use Rattle.std.proofs.Common.{option_map, refl, arith, ap, sym, subst, ◌∙◌, inr}
use Rattle.std.specs.Prelude.{nat_lt, slice_get, IfSome}
use Rattle.std.proofs.Math.Seq.{take-append_seam}
use Rattle.std.proofs.lemmas.Bool.{eq-eqb, lt-ltb, le-leb, ne_eqb}
use Rattle.xhci_trb.specs.declared.Trb.TheVariants.{Normal}
use Rattle.cycle_ring.specs.Items.{known_of}
use Rattle.xhci_ctl.specs.Steps.{front_at}
use Rattle.cycle_ring.specs.Ring.{pointer_of}
use Rattle.uas_profile.specs.declared.TheConstants.{STREAMS, STREAM_RING_PLACES, STATUS_BYTES}
use Rattle.uas_profile.specs.declared.Pipe.TheVariants.{Status}
use Rattle.stream_array.specs.Contexts.{has_stream}
use Rattle.stream_array.specs.Rings.{LinesState, ring_of, stream_ring}
use Rattle.frame_store.specs.declared.TagBuffers.{TagBuffers}
use Rattle.frame_store.specs.declared.Buffer.TheVariants.{Status as StatusBuffer}
use Rattle.frame_store.specs.Splice.{spliced}
use Rattle.frame_store.specs.Buffers.{IsWhole, Names, held_for, with_held, written, front_of as front_byte}
use Rattle.frame_store.proofs.FramesLaws.{written-named}
use Rattle.scsi_cmd.specs.Buffers.{with_bytes_at}
use Rattle.scsi_cmd.specs.Laws.{written_at-fits}
use Rattle.scsi_cmd.proofs.Buffers.{filled-written_at}
use Rattle.device_server.specs.Server.{status_of, sense_of}
use Rattle.scsi_cmd.specs.declared.Request.{Request}
use Rattle.scsi_cmd.specs.declared.Request.TheVariants.{Execute, Manage}
use Rattle.solo_model.specs.declared.TaskAnswer.{TaskAnswer}
use Rattle.solo_model.specs.declared.TaskAnswer.TheVariants.{WithStatus, WithResponse}
use Rattle.device_server.specs.declared.Answer.TheVariants.{Good, Check}
use Rattle.solo_model.specs.declared.TaskProgress.TheVariants.{Ended}
use Rattle.solo_model.specs.declared.Phase.TheVariants.{Begun, Sent}
use Rattle.solo_model.specs.TaggedTask.{response_number}
use Rattle.uas_iu.specs.declared.Iu.{Iu}
use Rattle.uas_iu.specs.declared.Iu.TheVariants.{Response as ResponseIu, Sense as SenseIu}
use Rattle.uas_iu.specs.Units.{unit_text}
use Rattle.uas_profile.specs.declared.Place.{Place}
use Rattle.uas_profile.specs.Tags.{tag_of}
use Rattle.uas_host.specs.Tds.{status_buffer_of, status_td}
use Rattle.xhci_ctl.specs.Own.{IsOwnStatus}
use Rattle.uas_profile.specs.PipeStates.{is_open}
use Rattle.xhci_ctl.specs.Pipes.{has_pending, is_armed}
use Rattle.shared_machine.specs.Td.{Entry, has_trb, pushed}
use Rattle.bus_core.specs.Wire.{answer_text}
use Rattle.shared_machine.specs.Shared.{Shared}
use Rattle.machine_invariant.specs.Matched.{IsPhaseOf, IsRequestIn, IsStatusTd}
use Rattle.bus_core.specs.World.{World}
use Rattle.bus_core.specs.Cells.{HoldsTd, HoldsTrbs}
use Rattle.bus_core.specs.Fits.{Fits, unit_len}
use Rattle.bus_core.proofs.common.ActFits.{IsPlaced}
use Rattle.uas_profile.specs.Tags.{task_slot}
use Rattle.uas_profile.proofs.TagLaws.{tags-within}
use Rattle.std.proofs.Common.{slice_index}

-- THE UNIT OF AN ANSWER

-- of a status a Sense unit, of a response the Response unit with its code
abbrev pub answer_unit : ℕ → TaskAnswer → Iu
answer_unit tag (WithStatus answer) = SenseIu tag (status_of answer) (record { items = sense_of answer })
answer_unit tag (WithResponse code) = ResponseIu tag (response_number code)

pub answer-unit : (tag : ℕ) (answer : TaskAnswer) → answer_text tag answer ≡ unit_text (answer_unit tag answer)
answer-unit tag (WithStatus answer) = refl
answer-unit tag (WithResponse code) = refl

pub answer-most : (tag : ℕ) (answer : TaskAnswer) → length (answer_text tag answer) ≤ STATUS_BYTES
unfolding unit_text
answer-most tag (WithStatus Good) = omega arith
answer-most tag (WithStatus (Check sense)) = omega arith
answer-most tag (WithResponse code) = omega arith

-- byte 15 of a status buffer that begins with a Sense unit tells its length, and a Response unit, of the last slot, has 8 bytes
pub answer-len : (tags tag slot : ℕ) (request : Request) (answer : TaskAnswer) (bytes : List ℕ) → IsRequestIn tags slot request → IsPhaseOf request (Sent answer)
    → unit_len tags slot (with_bytes_at bytes 0 (answer_text tag answer)) ≡ length (answer_text tag answer)
unfolding unit_text with_bytes_at
answer-len tags tag slot (Execute op) (WithStatus Good) bytes asks answers =
    ap (λ b. cond b 8 16) (ne_eqb slot (task_slot tags) (λ same. omega (arith, asks, same)))
answer-len tags tag slot (Execute op) (WithStatus (Check sense)) bytes asks answers =
    ap (λ b. cond b 8 34) (ne_eqb slot (task_slot tags) (λ same. omega (arith, asks, same)))
answer-len tags tag slot (Execute op) (WithResponse code) bytes asks answers = absurd answers
answer-len tags tag slot (Manage what noted) (WithStatus answer) bytes asks answers = absurd answers
answer-len tags tag slot (Manage what noted) (WithResponse code) bytes asks answers =
    ap (λ b. cond b 8 (16 + slice_index (with_bytes_at bytes 0 (answer_text tag (WithResponse code))) 15)) (eq-eqb slot (task_slot tags) asks)

pub text-begins : (bytes text : List ℕ) → take (length text) (with_bytes_at bytes 0 text) ≡ text
unfolding with_bytes_at
text-begins bytes text = take-append_seam text (drop (0 + length text) bytes)

-- ITS BYTES

pub status-names : (frames : List TagBuffers) (tag len : ℕ) → IsWhole frames → 1 ≤ tag → tag ≤ STREAMS → len ≤ STATUS_BYTES
    → Names frames (status_buffer_of tag) len (front_byte StatusBuffer tag)
status-names frames tag len whole some most short =
    record { first_tag = some; last_tag = most; begins = omega arith; within = omega (arith, (whole.sizes tag some most).status) }

pub spliced-front : (old new : List ℕ) → length new ≤ length old → spliced old 0 new ≡ with_bytes_at old 0 new
spliced-front old new fits = filled-written_at old 0 new (length old) refl (omega arith) ∙ written_at-fits old 0 new (omega arith)

-- the buffers of a tag once its status buffer begins with these bytes
abbrev pub with_status : TagBuffers → List ℕ → TagBuffers
with_status buffers text = record buffers { status = with_bytes_at buffers.status 0 text }

pub status-written : (frames : List TagBuffers) (tag : ℕ) (text : List ℕ) → IsWhole frames → 1 ≤ tag → tag ≤ STREAMS → length text ≤ STATUS_BYTES
    → written frames (status_buffer_of tag) (length text) text ≡ with_held frames tag (with_status (held_for frames tag) text)
status-written frames tag text whole some most short =
    written-named frames (status_buffer_of tag) (length text) text (front_byte StatusBuffer tag) whole
    (status-names frames tag (length text) whole some most short) refl
    ∙ ap (λ bytes. with_held frames tag (record (held_for frames tag) { status = bytes }))
    (spliced-front (held_for frames tag).status text (omega (arith, short, (whole.sizes tag some most).status)))

-- THE STREAM OF AN ENDED REQUEST

pub tag-bounds : (state : Shared) (world : World) (place : Place) (entry : Entry) → IsPlaced state world place entry → Fits state world
    → (1 ≤ tag_of state.tags place) × (tag_of state.tags place ≤ STREAMS)
tag-bounds state world place entry at fits =
    (omega arith, omega (arith, (tags-within state.tags (length state.parts) place at.is_place.client at.is_place.slot).1, fits.most_tags))

-- its status TD is as it was pushed, and so is its ring
pub record IsStatusReady (state : Shared) (world : World) (place : Place) (entry : Entry) : Type 0 where
  pub td : entry.status_td ≡ pushed
  pub ring : HoldsTrbs (stream_ring world.lines.status (tag_of state.tags place)) (status_td (tag_of state.tags place)) 0
  pub front : front_at STREAM_RING_PLACES (stream_ring world.lines.status (tag_of state.tags place))
      ≡ Some (
        pointer_of STREAM_RING_PLACES (stream_ring world.lines.status (tag_of state.tags place)) 0,
        Some (Normal (status_buffer_of (tag_of state.tags place)) STATUS_BYTES 0 (record { 0 = 18 })),
      )

pub status-ready : (state : Shared) (world : World) (place : Place) (entry : Entry) (answer : TaskAnswer) → IsPlaced state world place entry
    → entry.task.phase ≡ Begun (Ended answer) → IsStatusReady state world place entry
status-ready state world place entry answer at ended =
    let td : entry.status_td ≡ pushed = subst (λ p. IsStatusTd p entry.status_td) ended at.matched.here.sound.status in
    let ring : HoldsTrbs (stream_ring world.lines.status (tag_of state.tags place)) (status_td (tag_of state.tags place)) 0 =
    subst (λ t. HoldsTd (stream_ring world.lines.status (tag_of state.tags place)) (status_td (tag_of state.tags place)) t) td at.cell.status in
    record {
      td = td;
      ring = ring;
      front = ap (λ k. option_map (λ item. (pointer_of STREAM_RING_PLACES (stream_ring world.lines.status (tag_of state.tags place)) k, known_of item))
          (slice_get (stream_ring world.lines.status (tag_of state.tags place)).put k)) ring.1
          ∙ ap (λ items. option_map (λ item. (pointer_of STREAM_RING_PLACES (stream_ring world.lines.status (tag_of state.tags place)) 0, known_of item)) (slice_get items 0)) ring.0;
    }

-- the stream is armed where it is open
pub status-armed : (state : Shared) (world : World) (place : Place) (entry : Entry) → IsPlaced state world place entry → Fits state world
    → IsStatusReady state world place entry → is_armed world.controller world.lines Status (tag_of state.tags place) ≡ (is_open state.status (tag_of state.tags place) && true)
status-armed state world place entry at fits ready =
    let tag = tag-bounds state world place entry at fits in
    let there : has_stream (tag_of state.tags place) ≡ true = rw (lt-ltb 0 (tag_of state.tags place) tag.0, le-leb (tag_of state.tags place) STREAMS (omega (arith, tag.1))) refl in
    let pending : has_pending (stream_ring world.lines.status (tag_of state.tags place)) ≡ true =
    ap (λ k. nat_lt k (length (stream_ring world.lines.status (tag_of state.tags place)).put)) ready.ring.1 ∙ ap (λ trbs. nat_lt 0 (length trbs)) ready.ring.0 in
    ap (λ b. (b && is_open world.controller.status (tag_of state.tags place)) && has_pending (stream_ring world.lines.status (tag_of state.tags place))) there
    ∙ ap (λ b. is_open world.controller.status (tag_of state.tags place) && b) pending
    ∙ ap (λ pipe. is_open pipe (tag_of state.tags place) && true) fits.status

-- it is due where it is open
pub status-due : (state : Shared) (world : World) (place : Place) (entry : Entry) → IsStatusReady state world place entry
    → (is_open state.status (tag_of state.tags place) && has_trb entry.status_td 1) ≡ (is_open state.status (tag_of state.tags place) && true)
status-due state world place entry ready = ap (λ td. is_open state.status (tag_of state.tags place) && has_trb td 1) ready.td

-- where the device has a unit to send on a tag, the TRB in front of the status ring has as many bytes
abbrev pub HasOwnUnit : LinesState → List TagBuffers → ℕ → Option Iu → Type 0
HasOwnUnit lines frames tag answer =
    IfSome answer (λ unit. IfSome (front_at STREAM_RING_PLACES (ring_of lines Status tag)) (λ front. IsOwnStatus frames unit front.1))

-- the TRB in front is the host's own
pub status-own : (state : Shared) (world : World) (place : Place) (entry : Entry) (answer : TaskAnswer) → IsPlaced state world place entry → Fits state world
    → IsStatusReady state world place entry
    → HasOwnUnit world.lines world.frames (tag_of state.tags place) (Some (answer_unit (tag_of state.tags place) answer))
status-own state world place entry answer at fits ready =
    let tag = tag-bounds state world place entry at fits in
    subst (λ front. IfSome front (λ f. IsOwnStatus world.frames (answer_unit (tag_of state.tags place) answer) f.1)) (sym ready.front) (
      (refl, refl, inr (front_byte StatusBuffer (tag_of state.tags place), status-names world.frames (tag_of state.tags place) STATUS_BYTES fits.sound.frames tag.0 (omega (arith, tag.1)) (omega arith))),
      subst (λ text. length text ≤ STATUS_BYTES) (answer-unit (tag_of state.tags place) answer) (answer-most (tag_of state.tags place) answer),
    )
