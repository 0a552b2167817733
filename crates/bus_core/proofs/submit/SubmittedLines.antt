-- What a submission puts on the rings, and which doorbells it rings. Cited by Submitting.
use Rattle.std.proofs.Common.{◌≡◌, ℕ, ◌+◌, ◌-◌, ◌*◌, ◌/◌, ◌%◌, ◌<◌, ◌≤◌, Bool, true, false, cond, List, [], ◌∷◌, ◌++◌, length, map, Option, Some}
use Rattle.std.proofs.Common.{None, refl, arith, ap, sym, ◌∙◌}
use Rattle.std.specs.Prelude.{slice_get, slice_set, ◌==◌, if◌then◌else◌}
use Rattle.std.specs.Option.{option_map_or}
use Rattle.std.proofs.lemmas.Bool.{eqb-true, ne_eqb}
use Rattle.std.proofs.lemmas.Option.{none-some}
use Rattle.xhci_trb.specs.declared.Trb.{Trb}
use Rattle.xhci_trb.specs.declared.Trb.TheVariants.{Normal}
use Rattle.cycle_ring.specs.Items.{Item, known, ItemRing}
use Rattle.uas_profile.specs.declared.Pipe.{Pipe}
use Rattle.uas_profile.specs.declared.Pipe.TheVariants.{Command as CommandPipe, Status as StatusPipe, DataIn, DataOut}
use Rattle.stream_array.specs.Contexts.{has_stream}
use Rattle.stream_array.specs.Rings.{LinesState, stream_ring}
use Rattle.scsi_cmd.specs.declared.Command.{Command}
use Rattle.uas_profile.specs.declared.Direction.{Direction}
use Rattle.uas_profile.specs.declared.Direction.TheVariants.{Nothing, ToHost, ToDevice}
use Rattle.scsi_cmd.specs.declared.SubmitFault.TheVariants.{NotYours}
use Rattle.uas_profile.specs.declared.TheConstants.{CHUNK_BYTES, COMMAND_BYTES, MOST_DATA_TRBS, WINDOWS, WINDOW_SPAN}
use Rattle.uas_profile.specs.Doors.{answer_doors, door, door_unless, submission_doors}
use Rattle.uas_profile.specs.Pipes.{target_of}
use Rattle.uas_host.specs.State.{client_of}
use Rattle.uas_host.specs.Submit.{host_fault, fault_at as host_fault_at}
use Rattle.uas_profile.specs.Tags.{command_slot, tag_of}
use Rattle.uas_host.specs.Tds.{HasDataRoom, command_buffer_of, command_td, data_td, data_trbs as trbs_from, status_td, put_on, with_data_td}
use Rattle.xhci_ctl.specs.Doorbells.{rung_by, rung_in, rung_on, pipe_at}
use Rattle.uas_profile.specs.declared.PipeState.{PipeState}
use Rattle.xhci_ctl.specs.Pipes.{ControllerState}
use Rattle.shared_machine.specs.Pipes.{rung_unless}
use Rattle.shared_machine.specs.Part.{Part, data_td_for, fault_at}
use Rattle.shared_machine.specs.Td.{pushed as pushed_td}
use Rattle.shared_machine.specs.Shared.{Shared, is_held, accepted, answered, submitted_to, submitted_under, submit_step, with_streams_rung}
use Rattle.bus_core.specs.World.{World}
use Rattle.bus_core.specs.Cells.{HoldsTrbs, HoldsData, data_in_td, data_out_td}
use Rattle.bus_core.specs.Fits.{Fits, command_trb, place_in}
use Rattle.bus_core.specs.WorldSteps.{rung_all}
use Rattle.bus_core.proofs.common.CellWrites.{stream_ring-same, stream_ring-other}
use Rattle.bus_core.proofs.common.CellWrites.{clients-length}
use Rattle.bus_core.proofs.common.Framing.{found}
use Rattle.shared_machine.proofs.OwnSlots.{IsOwnSlot, command_slot-own}
use Rattle.shared_machine.proofs.Standing.{get-none}
use Rattle.bus_core.proofs.submit.SubmissionFaults.{fault_at-found}
use Rattle.uas_profile.specs.Tags.{task_slot}

-- WHAT IS ACCEPTED

-- a submission without a fault is under a free slot of a client that is there
pub record IsAccepted (state : Shared) (client tag ticket : ℕ) (command : Command) : Type 0 where
  pub slot : ℕ
  pub part : Part
  pub own : IsOwnSlot state.tags (length state.parts) client tag slot
  pub named : command_slot state.tags (length state.parts) client tag ≡ Some slot
  pub there : slice_get state.parts client ≡ Some part
  pub unfaulted : fault_at part slot ticket command ≡ None

pub accepted-part : (state : Shared) (world : World) (client tag slot ticket : ℕ) (command : Command) (at : Option Part) → Fits state world
    → command_slot state.tags (length state.parts) client tag ≡ Some slot → slice_get state.parts client ≡ at
    → host_fault_at (client_of world.host client) ticket command (Some slot) ≡ None → IsAccepted state client tag ticket command
accepted-part state world client tag slot ticket command None fits named is none =
    let own : IsOwnSlot state.tags (length state.parts) client tag slot = command_slot-own state.tags (length state.parts) client tag slot named in
    absurd (omega (arith, own.there, get-none state.parts client is))
accepted-part state world client tag slot ticket command (Some part) fits named is none =
    let own : IsOwnSlot state.tags (length state.parts) client tag slot = command_slot-own state.tags (length state.parts) client tag slot named in
    record {
      slot = slot;
      part = part;
      own = own;
      named = named;
      there = is;
      unfaulted = sym (fault_at-found state.tags world client slot ticket command part (found state.tags world state.parts client part fits.clients is)
          (omega (arith, own.within))) ∙ none;
    }

pub accepted-slot : (state : Shared) (world : World) (client tag ticket : ℕ) (command : Command) (slot : Option ℕ) → Fits state world
    → command_slot state.tags (length state.parts) client tag ≡ slot → host_fault_at (client_of world.host client) ticket command slot ≡ None
    → IsAccepted state client tag ticket command
accepted-slot state world client tag ticket command None fits is none = absurd (none-some NotYours (sym none))
accepted-slot state world client tag ticket command (Some slot) fits is none =
    accepted-part state world client tag slot ticket command (slice_get state.parts client) fits is refl none

pub accepted-is : (state : Shared) (world : World) (client tag ticket : ℕ) (command : Command) → Fits state world
    → host_fault world.host client tag ticket command ≡ None → IsAccepted state client tag ticket command
accepted-is state world client tag ticket command fits none =
    accepted-slot state world client tag ticket command (command_slot state.tags (length state.parts) client tag) fits refl
    (ap (λ n. host_fault_at (client_of world.host client) ticket command (command_slot state.tags n client tag))
    (sym (clients-length state.tags world state.parts fits.clients))
    ∙ ap (λ t. host_fault_at (client_of world.host client) ticket command (command_slot t (length world.host.clients) client tag)) (sym fits.tags) ∙ none)

pub submit_step-is : (state : Shared) (client tag ticket : ℕ) (command : Command) (it : IsAccepted state client tag ticket command)
    → (submit_step state client tag ticket command).0 ≡ (accepted state it.part (place_in client it.slot) tag ticket command).0
submit_step-is state client tag ticket command it =
    ap (λ slot. (submitted_under state client tag ticket command slot).0) it.named
    ∙ ap (λ at. (submitted_to state (place_in client it.slot) tag ticket command at).0) it.there
    ∙ ap (λ fault. (answered state it.part (place_in client it.slot) tag ticket command fault).0) it.unfaulted

-- THE DOORBELLS

-- the data pipes once the doorbells of a command whose data goes this way were rung
abbrev pub data_in_after : (Pipe → Bool) → Direction → PipeState → ℕ → PipeState
data_in_after held Nothing pipe tag = pipe
data_in_after held ToHost pipe tag = rung_unless (held DataIn) pipe tag
data_in_after held ToDevice pipe tag = pipe

abbrev pub data_out_after : (Pipe → Bool) → Direction → PipeState → ℕ → PipeState
data_out_after held Nothing pipe tag = pipe
data_out_after held ToHost pipe tag = pipe
data_out_after held ToDevice pipe tag = rung_unless (held DataOut) pipe tag

pub with_streams_rung-is : (state : Shared) (way : Direction) (tag : ℕ)
    → with_streams_rung state way tag ≡ record state {
      status = rung_unless (is_held state StatusPipe) state.status tag;
      data_in = data_in_after (is_held state) way state.data_in tag;
      data_out = data_out_after (is_held state) way state.data_out tag;
    }
with_streams_rung-is state Nothing tag = refl
with_streams_rung-is state ToHost tag = refl
with_streams_rung-is state ToDevice tag = refl

pub rung_in-door : (target tag : ℕ) (pipe : Pipe) → target < 256 → has_stream tag ≡ true → pipe_at target ≡ Some pipe → rung_in (door target tag) ≡ Some (pipe, tag)
rung_in-door target tag pipe small has is =
    let reserved : (target + 65536 * tag) / 256 % 256 ≡ 0 = omega arith in
    let stream : (target + 65536 * tag) / 65536 ≡ tag = omega arith in
    let low : (target + 65536 * tag) % 256 ≡ target = omega arith in
    rw (reserved, stream, low, has, is) refl

pub rung_by-door : (controller : ControllerState) (target tag : ℕ) (pipe : Pipe) → target < 256 → has_stream tag ≡ true → pipe_at target ≡ Some pipe
    → rung_by controller (door target tag) ≡ rung_on controller pipe tag
rung_by-door controller target tag pipe small has is =
    ap (λ rung. option_map_or (λ r. rung_on controller r.0 r.1) rung controller) (rung_in-door target tag pipe small has is)

-- the doorbell of a stream comes first, or is left out
pub rung_all-unless : (controller : ControllerState) (held : Bool) (pipe : Pipe) (tag : ℕ) (rest : List ℕ)
    → rung_by controller (door (target_of pipe) tag) ≡ rung_on controller pipe tag
    → rung_all controller (door_unless held pipe tag ++ rest) ≡ rung_all (if held then controller else rung_on controller pipe tag) rest
rung_all-unless controller true pipe tag rest is = refl
rung_all-unless controller false pipe tag rest is = ap (λ c. rung_all c rest) is

pub status_rung : (controller : ControllerState) (held : Bool) (tag : ℕ)
    → (if held then controller else rung_on controller StatusPipe tag) ≡ record controller { status = rung_unless held controller.status tag }
status_rung controller true tag = refl
status_rung controller false tag = refl

pub data_in_rung : (controller : ControllerState) (held : Bool) (tag : ℕ)
    → (if held then controller else rung_on controller DataIn tag) ≡ record controller { data_in = rung_unless held controller.data_in tag }
data_in_rung controller true tag = refl
data_in_rung controller false tag = refl

pub data_out_rung : (controller : ControllerState) (held : Bool) (tag : ℕ)
    → (if held then controller else rung_on controller DataOut tag) ≡ record controller { data_out = rung_unless held controller.data_out tag }
data_out_rung controller true tag = refl
data_out_rung controller false tag = refl

-- the command pipe's doorbell changes nothing of the controller
pub answer_rung : (controller : ControllerState) (held : Pipe → Bool) (tag : ℕ) → has_stream tag ≡ true
    → rung_all controller (answer_doors held tag) ≡ record controller { status = rung_unless (held StatusPipe) controller.status tag }
answer_rung controller held tag has =
    rung_all-unless controller (held StatusPipe) StatusPipe tag (door 2 0 ∷ []) (rung_by-door controller 3 tag StatusPipe (omega arith) has refl)
    ∙ ap (λ c. rung_by c (door 2 0)) (status_rung controller (held StatusPipe) tag)

pub rung_all-is : (controller : ControllerState) (held : Pipe → Bool) (way : Direction) (tag : ℕ) → has_stream tag ≡ true
    → rung_all controller (submission_doors held way tag)
    ≡ record {
      status = rung_unless (held StatusPipe) controller.status tag;
      data_in = data_in_after held way controller.data_in tag;
      data_out = data_out_after held way controller.data_out tag;
    }
rung_all-is controller held Nothing tag has = answer_rung controller held tag has
rung_all-is controller held ToHost tag has =
    rung_all-unless controller (held DataIn) DataIn tag (answer_doors held tag) (rung_by-door controller 5 tag DataIn (omega arith) has refl)
    ∙ ap (λ c. rung_all c (answer_doors held tag)) (data_in_rung controller (held DataIn) tag)
    ∙ answer_rung (record controller { data_in = rung_unless (held DataIn) controller.data_in tag }) held tag has
rung_all-is controller held ToDevice tag has =
    rung_all-unless controller (held DataOut) DataOut tag (answer_doors held tag) (rung_by-door controller 4 tag DataOut (omega arith) has refl)
    ∙ ap (λ c. rung_all c (answer_doors held tag)) (data_out_rung controller (held DataOut) tag)
    ∙ answer_rung (record controller { data_out = rung_unless (held DataOut) controller.data_out tag }) held tag has

-- THE RINGS

-- all TDs of a command whose data goes this way
abbrev pub lines_after : LinesState → Direction → ℕ → ℕ → LinesState
lines_after lines way tag bytes = put_on (put_on (with_data_td lines way tag bytes) StatusPipe tag (status_td tag)) CommandPipe 0 (command_td tag)

pub lines-command : (lines : LinesState) (way : Direction) (tag bytes : ℕ)
    → (lines_after lines way tag bytes).command ≡ record lines.command { put = lines.command.put ++ map known (command_td tag) }
lines-command lines Nothing tag bytes = refl
lines-command lines ToHost tag bytes = refl
lines-command lines ToDevice tag bytes = refl

pub lines-engine : (lines : LinesState) (way : Direction) (tag bytes : ℕ) → (lines_after lines way tag bytes).engine ≡ lines.engine
lines-engine lines Nothing tag bytes = refl
lines-engine lines ToHost tag bytes = refl
lines-engine lines ToDevice tag bytes = refl

pub lines-events : (lines : LinesState) (way : Direction) (tag bytes : ℕ) → (lines_after lines way tag bytes).events ≡ lines.events
lines-events lines Nothing tag bytes = refl
lines-events lines ToHost tag bytes = refl
lines-events lines ToDevice tag bytes = refl

abbrev pub ring_put : List ItemRing → ℕ → List Trb → ItemRing
ring_put rings tag trbs = record (stream_ring rings tag) { put = (stream_ring rings tag).put ++ map known trbs }

pub lines-status : (lines : LinesState) (way : Direction) (tag bytes : ℕ)
    → (lines_after lines way tag bytes).status ≡ slice_set lines.status (tag - 1) (ring_put lines.status tag (status_td tag))
lines-status lines Nothing tag bytes = refl
lines-status lines ToHost tag bytes = refl
lines-status lines ToDevice tag bytes = refl

pub data_in-other : (lines : LinesState) (way : Direction) (tag bytes other : ℕ) → 0 < tag → 0 < other → (other ≡ tag → ⊥)
    → stream_ring (lines_after lines way tag bytes).data_in other ≡ stream_ring lines.data_in other
data_in-other lines Nothing tag bytes other some there apart = refl
data_in-other lines ToHost tag bytes other some there apart = stream_ring-other lines.data_in tag other
    (ring_put lines.data_in tag (data_td tag bytes)) some there apart
data_in-other lines ToDevice tag bytes other some there apart = refl

pub data_out-other : (lines : LinesState) (way : Direction) (tag bytes other : ℕ) → 0 < tag → 0 < other → (other ≡ tag → ⊥)
    → stream_ring (lines_after lines way tag bytes).data_out other ≡ stream_ring lines.data_out other
data_out-other lines Nothing tag bytes other some there apart = refl
data_out-other lines ToHost tag bytes other some there apart = refl
data_out-other lines ToDevice tag bytes other some there apart = stream_ring-other lines.data_out tag other
    (ring_put lines.data_out tag (data_td tag bytes)) some there apart

-- a ring with a data TD, if any, that was just put on it
pub holds_pushed : (ring : ItemRing) (tag bytes : ℕ) → HoldsTrbs ring (data_td tag bytes) 0 → HoldsData ring (data_td tag bytes) (data_td_for bytes)
holds_pushed ring tag bytes holds =
    elim (bytes == 0) as (λ b. (bytes == 0) ≡ b → HoldsData ring (data_td tag bytes) (cond b None (Some pushed_td))) [
      | true ↦ λ is. let none : bytes ≡ 0 = eqb-true bytes 0 is in
          let no_trb : (bytes + (CHUNK_BYTES - 1)) / CHUNK_BYTES ≡ 0 = omega arith in
          (holds.0 ∙ ap (λ n. map known (trbs_from n (WINDOWS + WINDOW_SPAN * tag) bytes)) no_trb, holds.1)
      | false ↦ λ is. holds
    ] refl

pub put_empty : (rings : List ItemRing) (tag : ℕ) (trbs : List Trb) → 0 < tag → tag ≤ length rings → HoldsTrbs (stream_ring rings tag) [] 0
    → HoldsTrbs (stream_ring (slice_set rings (tag - 1) (ring_put rings tag trbs)) tag) trbs 0
put_empty rings tag trbs some within holds =
    let is = stream_ring-same rings tag (ring_put rings tag trbs) some within in
    (ap (λ (r : ItemRing). r.put) is ∙ ap (λ (ts : List Item). ts ++ map known trbs) holds.0, ap (λ (r : ItemRing). r.got) is ∙ holds.1)

pub data_in-holds : (lines : LinesState) (way : Direction) (tag bytes : ℕ) → 0 < tag → tag ≤ length lines.data_in → HoldsTrbs (stream_ring lines.data_in tag) [] 0
    → HoldsData (stream_ring (lines_after lines way tag bytes).data_in tag) (data_td tag bytes) (data_in_td way (data_td_for bytes))
data_in-holds lines Nothing tag bytes some within holds = holds
data_in-holds lines ToHost tag bytes some within holds =
    holds_pushed (stream_ring (lines_after lines ToHost tag bytes).data_in tag) tag bytes (put_empty lines.data_in tag (data_td tag bytes) some within holds)
data_in-holds lines ToDevice tag bytes some within holds = holds

pub data_out-holds : (lines : LinesState) (way : Direction) (tag bytes : ℕ) → 0 < tag → tag ≤ length lines.data_out
    → HoldsTrbs (stream_ring lines.data_out tag) [] 0
    → HoldsData (stream_ring (lines_after lines way tag bytes).data_out tag) (data_td tag bytes) (data_out_td way (data_td_for bytes))
data_out-holds lines Nothing tag bytes some within holds = holds
data_out-holds lines ToHost tag bytes some within holds = holds
data_out-holds lines ToDevice tag bytes some within holds =
    holds_pushed (stream_ring (lines_after lines ToDevice tag bytes).data_out tag) tag bytes
    (put_empty lines.data_out tag (data_td tag bytes) some within holds)

-- the command TRB of a command slot has the bytes of a Command unit
pub command_trb-command : (tags : ℕ) (client slot : ℕ) → slot < (task_slot tags) → command_trb tags (place_in client slot) ∷ [] ≡ command_td (tag_of tags (place_in client slot))
command_trb-command tags client slot below =
    let other : (slot == (task_slot tags)) ≡ false = ne_eqb slot (task_slot tags) (λ same. omega (arith, same, below)) in
    ap (λ b. Normal (command_buffer_of (tag_of tags (place_in client slot))) (cond b 16 COMMAND_BYTES) 0 (record { 0 = 16 }) ∷ []) other

-- ROOM

pub data_room : (lines : LinesState) (way : Direction) (tag bytes : ℕ) → (bytes + (CHUNK_BYTES - 1)) / CHUNK_BYTES ≤ MOST_DATA_TRBS → HoldsTrbs (stream_ring lines.data_in tag) [] 0
    → HoldsTrbs (stream_ring lines.data_out tag) [] 0 → HasDataRoom lines way tag bytes
data_room lines Nothing tag bytes few one two = tt
data_room lines ToHost tag bytes few one two = omega (arith, ap (λ (ts : List Item). length ts) one.0)
data_room lines ToDevice tag bytes few one two = omega (arith, ap (λ (ts : List Item). length ts) two.0)
