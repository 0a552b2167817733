-- A reply is the shared machine's, and the world after it fits the shared machine after it: the status of a command or that it was aborted, each
-- with the vector that the client lent, and the response to a task management, which lent none. Cited by the law takes_fit and by the steps.
use Rattle.std.proofs.Common.{◌≡◌, ℕ, ◌*◌, ◌<◌, ◌≤◌, true, false, cond, List, [], ◌∷◌, ◌++◌, length, length-set, map, Option, Some, None, refl, arith, ap, sym}
use Rattle.std.proofs.Common.{subst, ◌∙◌}
use Rattle.std.specs.Prelude.{slice_get, is_some, option_and_then, ◌&&◌}
use Rattle.std.specs.Option.{option_map_or}
use Rattle.std.proofs.lemmas.Bool.{false≢true, and_parts}
use Rattle.std.proofs.lemmas.List.{append-nil}
use Rattle.xhci_trb.specs.declared.Trb.{Trb}
use Rattle.cycle_ring.specs.Items.{ItemRing}
use Rattle.frame_store.specs.declared.TagBuffers.{TagBuffers}
use Rattle.frame_store.specs.Buffers.{held_for, with_lent}
use Rattle.uas_profile.specs.declared.Direction.{Direction}
use Rattle.uas_profile.specs.declared.Direction.TheVariants.{Nothing, ToHost, ToDevice}
use Rattle.scsi_cmd.specs.declared.Reply.{Reply}
use Rattle.scsi_cmd.specs.declared.Request.{Request}
use Rattle.scsi_cmd.specs.declared.Request.TheVariants.{Execute, Manage}
use Rattle.scsi_cmd.specs.declared.Reply.TheVariants.{Aborted, Status as StatusReply, Task as TaskReply}
use Rattle.scsi_cmd.specs.declared.Op.{Op}
use Rattle.scsi_cmd.specs.declared.Task.{Task}
use Rattle.arrayvec.specs.ArrayVec.{ArrayVec}
use Rattle.scsi_cmd.specs.Held.{held_at}
use Rattle.device_server.specs.declared.Answer.{Answer}
use Rattle.solo_model.specs.declared.ResponseCode.{ResponseCode}
use Rattle.solo_model.specs.declared.TaskAnswer.TheVariants.{WithStatus, WithResponse}
use Rattle.solo_model.specs.declared.Phase.{Phase}
use Rattle.solo_model.specs.declared.Phase.TheVariants.{Queued, Begun, Sent, Gone}
use Rattle.device_server.specs.Server.{status_of, sense_of}
use Rattle.solo_model.specs.TaggedTask.{aborted_by, answered_by, reply_from, response_number}
use Rattle.uas_profile.specs.declared.Place.{Place}
use Rattle.uas_profile.specs.declared.TdState.{TdState}
use Rattle.uas_profile.specs.declared.TdState.TheVariants.{Pending, Seen, LeftOver, Retired}
use Rattle.uas_host.specs.declared.HostAnswer.TheVariants.{Response as AnsweredResponse, Status as AnsweredStatus}
use Rattle.uas_host.specs.declared.HostClient.{HostClient}
use Rattle.uas_profile.specs.TdStates.{is_over, is_seen}
use Rattle.uas_host.specs.State.{client_of, new_client, with_client}
use Rattle.uas_host.specs.Replies.{Given, command_reply, given, no_reply, replied, replied_first, reply_of, reply_to, slot_reply, status_reply, task_reply}
use Rattle.uas_host.specs.Replies.{without, without_lent}
use Rattle.uas_profile.specs.Tags.{tag_of}
use Rattle.uas_host.specs.Tds.{data_td, status_td}
use Rattle.uas_target.specs.Device.{task_of}
use Rattle.xhci_ctl.specs.Pipes.{ControllerState}
use Rattle.shared_machine.specs.declared.Td.{Td}
use Rattle.shared_machine.specs.declared.Step.TheVariants.{Take}
use Rattle.shared_machine.specs.Td.{Entry, is_data_over}
use Rattle.shared_machine.specs.Part.{Part, entry_reply, settled, slot_tag, take_act, taken}
use Rattle.shared_machine.specs.Shared.{Shared, acted_on, due, due_step, has_ready, idle, is_some_of, request_direction, routed, routed_to, shared_step}
use Rattle.shared_machine.specs.Soundness.{readied_of, times_in}
use Rattle.machine_invariant.specs.Matched.{IsAwaitedOrSeen, IsGivenUp, IsMatched, IsMatchedEntry, IsPhaseOf, IsStatusTd, carried_places, held_in, request_bytes, under}
use Rattle.bus_core.specs.Hosts.{phase_task}
use Rattle.bus_core.specs.World.{World, cell_at}
use Rattle.bus_core.specs.Cells.{HoldsIn, HoldsTrbs, HoldsData, FitsCell, FitsHeld, IsEmptyCell, data_in_td, data_out_td, host_side, lent_for, told_by}
use Rattle.bus_core.specs.Fits.{AreUnused, command_item, event_texts, Fits, FitsEngine, FitsQueues, IsSoundWorld, place_in}
use Rattle.bus_core.specs.WorldSteps.{TakeFits, TakesFit, TakeIsIdle, take_world}
use Rattle.bus_core.proofs.common.CellWrites.{client_of-found, entry_at-same, entry_at-other, clients-length, held_for-same, held_for-other, index-past}
use Rattle.bus_core.proofs.common.EventTexts.{KeepsOthers, event_texts-one}
use Rattle.bus_core.proofs.common.Framing.{AllFit, AllFit-set, FitsPart-set, ChangesCell, IsFound, engine-kept, fits-anew, found}
use Rattle.machine_invariant.proofs.MatchedEnds.{pushed-over}
use Rattle.machine_invariant.proofs.MatchedSteps.{IsFirstReady, first-ready, IsHeld, matched-held, settled_part, settled_state, times_ready-there, shared_step-matched}
use Rattle.shared_machine.proofs.Standing.{slice_get-back, get-within, get-none}
use Rattle.machine_invariant.proofs.MatchedBounds.{held-place}
use Rattle.uas_profile.proofs.TagLaws.{tags-within}
use Rattle.uas_profile.specs.declared.TheConstants.{STREAMS}

-- WHERE NOTHING IS READY

replied-by : (world : World) (client : ℕ) (ready : List ℕ) → (client_of world.host client).ready.items ≡ ready
    → replied world.host world.frames client ≡ replied_first world.host world.frames client ready
replied-by world client ready is = ap (replied_first world.host world.frames client) is

pub ready-found : (tags : ℕ) (world : World) (client : ℕ) (part : Part) (it : IsFound tags world client part) → (client_of world.host client).ready.items ≡ part.ready
ready-found tags world client part it = ap (λ (c : HostClient). c.ready.items) (client_of-found world.host client it.held it.held_is) ∙ sym it.fits.ready

idle-queue : (world : World) (client : ℕ) (ready : List ℕ) → (client_of world.host client).ready.items ≡ ready → is_some_of ready ≡ false
    → replied world.host world.frames client ≡ no_reply world.host world.frames
idle-queue world client [] is none = replied-by world client [] is
idle-queue world client (slot ∷ rest) is none = absurd (false≢true (sym none))

idle-part : (state : Shared) (world : World) (client : ℕ) (at : Option Part) → Fits state world → slice_get state.parts client ≡ at
    → option_map_or has_ready at false ≡ false
    → replied world.host world.frames client ≡ no_reply world.host world.frames
idle-part state world client None fits is none =
    let past : length world.host.clients ≤ client = omega (arith, clients-length state.tags world state.parts fits.clients, get-none state.parts client is) in
    replied-by world client [] (ap (λ (c : HostClient). c.ready.items) (index-past world.host.clients client new_client past))
idle-part state world client (Some part) fits is none =
    idle-queue world client part.ready (ready-found state.tags world client part (found state.tags world state.parts client part fits.clients is)) none

pub take-is-idle : TakeIsIdle
take-is-idle state world client fits not_due = idle-part state world client (slice_get state.parts client) fits refl not_due

-- WHAT IS READY

-- the slot that is ready first, its entry and what fits it
pub record IsReadyAt (state : Shared) (world : World) (client slot : ℕ) (rest : List ℕ) (part : Part) : Type 0 where
  pub there : slice_get state.parts client ≡ Some part
  pub queue : part.ready ≡ slot ∷ rest
  pub it : IsFound state.tags world client part
  pub within : slot < state.tags
  pub entry : Entry
  pub held : held_at part.entries slot ≡ Some entry
  pub matched : IsMatchedEntry state.tags slot entry
  pub cell : FitsCell state.tags client part.unit.count (place_in client slot) entry (cell_at state.tags world (place_in client slot))
  pub status_over : is_over entry.status_td.state ≡ true
  pub data_over : is_data_over entry.data_td ≡ true

pub ready-at : (state : Shared) (world : World) (client slot : ℕ) (rest : List ℕ) (part : Part) → Fits state world → slice_get state.parts client ≡ Some part
    → part.ready ≡ slot ∷ rest → IsReadyAt state world client slot rest part
ready-at state world client slot rest part fits there queue =
    let place : Place = place_in client slot in
    let counted : times_in slot (slot ∷ rest) ≡ readied_of (under state.parts place) =
    sym (ap (times_in slot) queue) ∙ sym (times_ready-there state.parts place part there) ∙ (fits.matched.places place).ready in
    let first : IsFirstReady (under state.parts place) slot rest = first-ready (under state.parts place) slot rest counted in
    let at : IsHeld state place first.entry = matched-held state place first.entry fits.matched first.is in
    let held : held_at part.entries slot ≡ Some first.entry = sym (ap (λ found. option_map_or (held_in place) found None) there) ∙ first.is in
    let it : IsFound state.tags world client part = found state.tags world state.parts client part fits.clients there in
    let within : slot < state.tags = (held-place state place first.entry fits.matched first.is).slot in
    let over = and_parts (is_over first.entry.status_td.state) (is_data_over first.entry.data_td)
    (and_parts (is_seen first.entry.command_td.state) (is_over first.entry.status_td.state && is_data_over first.entry.data_td) first.ready).1 in
    record {
      there = there;
      queue = queue;
      it = it;
      within = within;
      entry = first.entry;
      held = held;
      matched = at.here.sound;
      cell = subst (λ o. FitsHeld state.tags client part.unit.count place o (cell_at state.tags world place)) held (it.fits.cells slot within);
      status_over = over.0;
      data_over = over.1;
    }

-- THE REPLY

-- the buffers once the request under a tag was replied to: the vector of a command goes back
abbrev frames_given : Request → List TagBuffers → ℕ → List TagBuffers
frames_given (Execute op) frames tag = with_lent frames tag None
frames_given (Manage what noted) frames tag = frames

-- the reply of an entry, which the host gives too
record IsReplied (tag : ℕ) (entry : Entry) : Type 0 where
  reply : Reply
  shared : entry_reply tag entry ≡ Some reply
  host : reply_of tag (lent_for entry.task.request entry.task.buffer) (host_side entry) ≡ Some reply
  frames : (frames : List TagBuffers) → without_lent frames tag reply ≡ frames_given entry.task.request frames tag

-- the status TD of an answer that was handed over was seen, once it is over
over-seen : (state : TdState) → IsAwaitedOrSeen state → is_over state ≡ true → state ≡ Seen
over-seen Pending kept over = absurd (false≢true over)
over-seen Seen kept over = refl
over-seen LeftOver kept over = absurd kept
over-seen Retired kept over = absurd kept

-- and that of a command that is gone was retired
over-retired : (consumed : ℕ) (state : TdState) → IsGivenUp consumed state → is_over state ≡ true → state ≡ Retired
over-retired consumed Pending given over = absurd (false≢true over)
over-retired consumed Seen given over = absurd given
over-retired consumed LeftOver given over = absurd (false≢true over)
over-retired consumed Retired given over = refl

-- the host's reply to a command, by its status TD
command-host : (tag : ℕ) (entry : Entry) (op : Op) (state : TdState) → entry.task.request ≡ Execute op → entry.status_td.state ≡ state
    → reply_of tag (lent_for entry.task.request entry.task.buffer) (host_side entry)
    ≡ command_reply tag entry.task.ticket (told_by entry.task.phase state) state entry.task.buffer
command-host tag entry op state asks is =
    ap (λ r. reply_to tag (host_side entry) (lent_for r entry.task.buffer) r) asks
    ∙ ap (λ s. command_reply tag entry.task.ticket (told_by entry.task.phase s) s entry.task.buffer) is

status-replied : (tag : ℕ) (entry : Entry) (op : Op) (answer : Answer) → entry.task.request ≡ Execute op → entry.task.phase ≡ Sent (WithStatus answer)
    → entry.status_td.state ≡ Seen → IsReplied tag entry
status-replied tag entry op answer asks sent seen =
    let told : told_by entry.task.phase Seen ≡ AnsweredStatus (status_of answer) (record { items = sense_of answer }) =
    ap (λ p. told_by p Seen) sent in
    record {
      reply = StatusReply tag entry.task.ticket (status_of answer) (record { items = sense_of answer }) entry.task.buffer;
      shared = ap (λ phase. reply_from tag entry.task phase) sent
          ∙ ap (λ r. answered_by tag entry.task.ticket entry.task.buffer (WithStatus answer) r) asks;
      host = command-host tag entry op Seen asks seen ∙ ap (λ t. status_reply tag entry.task.ticket entry.task.buffer t) told;
      frames = λ frames. ap (λ r. frames_given r frames tag) (sym asks);
    }

aborted-replied : (tag : ℕ) (entry : Entry) (op : Op) → entry.task.request ≡ Execute op → entry.task.phase ≡ Gone → entry.status_td.state ≡ Retired
    → IsReplied tag entry
aborted-replied tag entry op asks gone retired = record {
  reply = Aborted tag entry.task.ticket entry.task.buffer;
  shared = ap (λ phase. reply_from tag entry.task phase) gone ∙ ap (λ r. aborted_by tag entry.task.ticket entry.task.buffer r) asks;
  host = command-host tag entry op Retired asks retired;
  frames = λ frames. ap (λ r. frames_given r frames tag) (sym asks);
}

task-replied : (tag : ℕ) (entry : Entry) (what : Task) (noted : ArrayVec ℕ) (code : ResponseCode) → entry.task.request ≡ Manage what noted
    → entry.task.phase ≡ Sent (WithResponse code) → entry.status_td.state ≡ Seen → IsReplied tag entry
task-replied tag entry what noted code asks sent seen =
    let told : told_by entry.task.phase entry.status_td.state ≡ AnsweredResponse (response_number code) =
    ap (told_by entry.task.phase) seen ∙ ap (λ p. told_by p Seen) sent in
    record {
      reply = TaskReply tag entry.task.ticket (response_number code);
      shared = ap (λ phase. reply_from tag entry.task phase) sent
          ∙ ap (λ r. answered_by tag entry.task.ticket entry.task.buffer (WithResponse code) r) asks;
      host = ap (λ r. reply_to tag (host_side entry) (lent_for r entry.task.buffer) r) asks ∙ ap (task_reply tag entry.task.ticket) told;
      frames = λ frames. ap (λ r. frames_given r frames tag) (sym asks);
    }

replied-by_phase : (tag : ℕ) (entry : Entry) (request : Request) (phase : Phase) → entry.task.request ≡ request → entry.task.phase ≡ phase
    → IsPhaseOf request phase → IsStatusTd phase entry.status_td → is_over entry.status_td.state ≡ true → IsReplied tag entry
replied-by_phase tag entry request Queued asks at answers td over = absurd (pushed-over entry.status_td td over)
replied-by_phase tag entry request (Begun progress) asks at answers td over = absurd (pushed-over entry.status_td td over)
replied-by_phase tag entry (Execute op) (Sent (WithResponse code)) asks at answers td over = absurd answers
replied-by_phase tag entry (Execute op) (Sent (WithStatus answer)) asks at answers td over =
    status-replied tag entry op answer asks at (over-seen entry.status_td.state td.1 over)
replied-by_phase tag entry (Execute op) Gone asks at answers td over =
    aborted-replied tag entry op asks at (over-retired entry.status_td.consumed entry.status_td.state td over)
replied-by_phase tag entry (Manage what noted) (Sent (WithStatus answer)) asks at answers td over = absurd answers
replied-by_phase tag entry (Manage what noted) (Sent (WithResponse code)) asks at answers td over =
    task-replied tag entry what noted code asks at (over-seen entry.status_td.state td.1 over)
replied-by_phase tag entry (Manage what noted) Gone asks at answers td over = absurd answers

entry-replied : (tags tag slot : ℕ) (entry : Entry) → IsMatchedEntry tags slot entry → is_over entry.status_td.state ≡ true → IsReplied tag entry
entry-replied tags tag slot entry matched over =
    replied-by_phase tag entry entry.task.request entry.task.phase refl refl matched.answers matched.status over

-- what the device has of it: nothing
over-apart : (unit : Option ℕ) (request : Request) (phase : Phase) (td : Td) → IsStatusTd phase td → is_over td.state ≡ true
    → phase_task unit request phase ≡ None
over-apart unit request Queued td is over = absurd (pushed-over td is over)
over-apart unit request (Begun progress) td is over = absurd (pushed-over td is over)
over-apart unit request (Sent answer) td is over = refl
over-apart unit request Gone td is over = refl

slot_reply-is : (state : Shared) (world : World) (client slot : ℕ) (rest : List ℕ) (part : Part) (at : IsReadyAt state world client slot rest part)
    (replied : IsReplied (tag_of state.tags (place_in client slot)) at.entry) → world.host.tags ≡ state.tags → slot_reply world.host world.frames client slot ≡ Some replied.reply
slot_reply-is state world client slot rest part at replied number =
    let tag : ℕ = tag_of state.tags (place_in client slot) in
    ap (λ t. option_and_then (reply_of (tag_of t (place_in client slot)) (held_for world.frames (tag_of t (place_in client slot))).lent)
    (held_at (client_of world.host client).entries slot)) number
    ∙ ap (λ held. option_and_then (reply_of tag (held_for world.frames tag).lent) held) at.cell.held
    ∙ ap (λ lent. reply_of tag lent (host_side at.entry)) at.cell.lent ∙ replied.host

abbrev host_after : ℕ → World → ℕ → ℕ → List ℕ → Request → World
host_after tags world client slot rest request = record world {
  host = with_client world.host client (without (client_of world.host client) slot rest);
  frames = frames_given request world.frames (tag_of tags (place_in client slot));
}

replied-is : (state : Shared) (world : World) (client slot : ℕ) (rest : List ℕ) (part : Part) (at : IsReadyAt state world client slot rest part)
    (it : IsReplied (tag_of state.tags (place_in client slot)) at.entry) → world.host.tags ≡ state.tags
    → replied world.host world.frames client ≡ given world.host world.frames client slot rest (Some it.reply)
replied-is state world client slot rest part at it number =
    replied-by world client (slot ∷ rest) (ready-found state.tags world client part at.it ∙ at.queue)
    ∙ ap (given world.host world.frames client slot rest) (slot_reply-is state world client slot rest part at it number)

taken-reply : (state : Shared) (world : World) (client slot : ℕ) (rest : List ℕ) (part : Part) (at : IsReadyAt state world client slot rest part)
    (it : IsReplied (tag_of state.tags (place_in client slot)) at.entry) → (routed state client (take_act state.tags client)).1.reply ≡ Some it.reply
taken-reply state world client slot rest part at it =
    ap (λ found. (routed_to state client (take_act state.tags client) found).1.reply) at.there
    ∙ ap (λ ready. (taken state.tags client part ready).reply) at.queue
    ∙ ap (λ found. (settled part slot rest (option_and_then (entry_reply (slot_tag state.tags client slot)) found)).reply) at.held
    ∙ ap (λ reply. (settled part slot rest reply).reply) it.shared

taken-state : (state : Shared) (world : World) (client slot : ℕ) (rest : List ℕ) (part : Part) (at : IsReadyAt state world client slot rest part)
    → IsReplied (tag_of state.tags (place_in client slot)) at.entry
    → (routed state client (take_act state.tags client)).0 ≡ settled_state state (place_in client slot) part rest
taken-state state world client slot rest part at it =
    ap (λ found. (routed_to state client (take_act state.tags client) found).0) at.there
    ∙ ap (λ ready. (acted_on state client (taken state.tags client part ready)).0) at.queue
    ∙ ap (λ found. (acted_on state client (settled part slot rest (option_and_then (entry_reply (slot_tag state.tags client slot)) found))).0) at.held
    ∙ ap (λ reply. (acted_on state client (settled part slot rest reply)).0) it.shared

-- the tag of a place is one of a stream
tag-most : (state : Shared) (world : World) (client slot : ℕ) (part : Part) → Fits state world → slice_get state.parts client ≡ Some part → slot < state.tags
    → tag_of state.tags (place_in client slot) ≤ STREAMS
tag-most state world client slot part fits there within =
    omega (arith, (tags-within state.tags (length state.parts) (place_in client slot) (get-within state.parts client part there) within).1, fits.most_tags)

-- THE CELL IS EMPTY

holds-over : (ring : ItemRing) (trbs : List Trb) (consumed : ℕ) (state : TdState) → is_over state ≡ true → HoldsIn ring trbs consumed state → HoldsTrbs ring [] 0
holds-over ring trbs consumed Pending over holds = absurd (false≢true over)
holds-over ring trbs consumed Seen over holds = holds.0
holds-over ring trbs consumed LeftOver over holds = absurd (false≢true over)
holds-over ring trbs consumed Retired over holds = holds.0

data-over : (ring : ItemRing) (trbs : List Trb) (td : Option Td) → is_data_over td ≡ true → HoldsData ring trbs td → HoldsTrbs ring [] 0
data-over ring trbs None over holds = holds
data-over ring trbs (Some td) over holds = holds-over ring trbs td.consumed td.state over holds

in-over : (way : Direction) (td : Option Td) → is_data_over td ≡ true → is_data_over (data_in_td way td) ≡ true
in-over Nothing td over = refl
in-over ToHost td over = over
in-over ToDevice td over = refl

out-over : (way : Direction) (td : Option Td) → is_data_over td ≡ true → is_data_over (data_out_td way td) ≡ true
out-over Nothing td over = refl
out-over ToHost td over = refl
out-over ToDevice td over = over

-- the buffers of its tag lend nothing, and are the same else
given-lent : (request : Request) (frames : List TagBuffers) (tag : ℕ) (buffer : List ℕ) → 0 < tag → tag ≤ length frames
    → (held_for frames tag).lent ≡ lent_for request buffer → (held_for (frames_given request frames tag) tag).lent ≡ None
given-lent (Execute op) frames tag buffer some within lent =
    ap (λ (b : TagBuffers). b.lent) (held_for-same frames tag (record (held_for frames tag) { lent = None }) some within)
given-lent (Manage what noted) frames tag buffer some within lent = lent

given-status : (request : Request) (frames : List TagBuffers) (tag : ℕ) → 0 < tag → tag ≤ length frames
    → (held_for (frames_given request frames tag) tag).status ≡ (held_for frames tag).status
given-status (Execute op) frames tag some within =
    ap (λ (b : TagBuffers). b.status) (held_for-same frames tag (record (held_for frames tag) { lent = None }) some within)
given-status (Manage what noted) frames tag some within = refl

given-other : (request : Request) (frames : List TagBuffers) (tag other : ℕ) → 0 < tag → 0 < other → (other ≡ tag → ⊥)
    → held_for (frames_given request frames tag) other ≡ held_for frames other
given-other (Execute op) frames tag other some there apart = held_for-other frames tag other _ some there apart
given-other (Manage what noted) frames tag other some there apart = refl

take-others : (tags : ℕ) (world : World) (client slot : ℕ) (rest : List ℕ) (request : Request) (part : Part) → IsFound tags world client part
    → KeepsOthers tags world (host_after tags world client slot rest request) (place_in client slot)
take-others tags world client slot rest request part it other at inside apart =
    let held_is = entry_at-other tags world.host client slot other at (without (client_of world.host client) slot rest) None
    (get-within world.host.clients client it.held it.held_is) refl apart in
    let buffers_is = given-other request world.frames (tag_of tags (place_in client slot)) (tag_of tags (place_in other at)) (omega arith) (omega arith) apart in
    λ i. record (cell_at tags world (place_in other at)) { held = held_is i; buffers = buffers_is i }

take-cell : (state : Shared) (world : World) (client slot : ℕ) (rest : List ℕ) (part : Part) (at : IsReadyAt state world client slot rest part)
    → Fits state world → IsEmptyCell (cell_at state.tags (host_after state.tags world client slot rest at.entry.task.request) (place_in client slot))
take-cell state world client slot rest part at fits =
    let tag : ℕ = tag_of state.tags (place_in client slot) in
    let most : tag_of state.tags (place_in client slot) ≤ STREAMS = tag-most state world client slot part fits at.there at.within in
    let there = get-within world.host.clients client at.it.held at.it.held_is in
    let way : Direction = request_direction at.entry.task.request in
    let data_trbs : List Trb = data_td tag (request_bytes at.entry.task.request) in
    record {
      held = entry_at-same world.host client slot (without (client_of world.host client) slot rest) (client_of world.host client).entries None
          there (omega (arith, at.within, (fits.sound.host.clients client there).slots, fits.matched.tags.most)) refl;
      task = at.cell.task
          ∙ over-apart (Some client) at.entry.task.request at.entry.task.phase at.entry.status_td at.matched.status at.status_over;
      status = holds-over (cell_at state.tags world (place_in client slot)).status
          (status_td tag) at.entry.status_td.consumed at.entry.status_td.state at.status_over at.cell.status;
      data_in = data-over (cell_at state.tags world (place_in client slot)).data_in data_trbs (data_in_td way at.entry.data_td)
          (in-over way at.entry.data_td at.data_over) at.cell.data_in;
      data_out = data-over (cell_at state.tags world (place_in client slot)).data_out data_trbs (data_out_td way at.entry.data_td)
          (out-over way at.entry.data_td at.data_over) at.cell.data_out;
      lent = given-lent at.entry.task.request world.frames tag at.entry.task.buffer (omega arith) (omega (arith, most, fits.sound.frames.tags))
          at.cell.lent;
    }

-- ALL TOGETHER

take-queues : (state : Shared) (world : World) (client slot : ℕ) (rest : List ℕ) (part : Part) (at : IsReadyAt state world client slot rest part)
    → Fits state world
    → FitsQueues (settled_state state (place_in client slot) part rest) (host_after state.tags world client slot rest at.entry.task.request)
take-queues state world client slot rest part at fits =
    let tag : ℕ = tag_of state.tags (place_in client slot) in
    let most : tag_of state.tags (place_in client slot) ≤ STREAMS = tag-most state world client slot part fits at.there at.within in
    let after : World = host_after state.tags world client slot rest at.entry.task.request in
    let same : state.events ≡ state.events ++ [] = sym (append-nil state.events) in
    let status_is = given-status at.entry.task.request world.frames tag (omega arith) (omega (arith, most, fits.sound.frames.tags)) in
    record {
      put = fits.queues.put ∙ ap (λ es. map (command_item state.tags) (carried_places es ++ state.messages)) same;
      got = fits.queues.got ∙ ap (λ es. length (carried_places es)) same;
      texts = fits.queues.texts
          ∙ sym (event_texts-one state world after (place_in client slot) 0 fits.matched at.within (refl, refl) refl
          (take-others state.tags world client slot rest at.entry.task.request part at.it) (λ some. (refl, refl)) (λ some. (refl, status_is)))
          ∙ ap (event_texts state.tags after 0) same;
    }

-- what fits besides after a step that leaves the pipes' doorbells and the number of clients
pub record FitsBesides (state now : Shared) (after : World) : Type 0 where
  pub long : length now.parts ≡ length state.parts
  pub sound : IsSoundWorld after
  pub queues : FitsQueues now after
  pub engine : FitsEngine now after
  pub matched : IsMatched now
  pub clients : AllFit state.tags after now.parts
  pub others : (tag : ℕ) → length state.parts * state.tags < tag → task_of after.device tag ≡ None
  pub unused : (tag : ℕ) → length state.parts * state.tags < tag → AreUnused after.lines tag

pub fits-besides : (state now : Shared) (world after : World) → Fits state world → now.tags ≡ state.tags → after.host.tags ≡ world.host.tags
    → after.controller ≡ world.controller → now.status ≡ state.status
    → now.data_in ≡ state.data_in → now.data_out ≡ state.data_out → FitsBesides state now after → Fits now after
fits-besides state now world after fits number host controller status data_in data_out besides =
    fits-anew state now world after fits number host besides.long (record {
      status = ap (λ (c : ControllerState). c.status) controller ∙ fits.status ∙ sym status;
      data_in = ap (λ (c : ControllerState). c.data_in) controller ∙ fits.data_in ∙ sym data_in;
      data_out = ap (λ (c : ControllerState). c.data_out) controller ∙ fits.data_out ∙ sym data_out;
    }) besides.sound besides.queues besides.engine besides.matched besides.clients besides.others besides.unused

take-fits : (state : Shared) (world : World) (client slot : ℕ) (rest : List ℕ) (part : Part) (at : IsReadyAt state world client slot rest part)
    → Fits state world → IsMatched (settled_state state (place_in client slot) part rest)
    → IsSoundWorld (host_after state.tags world client slot rest at.entry.task.request)
    → Fits (settled_state state (place_in client slot) part rest) (host_after state.tags world client slot rest at.entry.task.request)
take-fits state world client slot rest part at fits matched sound =
    let after : World = host_after state.tags world client slot rest at.entry.task.request in
    let held_now : HostClient = without (client_of world.host client) slot rest in
    let changes : ChangesCell state.tags world (host_after state.tags world client slot rest at.entry.task.request) client slot held_now part.unit = record {
      hosts = refl;
      units = sym (slice_get-back world.device.units client part.unit at.it.unit_is);
      others = take-others state.tags world client slot rest at.entry.task.request part at.it;
    } in
    let least_is : part.least_ticket ≡ held_now.least_ticket =
    at.it.fits.least_ticket ∙ ap (λ (c : HostClient). c.least_ticket) (sym (client_of-found world.host client at.it.held at.it.held_is)) in
    fits-besides state (settled_state state (place_in client slot) part rest) world after fits refl refl refl refl refl refl (record {
      long = length-set state.parts client (settled_part part slot rest);
      sound = sound;
      queues = take-queues state world client slot rest part at fits;
      engine = engine-kept state (settled_state state (place_in client slot) part rest) world after fits.engine refl refl refl refl (λ r is. refl);
      matched = matched;
      clients = AllFit-set state.tags world after state.parts client slot part.unit held_now part (settled_part part slot rest)
          fits.clients at.there at.within changes
          (FitsPart-set state.tags fits.matched.tags world after client slot part.unit part.unit at.it.held held_now part None part.least_ticket rest
          at.it.fits at.within changes refl least_is refl (take-cell state world client slot rest part at fits));
      others = fits.others;
      unused = fits.unused;
    })

take-at : (state : Shared) (world : World) (client slot : ℕ) (rest : List ℕ) (part : Part) → IsReadyAt state world client slot rest part → Fits state world
    → due state (Take client) ≡ true → TakeFits state world client
take-at state world client slot rest part at fits is_due =
    let it : IsReplied (tag_of state.tags (place_in client slot)) at.entry =
    entry-replied state.tags (tag_of state.tags (place_in client slot)) slot at.entry at.matched at.status_over in
    let stepped : shared_step state (Take client) ≡ routed state client (take_act state.tags client) = ap
    (λ b. cond b (due_step state (Take client)) (state, idle)) is_due in
    let now : (shared_step state (Take client)).0 ≡ settled_state state (place_in client slot) part rest =
    ap (λ after. after.0) stepped ∙ taken-state state world client slot rest part at it in
    let gives = replied-is state world client slot rest part at it fits.tags in
    let world_is : take_world world client ≡ host_after state.tags world client slot rest at.entry.task.request =
    ap (λ (g : Given). record world { host = g.host; frames = g.frames }) gives
    ∙ ap (λ t. record (host_after state.tags world client slot rest at.entry.task.request)
    { frames = without_lent world.frames (tag_of t (place_in client slot)) it.reply }) fits.tags
    ∙ ap (λ frames. record (host_after state.tags world client slot rest at.entry.task.request) { frames = frames }) (it.frames world.frames) in
    let matched = shared_step-matched state (Take client) fits.matched in
    record {
      brings = ap (λ (g : Given). is_some g.reply) gives;
      reply = ap (λ (g : Given). g.reply) gives ∙ sym (ap (λ after. after.1.reply) stepped ∙ taken-reply state world client slot rest part at it);
      fits = subst (λ s. IsSoundWorld (take_world world client) → Fits s (take_world world client)) (sym now)
          (subst (λ w. IsSoundWorld w → Fits (settled_state state (place_in client slot) part rest) w) (sym world_is)
          (take-fits state world client slot rest part at fits (subst IsMatched now matched)));
    }

take-queue : (state : Shared) (world : World) (client : ℕ) (part : Part) (queue : List ℕ) → Fits state world → slice_get state.parts client ≡ Some part
    → part.ready ≡ queue
    → is_some_of queue ≡ true → due state (Take client) ≡ true → TakeFits state world client
take-queue state world client part [] fits there is some is_due = absurd (false≢true some)
take-queue state world client part (slot ∷ rest) fits there is some is_due =
    take-at state world client slot rest part (ready-at state world client slot rest part fits there is) fits is_due

take-part : (state : Shared) (world : World) (client : ℕ) (at : Option Part) → Fits state world → slice_get state.parts client ≡ at
    → option_map_or has_ready at false ≡ true
    → due state (Take client) ≡ true → TakeFits state world client
take-part state world client None fits there some is_due = absurd (false≢true some)
take-part state world client (Some part) fits there some is_due = take-queue state world client part part.ready fits there refl some is_due

pub takes-fit : TakesFit
takes-fit state world client fits is_due = take-part state world client (slice_get state.parts client) fits refl is_due is_due
