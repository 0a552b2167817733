-- What the host makes of an event that it awaits: its entry becomes the host's side of what the shared machine's becomes, and once a response
-- came, each entry of the client the host's side of what the shared machine leaves of it. Cited by the proofs of the events.
use Rattle.std.proofs.Common.{◌≡◌, ℕ, zero, suc, ◌+◌, ◌-◌, ◌<◌, ◌≤◌, true, false, ◌&&◌, List, [], ◌∷◌, take, length, Option, Some, None, option_map}
use Rattle.std.proofs.Common.{refl, arith, ap, sym, ◌∙◌}
use Rattle.std.specs.Prelude.{slice_index, slice_set, option_and_then, ◌==◌, if◌then◌else◌, not}
use Rattle.std.proofs.lemmas.Bool.{eq-eqb, ne_eqb}
use Rattle.frame_store.specs.declared.TagBuffers.{TagBuffers}
use Rattle.frame_store.specs.Buffers.{held_for}
use Rattle.scsi_cmd.specs.Request.{is_command}
use Rattle.uas_profile.specs.declared.Direction.TheVariants.{ToHost, ToDevice}
use Rattle.scsi_cmd.specs.declared.Request.TheVariants.{Execute, Manage}
use Rattle.scsi_cmd.specs.declared.Op.{Op}
use Rattle.scsi_cmd.specs.declared.Task.{Task}
use Rattle.arrayvec.specs.ArrayVec.{ArrayVec}
use Rattle.uas_profile.specs.declared.TheConstants.{STREAMS, STATUS_BYTES, SHORT_PACKET}
use Rattle.scsi_cmd.specs.Held.{held_at}
use Rattle.device_server.specs.declared.Answer.{Answer}
use Rattle.solo_model.specs.declared.ResponseCode.{ResponseCode}
use Rattle.solo_model.specs.declared.TaskAnswer.TheVariants.{WithStatus, WithResponse}
use Rattle.solo_model.specs.TaggedTask.{response_number}
use Rattle.device_server.specs.declared.Answer.TheVariants.{Good, Check}
use Rattle.device_server.specs.Server.{status_of, sense_of}
use Rattle.solo_model.specs.declared.Phase.TheVariants.{Sent}
use Rattle.uas_iu.specs.declared.Iu.TheVariants.{Response as ResponseUnit, Sense as SenseUnit}
use Rattle.uas_iu.specs.Units.{unit_text, Fits as FitsUnit}
use Rattle.uas_iu.proofs.Laws.{first_fault-unit_text}
use Rattle.uas_profile.specs.declared.Pipe.TheVariants.{Status}
use Rattle.uas_profile.specs.declared.Place.{Place}
use Rattle.uas_profile.specs.declared.TdState.{TdState}
use Rattle.uas_profile.specs.declared.TdState.TheVariants.{Pending, Seen, LeftOver, Retired}
use Rattle.uas_host.specs.declared.HostAnswer.TheVariants.{Response as AnsweredResponse, Status as AnsweredStatus}
use Rattle.uas_host.specs.Notices.{Notice, CommandSeen, DataInSeen, DataOutSeen, Answered, Responded}
use Rattle.uas_host.specs.declared.HostEntry.{HostEntry}
use Rattle.uas_host.specs.declared.HostClient.{HostClient}
use Rattle.uas_host.specs.Seen.{after_response, completes, ended_in}
use Rattle.uas_profile.specs.TdStates.{is_pending, is_seen, is_over}
use Rattle.uas_host.specs.State.{HostState, client_of, with_client}
use Rattle.uas_host.specs.State.{queued_if, is_data_over as is_host_data_over, is_ready as is_host_ready}
use Rattle.uas_profile.specs.Tags.{tag_of}
use Rattle.uas_host.specs.Events.{answer_in, data_after, goes_to_host, goes_to_device, seen, seen_data, host_seen}
use Rattle.uas_host.specs.Events.{place_seen, with_seen, left_over_td as host_left_over, notice_on}
use Rattle.uas_host.proofs.Texts.{answer_by-text}
use Rattle.shared_machine.specs.declared.Td.{Td}
use Rattle.shared_machine.specs.Bus.{IsPlace}
use Rattle.shared_machine.specs.Td.{Entry, is_data_over, is_ready, with_event_seen, left_over_td, data_after_answer, data_after_status}
use Rattle.shared_machine.specs.Shared.{request_direction}
use Rattle.bus_core.specs.Wire.{answer_text}
use Rattle.bus_core.specs.Cells.{host_side, state_of, told_by}
use Rattle.bus_core.specs.Fits.{unit_len}
use Rattle.machine_invariant.proofs.MatchedEngine.{place_of-tag_of}
use Rattle.uas_profile.specs.Tags.{task_slot}
use Rattle.uas_profile.specs.Tags.{place_of}

-- READY

is_data_over-side : (td : Option Td) → is_host_data_over (option_map state_of td) ≡ is_data_over td
is_data_over-side None = refl
is_data_over-side (Some td) = refl

pub is_ready-side : (entry : Entry) → is_host_ready (host_side entry) ≡ is_ready entry
is_ready-side entry =
    ap (λ b. is_seen entry.command_td.state && (is_over entry.status_td.state && b)) (is_data_over-side entry.data_td)

-- ONE ENTRY

pub command_seen-side : (entry : Entry) → entry.command_td.state ≡ Pending
    → seen CommandSeen (host_side entry) ≡ Some (host_side (record entry { command_td = with_event_seen entry.command_td }))
command_seen-side entry pends = ap (λ s. if is_pending s then Some (record (host_side entry) { command_td = Seen }) else None) pends

-- the event of a pending data TD, in its direction
seen_data-side : (entry : Entry) (td : Td) → entry.data_td ≡ Some td → td.state ≡ Pending
    → seen_data true (host_side entry) (option_map state_of entry.data_td) ≡ Some (host_side (record entry { data_td = Some (with_event_seen td) }))
seen_data-side entry td is pends =
    ap (λ t. seen_data true (host_side entry) (option_map state_of t)) is ∙ ap (λ s. seen_data true (host_side entry) (Some s)) pends

pub data_in_seen-side : (entry : Entry) (td : Td) → entry.data_td ≡ Some td → td.state ≡ Pending → request_direction entry.task.request ≡ ToHost
    → seen DataInSeen (host_side entry) ≡ Some (host_side (record entry { data_td = Some (with_event_seen td) }))
data_in_seen-side entry td is pends way =
    ap (λ w. seen_data (goes_to_host w) (host_side entry) (option_map state_of entry.data_td)) way ∙ seen_data-side entry td is pends

pub data_out_seen-side : (entry : Entry) (td : Td) → entry.data_td ≡ Some td → td.state ≡ Pending → request_direction entry.task.request ≡ ToDevice
    → seen DataOutSeen (host_side entry) ≡ Some (host_side (record entry { data_td = Some (with_event_seen td) }))
data_out_seen-side entry td is pends way =
    ap (λ w. seen_data (goes_to_device w) (host_side entry) (option_map state_of entry.data_td)) way ∙ seen_data-side entry td is pends

pub left_over-state : (state : TdState) (consumed : ℕ) → host_left_over state ≡ state_of (left_over_td (record { state = state; consumed = consumed }))
left_over-state Pending consumed = refl
left_over-state Seen consumed = refl
left_over-state LeftOver consumed = refl
left_over-state Retired consumed = refl

data_after-side : (answer : Answer) (td : Option Td) → data_after (status_of answer) (option_map state_of td) ≡ option_map state_of
    (data_after_answer (WithStatus answer) td)
data_after-side Good td = refl
data_after-side (Check sense) None = refl
data_after-side (Check sense) (Some td) = ap Some (left_over-state td.state td.consumed)

-- the entry once its status event was seen
abbrev pub status_seen : Entry → Entry
status_seen entry = record entry { status_td = with_event_seen entry.status_td; data_td = data_after_status entry.task.phase entry.data_td }

pub status_seen-side : (entry : Entry) (op : Op) (answer : Answer) → entry.task.request ≡ Execute op → entry.task.phase ≡ Sent (WithStatus answer)
    → entry.status_td.state ≡ Pending
    → seen (Answered (status_of answer) (record { items = sense_of answer })) (host_side entry) ≡ Some (host_side (status_seen entry))
status_seen-side entry op answer asks sent pends =
    let told : told_by entry.task.phase Seen ≡ AnsweredStatus (status_of answer) (record { items = sense_of answer }) =
    ap (λ p. told_by p Seen) sent in
    let left : data_after (status_of answer) (option_map state_of entry.data_td) ≡ option_map state_of (data_after_status entry.task.phase entry.data_td) =
    data_after-side answer entry.data_td ∙ ap (λ p. option_map state_of (data_after_status p entry.data_td)) (sym sent) in
    let now : HostEntry = record (host_side entry) {
      told = AnsweredStatus (status_of answer) (record { items = sense_of answer });
      status_td = Seen;
      data_td = data_after (status_of answer) (option_map state_of entry.data_td);
    } in
    ap (λ r. if is_command r && is_pending entry.status_td.state then Some now else None) asks
    ∙ ap (λ s. if is_pending s then Some now else None) pends
    ∙ ap (λ t. Some (record now { told = t })) (sym told)
    ∙ ap (λ d. Some (record now { told = told_by entry.task.phase Seen; data_td = d })) left

-- a task management is told the code of its response, and has no data TD
pub response_seen-side : (entry : Entry) (what : Task) (noted : ArrayVec ℕ) (code : ResponseCode) → entry.task.request ≡ Manage what noted
    → entry.task.phase ≡ Sent (WithResponse code)
    → entry.status_td.state ≡ Pending → seen (Responded (response_number code)) (host_side entry) ≡ Some (host_side (status_seen entry))
response_seen-side entry what noted code asks sent pends =
    let told : told_by entry.task.phase Seen ≡ AnsweredResponse (response_number code) =
    ap (λ p. told_by p Seen) sent in
    let left : data_after_status entry.task.phase entry.data_td ≡ entry.data_td = ap (λ p. data_after_status p entry.data_td) sent in
    let now : HostEntry = record (host_side entry) { told = AnsweredResponse (response_number code); status_td = Seen } in
    ap (λ r. if not (is_command r) && is_pending entry.status_td.state then Some now else None) asks
    ∙ ap (λ s. if is_pending s then Some now else None) pends
    ∙ ap (λ t. Some (record now { told = t })) (sym told)
    ∙ ap (λ td. Some (record now { told = told_by entry.task.phase Seen; data_td = option_map state_of td })) (sym left)

-- THE HOST

-- a client with this entry in a slot, the last of the ready ones where it is ready
abbrev pub client_with : HostClient → ℕ → HostEntry → HostClient
client_with client slot now = record {
  entries = slice_set client.entries slot (Some now);
  least_ticket = client.least_ticket;
  ready = record { items = queued_if (is_host_ready now) client.ready.items slot };
}

-- no other entry changes at notice that aren't a response
with_seen-quiet : (notice : Notice) (client : HostClient) (slot : ℕ) (now : HostEntry) → completes notice ≡ false
    → with_seen notice client slot now ≡ client_with client slot now
with_seen-quiet notice client slot now quiet =
    ap (λ b. record (client_with client slot now) {
      entries = if b then after_response (ended_in now.request) (slice_set client.entries slot (Some now)) else slice_set client.entries slot (Some now);
    }) quiet

-- the host whose entry of a place became the host's side of this one
abbrev pub host_with : HostState → Place → Entry → HostState
host_with host place now = with_client host place.client (client_with (client_of host place.client) place.slot (host_side now))

pub host_seen-is : (tags : ℕ) (host : HostState) (place : Place) (entry now : Entry) (notice : Notice) → completes notice ≡ false → host.tags ≡ tags → IsPlace tags (length host.clients) place
    → held_at (client_of host place.client).entries place.slot ≡ Some (host_side entry) → seen notice (host_side entry) ≡ Some (host_side now)
    → host_seen notice host (tag_of tags place) ≡ Some (host_with host place now)
host_seen-is tags host place entry now notice quiet number there held sees =
    ap (λ t. option_and_then (place_seen notice host) (place_of t (length host.clients) (tag_of tags place))) number
    ∙ ap (option_and_then (place_seen notice host)) (place_of-tag_of tags (length host.clients) place there)
    ∙ ap (λ h. option_map (with_client host place.client)
    (option_map (with_seen notice (client_of host place.client) place.slot) (option_and_then (seen notice) h))) held
    ∙ ap (λ h. option_map (with_client host place.client) (option_map (with_seen notice (client_of host place.client) place.slot) h)) sees
    ∙ ap (λ c. Some (with_client host place.client c)) (with_seen-quiet notice (client_of host place.client) place.slot (host_side now) quiet)

-- THE NEWS OF A STATUS EVENT

index-take : (bytes : List ℕ) (n at : ℕ) → at < n → slice_index (take n bytes) at ≡ slice_index bytes at
index-take [] zero at less = absurd (omega arith)
index-take [] (suc n) at less = refl
index-take (byte ∷ bytes) zero at less = absurd (omega arith)
index-take (byte ∷ bytes) (suc n) zero less = refl
index-take (byte ∷ bytes) (suc n) (suc at) less = index-take bytes n at (omega arith)

-- the length that a Sense unit tells
abbrev told_len : List ℕ → ℕ
told_len bytes = 16 + slice_index bytes 15

text-len : (tag : ℕ) (answer : Answer) → told_len (answer_text tag (WithStatus answer)) ≡ length (answer_text tag (WithStatus answer))
unfolding unit_text
text-len tag Good = refl
text-len tag (Check sense) = refl

text-bounds : (tag : ℕ) (answer : Answer)
    → (16 ≤ length (answer_text tag (WithStatus answer))) × (length (answer_text tag (WithStatus answer)) ≤ STATUS_BYTES)
unfolding unit_text
text-bounds tag Good = (omega arith, omega arith)
text-bounds tag (Check sense) = (omega arith, omega arith)

-- a command slot's unit is a Sense unit, which tells its length
sense-len : (tags : ℕ) (slot : ℕ) (bytes : List ℕ) → slot < (task_slot tags) → unit_len tags slot bytes ≡ told_len bytes
sense-len tags slot bytes less = ap (λ b. if b then 8 else 16 + slice_index bytes 15) (ne_eqb slot (task_slot tags) (λ same. omega (arith, less, same)))

-- the length that a status buffer tells once it begins with an answer
unit_len-answer : (tags : ℕ) (slot tag : ℕ) (answer : Answer) (bytes : List ℕ) → slot < (task_slot tags)
    → take (length (answer_text tag (WithStatus answer))) bytes ≡ answer_text tag (WithStatus answer)
    → unit_len tags slot bytes ≡ length (answer_text tag (WithStatus answer))
unit_len-answer tags slot tag answer bytes less is =
    let bounds = text-bounds tag answer in
    sense-len tags slot bytes less
    ∙ ap (λ n. 16 + n) (sym (index-take bytes (length (answer_text tag (WithStatus answer))) 15 (omega (arith, bounds.0))))
    ∙ ap (λ bs. told_len bs) is ∙ text-len tag answer

fits-answer : (tag : ℕ) (answer : Answer) → tag ≤ STREAMS → FitsUnit (SenseUnit tag (status_of answer) (record { items = sense_of answer }))
fits-answer tag Good most = (omega arith, omega arith)
fits-answer tag (Check sense) most = (omega arith, omega arith)

answer_in-text : (tag : ℕ) (answer : Answer) → tag ≤ STREAMS
    → answer_in tag (answer_text tag (WithStatus answer)) ≡ Some (Answered (status_of answer) (record { items = sense_of answer }))
answer_in-text tag answer most =
    let fits = fits-answer tag answer most in
    let unit = SenseUnit tag (status_of answer) (record { items = sense_of answer }) in
    let same : (tag == tag) ≡ true = eq-eqb tag tag refl in
    sym (answer_by-text tag unit fits (first_fault-unit_text unit fits))
    ∙ ap (λ b. if b then Some (Answered (status_of answer) (record { items = sense_of answer })) else None) same

pub status_notice-is : (tags : ℕ) (frames : List TagBuffers) (slot tag : ℕ) (answer : Answer) → slot < (task_slot tags) → tag ≤ STREAMS
    → take (length (answer_text tag (WithStatus answer))) (held_for frames tag).status ≡ answer_text tag (WithStatus answer)
    → notice_on Status frames (STATUS_BYTES - unit_len tags slot (held_for frames tag).status) SHORT_PACKET tag
    ≡ Some (Answered (status_of answer) (record { items = sense_of answer }))
status_notice-is tags frames slot tag answer less most is =
    let len = unit_len-answer tags slot tag answer (held_for frames tag).status less is in
    let bounds = text-bounds tag answer in
    let left : STATUS_BYTES - (STATUS_BYTES - unit_len tags slot (held_for frames tag).status) ≡ length (answer_text tag (WithStatus answer)) = omega (arith, len, bounds.1) in
    ap (λ n. answer_in tag (take n (held_for frames tag).status)) left ∙ ap (answer_in tag) is ∙ answer_in-text tag answer most

-- THE NEWS OF A RESPONSE

response-len : (tag : ℕ) (code : ResponseCode) → length (answer_text tag (WithResponse code)) ≡ 8
unfolding unit_text
response-len tag code = refl

response_in-text : (tag : ℕ) (code : ResponseCode) → tag ≤ STREAMS
    → answer_in tag (answer_text tag (WithResponse code)) ≡ Some (Responded (response_number code))
response_in-text tag code most =
    let unit = ResponseUnit tag (response_number code) in
    let fits : FitsUnit (ResponseUnit tag (response_number code)) = omega (arith, most) in
    let same : (tag == tag) ≡ true = eq-eqb tag tag refl in
    sym (answer_by-text tag unit fits (first_fault-unit_text unit fits)) ∙ ap (λ b. if b then Some (Responded (response_number code)) else None) same

-- of the last slot: 8 bytes, of which the last tells the code
pub response_notice-is : (tags : ℕ) (frames : List TagBuffers) (slot tag : ℕ) (code : ResponseCode) → slot ≡ (task_slot tags) → tag ≤ STREAMS
    → take (length (answer_text tag (WithResponse code))) (held_for frames tag).status ≡ answer_text tag (WithResponse code)
    → notice_on Status frames (STATUS_BYTES - unit_len tags slot (held_for frames tag).status) SHORT_PACKET tag ≡ Some (Responded (response_number code))
response_notice-is tags frames slot tag code last most is =
    let len : unit_len tags slot (held_for frames tag).status ≡ 8 =
    ap (λ b. if b then 8 else 16 + slice_index (held_for frames tag).status 15) (eq-eqb slot (task_slot tags) last) in
    let left : STATUS_BYTES - (STATUS_BYTES - unit_len tags slot (held_for frames tag).status) ≡ length (answer_text tag (WithResponse code)) =
    omega (arith, len, response-len tag code) in
    ap (λ n. answer_in tag (take n (held_for frames tag).status)) left ∙ ap (answer_in tag) is ∙ response_in-text tag code most
