-- A cell that fits an entry tells it: its answer, its phase, its TDs and its bytes are read back.
use Rattle.std.proofs.Common.{◌≡◌, ℕ, ◌+◌, ◌-◌, ◌<◌, true, List, [], length, take, Option, Some, None}
use Rattle.std.proofs.Common.{option_map, IfSome, refl, arith, ap, sym, ◌∙◌}
use Rattle.std.specs.Prelude.{slice_index, is_some, unwrap_or}
use Rattle.std.proofs.lemmas.List.{get_or-take}
use Rattle.std.proofs.lemmas.Bool.{ltb-true}
use Rattle.xhci_trb.specs.declared.Trb.{Trb}
use Rattle.cycle_ring.specs.Items.{ItemRing}
use Rattle.uas_profile.specs.declared.Direction.{Direction}
use Rattle.uas_profile.specs.declared.Direction.TheVariants.{Nothing, ToHost, ToDevice}
use Rattle.scsi_cmd.specs.declared.Request.{Request}
use Rattle.scsi_cmd.specs.declared.Request.TheVariants.{Execute, Manage}
use Rattle.device_server.specs.declared.Answer.TheVariants.{Good, Check}
use Rattle.solo_model.specs.declared.ResponseCode.TheVariants.{Complete, Succeeded}
use Rattle.solo_model.specs.declared.TaskAnswer.{TaskAnswer}
use Rattle.solo_model.specs.declared.TaskAnswer.TheVariants.{WithStatus, WithResponse}
use Rattle.solo_model.specs.declared.TaskProgress.TheVariants.{Moving, Ended}
use Rattle.solo_model.specs.declared.Phase.{Phase}
use Rattle.solo_model.specs.declared.Phase.TheVariants.{Queued, Begun, Sent, Gone}
use Rattle.uas_iu.specs.Units.{unit_text}
use Rattle.uas_profile.specs.declared.Place.{Place}
use Rattle.uas_profile.specs.declared.TdState.{TdState}
use Rattle.uas_profile.specs.declared.TdState.TheVariants.{Pending, Seen, LeftOver, Retired}
use Rattle.uas_profile.specs.Tags.{tag_of}
use Rattle.uas_host.specs.Tds.{data_td, data_trb_count, status_td, window_of}
use Rattle.shared_machine.specs.declared.Td.{Td}
use Rattle.shared_machine.specs.Td.{Entry, data_trbs as trbs_of}
use Rattle.shared_machine.specs.Shared.{request_direction}
use Rattle.bus_core.specs.Wire.{answer_text}
use Rattle.bus_core.specs.Hosts.{phase_task, device_task, told_answer, phase_by, phase_received, HasTaken}
use Rattle.machine_invariant.specs.Matched.{request_bytes, IsCommandTd}
use Rattle.machine_invariant.specs.Matched.{IsAwaitedOrSeen, IsGivenUp, IsPhaseOf, IsStatusTd, IsMatchedEntry}
use Rattle.bus_core.specs.World.{Cell}
use Rattle.bus_core.specs.Cells.{state_of, host_side, HoldsIn, HoldsTd, HoldsData, data_in_td, data_out_td, HasAnswerIn, HasNoBytes, lent_for, FitsCell}
use Rattle.bus_core.specs.Cells.{FitsHeld}
use Rattle.bus_core.specs.Decoded.{consumed_in, decoded_td}
use Rattle.bus_core.specs.Decoded.{data_ring}
use Rattle.bus_core.specs.Decoded.{decoded_held, decoded_cell}
use Rattle.bus_core.proofs.common.DataTrbs.{length-data_trbs}
use Rattle.bus_core.proofs.common.EventTds.{data_trbs-count, moved-goes}

-- THE PHASE

-- a byte of the answer is the byte of the buffer
byte-is : (bytes text : List ℕ) (at : ℕ) → take (length text) bytes ≡ text → at < length text → slice_index bytes at ≡ slice_index text at
byte-is bytes text at is within = sym (get_or-take (length text) bytes at 0 within) ∙ ap (λ l. slice_index l at) is

-- a buffer that begins with an answer tells it: a Sense unit in its status and sense, a Response unit in its code
pub told_answer-begins : (tag : ℕ) (answer : TaskAnswer) (bytes : List ℕ) → take (length (answer_text tag answer)) bytes ≡ answer_text tag answer
    → told_answer bytes ≡ answer
unfolding unit_text
told_answer-begins tag (WithStatus Good) bytes is =
    let identifier : slice_index bytes 0 ≡ 3 = byte-is bytes (answer_text tag (WithStatus Good)) 0 is (omega arith) in
    let status : slice_index bytes 6 ≡ 0 = byte-is bytes (answer_text tag (WithStatus Good)) 6 is (omega arith) in
    rw (identifier, status) refl
told_answer-begins tag (WithStatus (Check sense)) bytes is =
    let identifier : slice_index bytes 0 ≡ 3 = byte-is bytes (answer_text tag (WithStatus (Check sense))) 0 is (omega arith) in
    let status : slice_index bytes 6 ≡ 2 = byte-is bytes (answer_text tag (WithStatus (Check sense))) 6 is (omega arith) in
    let key : slice_index bytes 18 ≡ sense.key = byte-is bytes (answer_text tag (WithStatus (Check sense))) 18 is (omega arith) in
    let asc : slice_index bytes 28 ≡ sense.asc = byte-is bytes (answer_text tag (WithStatus (Check sense))) 28 is (omega arith) in
    let ascq : slice_index bytes 29 ≡ sense.ascq = byte-is bytes (answer_text tag (WithStatus (Check sense))) 29 is (omega arith) in
    rw (identifier, status, key, asc, ascq) refl
told_answer-begins tag (WithResponse Complete) bytes is =
    let identifier : slice_index bytes 0 ≡ 4 = byte-is bytes (answer_text tag (WithResponse Complete)) 0 is (omega arith) in
    let code : slice_index bytes 7 ≡ 0 = byte-is bytes (answer_text tag (WithResponse Complete)) 7 is (omega arith) in
    rw (identifier, code) refl
told_answer-begins tag (WithResponse Succeeded) bytes is =
    let identifier : slice_index bytes 0 ≡ 4 = byte-is bytes (answer_text tag (WithResponse Succeeded)) 0 is (omega arith) in
    let code : slice_index bytes 7 ≡ 8 = byte-is bytes (answer_text tag (WithResponse Succeeded)) 7 is (omega arith) in
    rw (identifier, code) refl

-- the device has received a request where its command TD's TRB was taken
phase-taken : (phase : Phase) (td : Td) → IsCommandTd phase td → HasTaken phase td.consumed
phase-taken Queued td is = ap (λ (t : Td). t.consumed) is
phase-taken (Begun (Moving chunk)) td is = is
phase-taken (Begun (Ended answer)) td is = is
phase-taken (Sent answer) td is = is
phase-taken Gone td is = is

-- an answer whose status TD's TRB was taken was sent
received-sent : (consumed : ℕ) (state : TdState) (bytes : List ℕ) → consumed ≡ 1 → IsAwaitedOrSeen state
    → phase_received consumed state bytes ≡ Sent (told_answer bytes)
received-sent consumed Pending bytes taken awaited = rw taken refl
received-sent consumed Seen bytes taken awaited = refl
received-sent consumed LeftOver bytes taken awaited = absurd awaited
received-sent consumed Retired bytes taken awaited = absurd awaited

-- what has neither a task nor an answer is gone
received-gone : (consumed : ℕ) (state : TdState) (bytes : List ℕ) → IsGivenUp consumed state → phase_received consumed state bytes ≡ Gone
received-gone consumed Pending bytes given_up = rw given_up refl
received-gone consumed Seen bytes given_up = absurd given_up
received-gone consumed LeftOver bytes given_up = refl
received-gone consumed Retired bytes given_up = refl

-- device, command TD, status TD and status buffer tell the phase together
phase_by-back : (client tag taken : ℕ) (request : Request) (phase : Phase) (status : Td) (bytes : List ℕ) → IsPhaseOf request phase → HasTaken phase taken
    → IsStatusTd phase status → HasAnswerIn phase tag bytes → phase_by (phase_task (Some client) request phase) taken status bytes ≡ phase
phase_by-back client tag taken request Queued status bytes answers is sends told = rw is refl
phase_by-back client tag taken (Execute op) (Begun (Moving chunk)) status bytes answers is sends told = refl
phase_by-back client tag taken (Manage what noted) (Begun (Moving chunk)) status bytes answers is sends told = absurd answers
phase_by-back client tag taken request (Begun (Ended (WithStatus answer))) status bytes answers is sends told = refl
phase_by-back client tag taken request (Begun (Ended (WithResponse Complete))) status bytes answers is sends told = refl
phase_by-back client tag taken request (Begun (Ended (WithResponse Succeeded))) status bytes answers is sends told = refl
phase_by-back client tag taken request (Sent answer) status bytes answers is sends told =
    rw is (received-sent status.consumed status.state bytes sends.0 sends.1 ∙ ap Sent (told_answer-begins tag answer bytes told))
phase_by-back client tag taken request Gone status bytes answers is sends told = rw is (received-gone status.consumed status.state bytes sends)

-- a command's bytes are those that it lends, and a task management has none
lent-back : (request : Request) (buffer : List ℕ) → HasNoBytes request buffer → unwrap_or (lent_for request buffer) [] ≡ buffer
lent-back (Execute op) buffer none = refl
lent-back (Manage what noted) buffer none = sym none

-- A STREAM'S TD

consumed_in-back : (state : TdState) (ring : ItemRing) (trbs : List Trb) (taken n : ℕ) → length trbs ≡ n → HoldsIn ring trbs taken state
    → consumed_in state n ring ≡ taken
consumed_in-back Pending ring trbs taken n long holds = holds.1
consumed_in-back Seen ring trbs taken n long holds = omega (arith, long, holds.1)
consumed_in-back LeftOver ring trbs taken n long holds = holds.1
consumed_in-back Retired ring trbs taken n long holds = omega (arith, long, holds.1)

decoded_td-back : (ring : ItemRing) (trbs : List Trb) (td : Td) (n : ℕ) → length trbs ≡ n → HoldsTd ring trbs td → decoded_td n ring td.state ≡ td
decoded_td-back ring trbs td n long holds =
    ap (λ (c : ℕ). record { state = td.state; consumed = c }) (consumed_in-back td.state ring trbs td.consumed n long holds)

decoded_data-back : (ring : ItemRing) (trbs : List Trb) (td : Option Td) (n : ℕ) → length trbs ≡ n → HoldsData ring trbs td
    → option_map (decoded_td n ring) (option_map state_of td) ≡ td
decoded_data-back ring trbs None n long holds = refl
decoded_data-back ring trbs (Some td) n long holds = ap Some (decoded_td-back ring trbs td n long holds)

-- on the ring of its direction, which it has
decoded_way-back : (way : Direction) (cell : Cell) (trbs : List Trb) (td : Option Td) (n : ℕ) → length trbs ≡ n → (is_some td ≡ true → way ≡ Nothing → ⊥)
    → HoldsData cell.data_in trbs (data_in_td way td) → HoldsData cell.data_out trbs (data_out_td way td)
    → option_map (decoded_td n (data_ring way cell)) (option_map state_of td) ≡ td
decoded_way-back Nothing cell trbs None n long goes on_in on_out = refl
decoded_way-back Nothing cell trbs (Some td) n long goes on_in on_out = absurd (goes refl refl)
decoded_way-back ToHost cell trbs td n long goes on_in on_out = decoded_data-back cell.data_in trbs td n long on_in
decoded_way-back ToDevice cell trbs td n long goes on_in on_out = decoded_data-back cell.data_out trbs td n long on_out

length-data_td : (tag : ℕ) (request : Request) → length (data_td tag (request_bytes request)) ≡ trbs_of request
length-data_td tag request =
    length-data_trbs (data_trb_count (request_bytes request)) (window_of tag) (request_bytes request) ∙ sym (data_trbs-count request)

-- ONE CELL

-- by the number of its messages, of which a command TD has one less the TRBs that were taken
decoded_held-back : (tags : ℕ) (client count waiting : ℕ) (place : Place) (entry : Entry) (cell : Cell) → FitsCell tags client count place entry cell
    → IsMatchedEntry tags place.slot entry
    → entry.command_td.consumed + waiting ≡ 1 → decoded_held waiting cell (host_side entry) ≡ entry
decoded_held-back tags client count waiting place entry cell fits matched counted =
    let command : 1 - waiting ≡ entry.command_td.consumed = omega (arith, counted) in
    let status : decoded_td 1 cell.status entry.status_td.state ≡ entry.status_td =
    decoded_td-back cell.status (status_td (tag_of tags place)) entry.status_td 1 refl fits.status in
    let phase : phase_by cell.task (1 - waiting) (decoded_td 1 cell.status entry.status_td.state) cell.buffers.status ≡ entry.task.phase =
    ap (λ t. phase_by t (1 - waiting) (decoded_td 1 cell.status entry.status_td.state) cell.buffers.status) fits.task
    ∙ ap (λ n. phase_by (device_task client entry) n (decoded_td 1 cell.status entry.status_td.state) cell.buffers.status) command
    ∙ ap (λ td. phase_by (device_task client entry) entry.command_td.consumed td cell.buffers.status) status
    ∙ phase_by-back client (tag_of tags place) entry.command_td.consumed entry.task.request entry.task.phase entry.status_td cell.buffers.status
    matched.answers (phase-taken entry.task.phase entry.command_td matched.command) matched.status fits.answer in
    let buffer : unwrap_or cell.buffers.lent [] ≡ entry.task.buffer =
    ap (λ o. unwrap_or o []) fits.lent ∙ lent-back entry.task.request entry.task.buffer fits.bytes in
    let moved : option_map (decoded_td (trbs_of entry.task.request) (data_ring (request_direction entry.task.request) cell))
    (option_map state_of entry.data_td) ≡ entry.data_td =
    decoded_way-back (request_direction entry.task.request) cell (data_td (tag_of tags place) (request_bytes entry.task.request)) entry.data_td
    (trbs_of entry.task.request) (length-data_td (tag_of tags place) entry.task.request)
    (λ there. moved-goes entry.task.request (ltb-true 0 (request_bytes entry.task.request) (sym matched.moves ∙ there)))
    fits.data_in fits.data_out in
    (λ i. record {
      task = record { ticket = entry.task.ticket; request = entry.task.request; buffer = buffer i; phase = phase i };
      command_td = record { state = entry.command_td.state; consumed = command i };
      status_td = status i;
      data_td = moved i;
    })

pub decoded_cell-back : (tags : ℕ) (client count waiting : ℕ) (place : Place) (held : Option Entry) (cell : Cell) → FitsHeld tags client count place held cell
    → IfSome held (IsMatchedEntry tags place.slot) → IfSome held (λ entry. entry.command_td.consumed + waiting ≡ 1) → decoded_cell cell waiting ≡ held
decoded_cell-back tags client count waiting place None cell fits matched counted = ap (option_map (decoded_held waiting cell)) fits.held
decoded_cell-back tags client count waiting place (Some entry) cell fits matched counted =
    ap (option_map (decoded_held waiting cell)) fits.held ∙ ap Some (decoded_held-back tags client count waiting place entry cell fits matched counted)
