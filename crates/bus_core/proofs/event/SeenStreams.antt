-- The host sees an event of a stream, status or data, and the world after it fits. Cited by the step that takes an event.
use Rattle.std.proofs.Common.{◌≡◌, ℕ, ◌<◌, true, false, cond, List, [], ◌∷◌, length, Option, Some, None, refl, arith, ap, sym, subst, ◌∙◌}
use Rattle.std.specs.Prelude.{slice_get}
use Rattle.std.proofs.lemmas.Bool.{false≢true}
use Rattle.xhci_trb.specs.declared.Trb.{Trb}
use Rattle.cycle_ring.specs.Items.{ItemRing}
use Rattle.event_ring.specs.declared.Event.{Event}
use Rattle.uas_profile.specs.declared.Pipe.{Pipe}
use Rattle.uas_profile.specs.declared.Pipe.TheVariants.{Command, Status, DataIn, DataOut}
use Rattle.stream_array.specs.Rings.{LinesState, stream_ring, with_ring}
use Rattle.uas_profile.specs.declared.Direction.{Direction}
use Rattle.uas_profile.specs.declared.Direction.TheVariants.{Nothing, ToHost, ToDevice}
use Rattle.device_server.specs.declared.Answer.{Answer}
use Rattle.solo_model.specs.declared.TaskAnswer.{TaskAnswer}
use Rattle.solo_model.specs.declared.TaskAnswer.TheVariants.{WithStatus, WithResponse}
use Rattle.solo_model.specs.declared.Phase.{Phase}
use Rattle.solo_model.specs.declared.Phase.TheVariants.{Sent}
use Rattle.uas_host.specs.declared.Handled.TheVariants.{Matched}
use Rattle.uas_profile.specs.declared.Place.{Place}
use Rattle.uas_profile.specs.Tags.{tag_of}
use Rattle.uas_host.specs.Tds.{data_td, data_trb_count, window_of}
use Rattle.uas_host.specs.Notices.{Notice, DataInSeen, DataOutSeen}
use Rattle.uas_host.specs.Events.{completes, event_doors, freed_on, handled, notice_of, seen, with_freed}
use Rattle.uas_profile.specs.declared.TheConstants.{SUCCESS}
use Rattle.shared_machine.specs.declared.Td.{Td}
use Rattle.shared_machine.specs.declared.Completion.{Completion}
use Rattle.shared_machine.specs.declared.Completion.TheVariants.{DataDone, StatusDone}
use Rattle.shared_machine.specs.Bus.{IsPlace}
use Rattle.shared_machine.specs.Td.{Entry, data_after_status, data_trbs, is_awaited, is_td_left_over, with_event_seen}
use Rattle.shared_machine.specs.Part.{seen_data_td, after_answer}
use Rattle.shared_machine.specs.Shared.{Shared, request_direction}
use Rattle.machine_invariant.specs.Matched.{awaits_data, request_bytes, IsCommandPhase, IsPhaseOf, IsRequestIn}
use Rattle.bus_core.specs.World.{World, cell_at}
use Rattle.bus_core.specs.Cells.{HasAnswerIn, HoldsData, HoldsTd, HoldsTrbs, data_in_td, data_out_td, host_side}
use Rattle.bus_core.specs.Fits.{Fits, FitsQueues, event_texts}
use Rattle.bus_core.specs.WorldSteps.{EventFits, event_sides, without_event}
use Rattle.bus_core.proofs.common.CellWrites.{clients-length, stream_ring-other}
use Rattle.bus_core.proofs.common.DataTrbs.{length-data_trbs}
use Rattle.bus_core.proofs.common.EventTds.{HasCell, IsDataText, IsSpent, IsStreamText, IsSpentBy, cell-data_spent, cell-status_spent, data_text, data_text-is}
use Rattle.bus_core.proofs.common.EventTds.{data_trbs-count, status_text, status_text-is}
use Rattle.bus_core.proofs.common.Framing.{EndsStay}
use Rattle.bus_core.proofs.event.HostSees.{data_in_seen-side, data_out_seen-side, host_with, status_notice-is, status_seen, status_seen-side}
use Rattle.machine_invariant.proofs.MatchedBounds.{matched-once}
use Rattle.machine_invariant.proofs.MatchedSteps.{seen_state}
use Rattle.machine_invariant.proofs.MatchedEntries.{awaited-pends, awaited-spent}
use Rattle.machine_invariant.proofs.MatchedEnds.{IsSentBy}
use Rattle.bus_core.proofs.event.SeenWorlds.{FreesOne, IsSeenAt, event-fits, handled-is, left-on, seen-at, seen_world}
use Rattle.scsi_cmd.specs.declared.Op.{Op}
use Rattle.scsi_cmd.specs.declared.Request.{Request}
use Rattle.scsi_cmd.specs.declared.Request.TheVariants.{Execute, Manage}
use Rattle.bus_core.proofs.event.SeenRings.{awaited-sent, data-alone, freed-holds, freed_ring, pending-stays, status-alone, status-ends, status-frees}
use Rattle.bus_core.proofs.event.SeenRings.{status_lines, stream-queues}
use Rattle.bus_core.proofs.event.SeenResponses.{response-fits}
pub use Rattle.bus_core.proofs.event.SeenRings.{HasEventFit, event-done}
use Rattle.uas_profile.specs.Tags.{task_slot}

-- STATUS

-- a command is answered by a status
record IsStatusSent (phase : Phase) : Type 0 where
  answer : Answer
  is : phase ≡ Sent (WithStatus answer)

command-status_sent : (phase : Phase) (answer : TaskAnswer) → phase ≡ Sent answer → IsCommandPhase phase → IsStatusSent phase
command-status_sent phase (WithStatus answer) sent answers = record { answer = answer; is = sent }
command-status_sent phase (WithResponse code) sent answers = absurd (subst IsCommandPhase sent answers)

-- the Sense unit of a command
command-status : (state : Shared) (world : World) (place : Place) (rest : List Completion) (at : IsSeenAt state world (StatusDone place) rest) (op : Op)
    → at.entry.task.request ≡ Execute op → Fits state world → EventFits state world (status_text state.tags world place) (StatusDone place)
command-status state world place rest at op asks fits =
    let tag : ℕ = tag_of state.tags place in
    let cell : HasCell state.tags world place at.entry = record { count = at.part.unit.count; tag = at.most; fits = at.cell } in
    let spent : IsSpent (stream_ring world.lines.status tag) = cell-status_spent state.tags world place at.entry cell at.awaits in
    let text = status_text-is state.tags world place at.entry fits.sound.lines cell at.awaits in
    let handed : IsSentBy at.entry.task.phase = awaited-sent at.entry.task.phase at.entry.status_td at.matched.status at.awaits in
    let answered : IsStatusSent at.entry.task.phase =
    command-status_sent at.entry.task.phase handed.answer handed.is (subst (λ r. IsPhaseOf r at.entry.task.phase) asks at.matched.answers) in
    let answer : Answer = answered.answer in
    let less : place.slot < (task_slot state.tags) = subst (IsRequestIn state.tags place.slot) asks at.matched.asks in
    let holds_answer = subst (λ p. HasAnswerIn p tag (cell_at state.tags world place).buffers.status) answered.is at.cell.answer in
    let frees : FreesOne state.tags world (status_lines world tag) place (status_seen at.entry) = status-frees state world place rest at (WithStatus answer) fits answered.is spent in
    let there : IsPlace state.tags (length world.host.clients) place =
    subst (λ n. IsPlace state.tags n place) (sym (clients-length state.tags world state.parts fits.clients)) at.is_place in
    let does = ap (handled (event_sides world) world.frames) text.is
    ∙ handled-is state.tags world place at.entry (status_seen at.entry) Status text.pointer _ _ _ refl fits.tags there at.cell.held text.ended
    (status_notice-is state.tags world.frames place.slot tag answer less at.most holds_answer) (status_seen-side at.entry op answer asks answered.is
    (awaited-pends at.entry.status_td 1 at.awaits))
    ∙ ap (λ item. (
      record { host = host_with world.host place (status_seen at.entry); lines = with_freed (without_event world.lines) Status tag item },
      Matched tag,
    )) text.item in
    event-done state world (status_text state.tags world place) (StatusDone place) rest (status_lines world tag) (status_seen at.entry) at.is refl
    (ap (event_doors (event_sides world)) text.is) does
    (event-fits state world (StatusDone place) rest (status_lines world tag) at at.entry.command_td (with_event_seen at.entry.status_td)
    (data_after_status at.entry.task.phase at.entry.data_td) fits refl (λ entries. ap (λ r. after_answer r entries) asks)
    (ap (λ b. cond b (Some (status_seen at.entry)) None) at.awaits) frees
    (status-ends state world place rest at)
    (stream-queues state world (StatusDone place) rest (status_lines world tag) (status_seen at.entry) at fits refl refl refl refl frees
    (λ some. (refl, refl)) (λ some. absurd (status-alone state place rest at.is (matched-once state fits.matched place).status_events some))))

-- or the Response unit of a task management
status-by : (state : Shared) (world : World) (place : Place) (rest : List Completion) (at : IsSeenAt state world (StatusDone place) rest) (request : Request)
    → at.entry.task.request ≡ request → Fits state world → EventFits state world (status_text state.tags world place) (StatusDone place)
status-by state world place rest at (Execute op) asks fits = command-status state world place rest at op asks fits
status-by state world place rest at (Manage what noted) asks fits = response-fits state world place rest at what noted asks fits

pub status-fits : (state : Shared) (world : World) (place : Place) (rest : List Completion) → Fits state world → state.events ≡ StatusDone place ∷ rest
    → HasEventFit state world (StatusDone place)
status-fits state world place rest fits is =
    let at : IsSeenAt state world (StatusDone place) rest = seen-at state world (StatusDone place) rest fits is refl in (
      status_text state.tags world place,
      ap (λ (es : List Event). slice_get es 0) (fits.queues.texts ∙ ap (event_texts state.tags world 0) is),
      status-by state world place rest at at.entry.task.request refl fits,
    )

-- DATA

-- the entry once its data event was seen
abbrev data_seen : Entry → Td → Entry
data_seen entry td = record entry { data_td = Some (with_event_seen td) }

-- a data event that waits is of a data TD
record HasDataTd (entry : Entry) : Type 0 where
  td : Td
  is : entry.data_td ≡ Some td
  awaited : is_awaited td (data_trbs entry.task.request) ≡ true

has-data_td : (entry : Entry) (td : Option Td) → entry.data_td ≡ td → awaits_data (data_trbs entry.task.request) td ≡ true → HasDataTd entry
has-data_td entry None is awaits = absurd (false≢true awaits)
has-data_td entry (Some td) is awaits = record { td = td; is = is; awaited = awaits }

-- the rings once the data TD is freed
abbrev in_lines : World → ℕ → LinesState
in_lines world tag = with_ring (without_event world.lines) DataIn tag (freed_ring world.lines.data_in tag)

abbrev out_lines : World → ℕ → LinesState
out_lines world tag = with_ring (without_event world.lines) DataOut tag (freed_ring world.lines.data_out tag)

-- a data TD that was seen
data-holds : (ring : ItemRing) (tag : ℕ) (entry : Entry) (moved : HasDataTd entry) → HoldsTrbs ring [] 0
    → HoldsTd ring (data_td tag (request_bytes entry.task.request)) (with_event_seen moved.td)
data-holds ring tag entry moved free = (
  free,
  awaited-spent moved.td (data_trbs entry.task.request) moved.awaited ∙ data_trbs-count entry.task.request
      ∙ sym (length-data_trbs (data_trb_count (request_bytes entry.task.request)) (window_of tag) (request_bytes entry.task.request)),
)

in-frees : (state : Shared) (world : World) (place : Place) (rest : List Completion) (at : IsSeenAt state world (DataDone place) rest)
    (moved : HasDataTd at.entry) → Fits state world
    → request_direction at.entry.task.request ≡ ToHost → IsSpent (stream_ring world.lines.data_in (tag_of state.tags place))
    → FreesOne state.tags world (in_lines world (tag_of state.tags place)) place (data_seen at.entry moved.td)
in-frees state world place rest at moved fits way spent =
    let tag : ℕ = tag_of state.tags place in
    let trbs : List Trb = data_td tag (request_bytes at.entry.task.request) in
    record {
      engine = refl;
      status_others = λ tag some apart. refl;
      data_in_others = λ tag some apart. stream_ring-other world.lines.data_in (tag_of state.tags place) tag (freed_ring world.lines.data_in (tag_of state.tags place))
          (omega arith) some apart;
      data_out_others = λ tag some apart. refl;
      status = at.cell.status;
      data_in = subst (λ w. HoldsData (stream_ring (in_lines world (tag_of state.tags place)).data_in (tag_of state.tags place))
          (data_td (tag_of state.tags place) (request_bytes at.entry.task.request))
          (data_in_td w (Some (with_event_seen moved.td)))) (sym way)
          (data-holds (stream_ring (in_lines world (tag_of state.tags place)).data_in (tag_of state.tags place)) (tag_of state.tags place) at.entry moved
          (freed-holds world.lines.data_in (tag_of state.tags place) (omega arith) (omega (arith, at.most, fits.sound.lines.data_in)) spent));
      data_out = subst (λ w. HoldsData (cell_at state.tags world place).data_out (data_td (tag_of state.tags place) (request_bytes at.entry.task.request))
          (data_out_td w (Some (with_event_seen moved.td)))) (sym way)
          (subst (λ w. HoldsData (cell_at state.tags world place).data_out (data_td (tag_of state.tags place) (request_bytes at.entry.task.request))
          (data_out_td w at.entry.data_td)) way at.cell.data_out);
    }

out-frees : (state : Shared) (world : World) (place : Place) (rest : List Completion) (at : IsSeenAt state world (DataDone place) rest)
    (moved : HasDataTd at.entry) → Fits state world
    → request_direction at.entry.task.request ≡ ToDevice → IsSpent (stream_ring world.lines.data_out (tag_of state.tags place))
    → FreesOne state.tags world (out_lines world (tag_of state.tags place)) place (data_seen at.entry moved.td)
out-frees state world place rest at moved fits way spent = record {
  engine = refl;
  status_others = λ tag some apart. refl;
  data_in_others = λ tag some apart. refl;
  data_out_others = λ tag some apart. stream_ring-other world.lines.data_out (tag_of state.tags place) tag (freed_ring world.lines.data_out (tag_of state.tags place))
      (omega arith) some apart;
  status = at.cell.status;
  data_in = subst (λ w. HoldsData (cell_at state.tags world place).data_in (data_td (tag_of state.tags place) (request_bytes at.entry.task.request))
      (data_in_td w (Some (with_event_seen moved.td)))) (sym way)
      (subst (λ w. HoldsData (cell_at state.tags world place).data_in (data_td (tag_of state.tags place) (request_bytes at.entry.task.request))
      (data_in_td w at.entry.data_td)) way at.cell.data_in);
  data_out = subst (λ w. HoldsData (stream_ring (out_lines world (tag_of state.tags place)).data_out (tag_of state.tags place))
      (data_td (tag_of state.tags place) (request_bytes at.entry.task.request))
      (data_out_td w (Some (with_event_seen moved.td)))) (sym way)
      (data-holds (stream_ring (out_lines world (tag_of state.tags place)).data_out (tag_of state.tags place)) (tag_of state.tags place) at.entry moved
      (freed-holds world.lines.data_out (tag_of state.tags place) (omega arith) (omega (arith, at.most, fits.sound.lines.data_out)) spent));
}

-- the TD that was seen isn't left over
moved-stays : (entry : Entry) (moved : HasDataTd entry) → is_td_left_over entry.data_td ≡ true → ⊥
moved-stays entry moved left =
    pending-stays moved.td.state (awaited-pends moved.td (data_trbs entry.task.request) moved.awaited) (sym (ap is_td_left_over moved.is) ∙ left)

in-ends : (state : Shared) (world : World) (place : Place) (rest : List Completion) (at : IsSeenAt state world (DataDone place) rest)
    (moved : HasDataTd at.entry) → request_direction at.entry.task.request ≡ ToHost
    → EndsStay state world (seen_world world (in_lines world (tag_of state.tags place)) place (data_seen at.entry moved.td)) place
in-ends state world place rest at moved way Command streams left = absurd streams
in-ends state world place rest at moved way Status streams left = record { base = refl; at = refl; put = refl }
in-ends state world place rest at moved way DataIn streams left =
    absurd (moved-stays at.entry moved
    (ap (λ w. is_td_left_over (data_in_td w at.entry.data_td)) (sym way) ∙ left-on state world (DataDone place) rest at DataIn left))
in-ends state world place rest at moved way DataOut streams left = record { base = refl; at = refl; put = refl }

out-ends : (state : Shared) (world : World) (place : Place) (rest : List Completion) (at : IsSeenAt state world (DataDone place) rest)
    (moved : HasDataTd at.entry) → request_direction at.entry.task.request ≡ ToDevice
    → EndsStay state world (seen_world world (out_lines world (tag_of state.tags place)) place (data_seen at.entry moved.td)) place
out-ends state world place rest at moved way Command streams left = absurd streams
out-ends state world place rest at moved way Status streams left = record { base = refl; at = refl; put = refl }
out-ends state world place rest at moved way DataIn streams left = record { base = refl; at = refl; put = refl }
out-ends state world place rest at moved way DataOut streams left =
    absurd (moved-stays at.entry moved
    (ap (λ w. is_td_left_over (data_out_td w at.entry.data_td)) (sym way) ∙ left-on state world (DataDone place) rest at DataOut left))

seen-data : (entry : Entry) (moved : HasDataTd entry) → seen_data_td entry entry.data_td ≡ Some (data_seen entry moved.td)
seen-data entry moved = ap (seen_data_td entry) moved.is ∙ ap (λ b. cond b (Some (data_seen entry moved.td)) None) moved.awaited

-- the host's clients are as many as the parts
host-there : (state : Shared) (world : World) (place : Place) → Fits state world → IsPlace state.tags (length state.parts) place
    → IsPlace state.tags (length world.host.clients) place
host-there state world place fits there = subst (λ n. IsPlace state.tags n place) (sym (clients-length state.tags world state.parts fits.clients)) there

-- by the pipe on which it was
data-on : (state : Shared) (world : World) (place : Place) (rest : List Completion) (at : IsSeenAt state world (DataDone place) rest)
    (moved : HasDataTd at.entry) (pipe : Pipe) (notice : Notice) (lines : LinesState) → Fits state world
    → (text : IsStreamText world.lines (data_text state.tags world place) 0 SUCCESS pipe (tag_of state.tags place))
    → completes notice ≡ false → notice_of world.frames 0 SUCCESS (record { pipe = pipe; tag = tag_of state.tags place }) ≡ Some notice
    → seen notice (host_side at.entry) ≡ Some (host_side (data_seen at.entry moved.td))
    → freed_on pipe (host_with world.host place (data_seen at.entry moved.td)) (without_event world.lines) (tag_of state.tags place) text.pointer ≡ lines
    → FreesOne state.tags world lines place (data_seen at.entry moved.td)
    → EndsStay state world (seen_world world lines place (data_seen at.entry moved.td)) place
    → FitsQueues (seen_state state place at.part (data_seen at.entry moved.td) rest) (seen_world world lines place (data_seen at.entry moved.td))
    → EventFits state world (data_text state.tags world place) (DataDone place)
data-on state world place rest at moved pipe notice lines fits text quiet tells sees lines_is frees ends queues =
    let now : Entry = data_seen at.entry moved.td in
    let does = ap (handled (event_sides world) world.frames) text.is
    ∙ handled-is state.tags world place at.entry (data_seen at.entry moved.td) pipe text.pointer 0 SUCCESS notice quiet fits.tags
    (host-there state world place fits at.is_place) at.cell.held text.ended tells sees
    ∙ ap (λ ls. (record { host = host_with world.host place (data_seen at.entry moved.td); lines = ls }, Matched (tag_of state.tags place))) lines_is in
    event-done state world (data_text state.tags world place) (DataDone place) rest lines now at.is refl
    (ap (event_doors (event_sides world)) text.is) does
    (event-fits state world (DataDone place) rest lines at at.entry.command_td at.entry.status_td
    (Some (with_event_seen moved.td)) fits refl (λ entries. refl) (seen-data at.entry moved) frees ends queues)

data-by : (state : Shared) (world : World) (place : Place) (rest : List Completion) (way : Direction) (at : IsSeenAt state world (DataDone place) rest)
    (moved : HasDataTd at.entry)
    → Fits state world → request_direction at.entry.task.request ≡ way → IsDataText state.tags way world place → IsSpentBy state.tags way world place
    → EventFits state world (data_text state.tags world place) (DataDone place)
data-by state world place rest Nothing at moved fits way text spent = absurd text
data-by state world place rest ToHost at moved fits way text spent =
    let tag : ℕ = tag_of state.tags place in
    let frees : FreesOne state.tags world (in_lines world tag) place (data_seen at.entry moved.td) = in-frees state world place rest at moved fits way spent in
    data-on state world place rest at moved DataIn DataInSeen (in_lines world tag) fits text refl refl
    (data_in_seen-side at.entry moved.td moved.is (awaited-pends moved.td (data_trbs at.entry.task.request) moved.awaited) way)
    (ap (with_freed (without_event world.lines) DataIn tag) text.item) frees (in-ends state world place rest at moved way)
    (stream-queues state world (DataDone place) rest (in_lines world tag) (data_seen at.entry moved.td) at fits refl refl refl refl frees
    (λ some. absurd (data-alone state place rest at.is (matched-once state fits.matched place).data_events some)) (λ some. (refl, refl)))
data-by state world place rest ToDevice at moved fits way text spent =
    let tag : ℕ = tag_of state.tags place in
    let frees : FreesOne state.tags world (out_lines world tag) place (data_seen at.entry moved.td) = out-frees state world place rest at moved fits way spent.0 in
    data-on state world place rest at moved DataOut DataOutSeen (out_lines world tag) fits text refl refl
    (data_out_seen-side at.entry moved.td moved.is (awaited-pends moved.td (data_trbs at.entry.task.request) moved.awaited) way)
    (ap (with_freed (without_event world.lines) DataOut tag) text.item) frees (out-ends state world place rest at moved way)
    (stream-queues state world (DataDone place) rest (out_lines world tag) (data_seen at.entry moved.td) at fits refl refl refl refl frees
    (λ some. absurd (data-alone state place rest at.is (matched-once state fits.matched place).data_events some)) (λ some. (refl, refl)))

pub data-fits : (state : Shared) (world : World) (place : Place) (rest : List Completion) → Fits state world → state.events ≡ DataDone place ∷ rest
    → HasEventFit state world (DataDone place)
data-fits state world place rest fits is =
    let at : IsSeenAt state world (DataDone place) rest = seen-at state world (DataDone place) rest fits is refl in
    let cell : HasCell state.tags world place at.entry = record { count = at.part.unit.count; tag = at.most; fits = at.cell } in (
      data_text state.tags world place,
      ap (λ (es : List Event). slice_get es 0) (fits.queues.texts ∙ ap (event_texts state.tags world 0) is),
      data-by state world place rest (request_direction at.entry.task.request) at (has-data_td at.entry at.entry.data_td refl at.awaits) fits refl
          (data_text-is state.tags world place at.entry fits.sound.lines cell at.matched at.awaits) (cell-data_spent state.tags world place at.entry cell at.matched at.awaits),
    )
