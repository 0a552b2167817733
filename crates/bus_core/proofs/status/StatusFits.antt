-- A step of a status stream: the device hands over the answer to a request that has ended, the Sense unit of a command or the Response
-- unit of a task management. Cited by the law statuses_fit, by what is due, and by the steps of the bus.
use Rattle.std.proofs.Common.{◌≡◌, ℕ, ◌+◌, ◌-◌, ◌<◌, ◌≤◌, Bool, true, false, ◌&&◌, cond, List, [], ◌∷◌, ◌++◌, length, map, Option, Some, None}
use Rattle.std.proofs.Common.{refl, arith, ap, sym, subst, ◌∙◌}
use Rattle.std.specs.Prelude.{slice_get, option_and_then}
use Rattle.std.specs.Option.{option_map_or}
use Rattle.std.proofs.lemmas.Bool.{and_parts}
use Rattle.std.proofs.lemmas.List.{append-nil, get_or-set_same, get_or-set_other}
use Rattle.cycle_ring.specs.Ring.{pointer_of, opening}
use Rattle.cycle_ring.specs.Items.{ItemRing, known}
use Rattle.event_ring.specs.declared.Event.{Event}
use Rattle.event_ring.specs.declared.Event.TheVariants.{Transfer}
use Rattle.uas_profile.specs.declared.TheConstants.{STREAMS, STREAM_RING_PLACES, STATUS_BYTES, SLOT, SHORT_PACKET}
use Rattle.uas_profile.specs.declared.Pipe.TheVariants.{Command, Status, DataIn, DataOut}
use Rattle.stream_array.specs.Rings.{stream_ring}
use Rattle.frame_store.specs.Buffers.{held_for, no_buffers, with_held}
use Rattle.scsi_cmd.specs.Buffers.{with_bytes_at}
use Rattle.uas_profile.specs.declared.Direction.{Direction}
use Rattle.uas_profile.specs.declared.Direction.TheVariants.{Nothing, ToHost, ToDevice}
use Rattle.scsi_cmd.specs.Op.{direction_of, moved_bytes}
use Rattle.device_server.specs.Server.{chunk_bytes}
use Rattle.scsi_cmd.specs.declared.Request.{Request}
use Rattle.scsi_cmd.specs.declared.Request.TheVariants.{Execute, Manage}
use Rattle.scsi_cmd.specs.Held.{held_at}
use Rattle.solo_model.specs.declared.TaskAnswer.{TaskAnswer}
use Rattle.solo_model.specs.declared.TaskAnswer.TheVariants.{WithStatus, WithResponse}
use Rattle.solo_model.specs.declared.TaskProgress.TheVariants.{Moving, Ended}
use Rattle.solo_model.specs.declared.Phase.{Phase}
use Rattle.solo_model.specs.declared.Phase.TheVariants.{Queued, Begun, Sent, Gone}
use Rattle.solo_model.specs.Soundness.{IsSoundRequest}
use Rattle.uas_iu.specs.declared.Iu.{Iu}
use Rattle.uas_iu.specs.Units.{unit_text}
use Rattle.uas_target.specs.declared.DeviceTask.{DeviceTask}
use Rattle.uas_target.specs.declared.Phase.{Phase as Wants}
use Rattle.uas_target.specs.declared.Phase.TheVariants.{Absent, Gives, Takes, Ends}
use Rattle.uas_target.specs.Device.{answered, task_of, wanted, without_task}
use Rattle.uas_target.specs.Tasks.{wanted_way, task_answer, task_wants}
use Rattle.uas_profile.specs.declared.Place.{Place}
use Rattle.uas_profile.specs.Tags.{place_of, tag_of}
use Rattle.uas_host.specs.Tds.{status_td}
use Rattle.xhci_ctl.specs.declared.Acted.{Acted}
use Rattle.xhci_ctl.specs.declared.Acted.TheVariants.{Acted as ActedOn, Idle}
use Rattle.uas_profile.specs.PipeStates.{is_open}
use Rattle.xhci_ctl.specs.Pipes.{ControllerState, is_armed}
use Rattle.xhci_ctl.specs.Steps.{completed, endpoint_of, front_at, on_front, room_front, sent_as, sent_at, sent_by, Sides}
use Rattle.shared_machine.specs.declared.Completion.TheVariants.{StatusDone}
use Rattle.shared_machine.specs.declared.Step.TheVariants.{Status as StatusStep}
use Rattle.shared_machine.specs.Td.{Entry, has_trb, pushed, with_trb_taken}
use Rattle.bus_core.specs.Wire.{answer_text}
use Rattle.bus_core.specs.Hosts.{begun_task, device_task, phase_task}
use Rattle.shared_machine.specs.Part.{Part}
use Rattle.shared_machine.specs.Shared.{Shared, due, due_step, idle, is_ended, shared_step, status_is_due}
use Rattle.machine_invariant.specs.Matched.{carried_places, status_events, IsMatched, IsPhaseOf, IsRequestIn}
use Rattle.bus_core.specs.World.{World, Cell, cell_at, sides_in, with_sides}
use Rattle.bus_core.specs.Cells.{FitsCell, HoldsTd, HoldsTrbs, host_side, told_by, told_sent}
use Rattle.bus_core.specs.Fits.{command_item, event_texts, Fits, FitsQueues, IsSoundWorld, place_in, status_event, unit_len}
use Rattle.bus_core.specs.WorldSteps.{StatusesFit, StatusFits, StatusIsIdle, status_world}
use Rattle.bus_core.specs.WorldDue.{StatusesAreDue, status_due_by}
use Rattle.bus_core.proofs.common.ActFits.{IsPlaced, placed, IsActed, acted_state, acted-fits, place_of-tag, by-tag}
use Rattle.bus_core.proofs.carry.CommandFits.{event-room}
use Rattle.bus_core.proofs.common.EventTexts.{KeepsOthers, carried_places-append, event_texts-append, event_texts-one}
use Rattle.bus_core.proofs.common.Framing.{EndsStay}
use Rattle.machine_invariant.proofs.MatchedEntries.{sent-answers, sent_to}
use Rattle.machine_invariant.proofs.MatchedNext.{matched-no_status_event}
use Rattle.machine_invariant.proofs.MatchedSteps.{IsDueAt, place_fact-due, shared_step-matched}
use Rattle.machine_invariant.proofs.MatchedMoves.{IsEndedBy, ended_phase, send_step-held}
use Rattle.shared_machine.proofs.Standing.{held_under-with_same, held_under-with_other, slice_get-back}
use Rattle.bus_core.proofs.chunks.OwnFronts.{status-front-own}
use Rattle.bus_core.proofs.status.StatusReady.{HasOwnUnit, answer_unit, answer-unit, answer-most, answer-len, text-begins}
use Rattle.bus_core.proofs.status.StatusReady.{with_status, status-written, tag-bounds, IsStatusReady, status-ready, status-armed, status-due}
use Rattle.bus_core.proofs.status.StatusReady.{status-own}

-- THE CALL, COMPUTED

-- the device's word of an ended request
ended-wants : (unit : Option ℕ) (request : Request) (answer : TaskAnswer) → option_map_or task_wants (begun_task unit request (Ended answer)) Absent ≡ Ends
ended-wants unit request (WithStatus answer) = refl
ended-wants unit request (WithResponse code) = refl

ended-answer : (unit : Option ℕ) (tag : ℕ) (request : Request) (answer : TaskAnswer)
    → option_and_then (task_answer tag) (begun_task unit request (Ended answer)) ≡ Some (answer_unit tag answer)
ended-answer unit tag request (WithStatus answer) = refl
ended-answer unit tag request (WithResponse code) = refl

ended-task : (state : Shared) (world : World) (place : Place) (entry : Entry) (answer : TaskAnswer) → IsPlaced state world place entry
    → entry.task.phase ≡ Begun (Ended answer)
    → task_of world.device (tag_of state.tags place) ≡ begun_task (Some place.client) entry.task.request (Ended answer)
ended-task state world place entry answer at ended =
    at.cell.task ∙ ap (λ p. phase_task (Some place.client) entry.task.request p) ended

-- the world after the answer of a place was handed over
abbrev pub sent_world : ℕ → World → Place → List ℕ → World
sent_world tags world place text = record world {
  lines = completed world.lines Status (tag_of tags place) (pointer_of STREAM_RING_PLACES (stream_ring world.lines.status (tag_of tags place)) 0)
      (STATUS_BYTES - length text) SHORT_PACKET;
  frames = with_held world.frames (tag_of tags place) (with_status (held_for world.frames (tag_of tags place)) text);
  device = without_task world.device (tag_of tags place);
}

pub sent-is : (state : Shared) (world : World) (place : Place) (entry : Entry) (answer : TaskAnswer) → IsPlaced state world place entry → Fits state world
    → entry.task.phase ≡ Begun (Ended answer) → is_open state.status (tag_of state.tags place) ≡ true
    → sent_by world.controller (sides_in world) (tag_of state.tags place)
    ≡ (sides_in (sent_world state.tags world place (answer_text (tag_of state.tags place) answer)), ActedOn (tag_of state.tags place))
sent-is state world place entry answer at fits ended opened =
    let tag = tag-bounds state world place entry at fits in
    let ready : IsStatusReady state world place entry = status-ready state world place entry answer at ended in
    let armed : is_armed world.controller world.lines Status (tag_of state.tags place) ≡ true =
    status-armed state world place entry at fits ready ∙ ap (λ b. b && true) opened in
    ap (λ t. sent_as world.controller (sides_in world) (tag_of state.tags place) (option_map_or task_wants t Absent) (option_and_then (task_answer (tag_of state.tags place)) t))
    (ended-task state world place entry answer at ended)
    ∙ ap (λ w. sent_as world.controller (sides_in world) (tag_of state.tags place) w
    (option_and_then (task_answer (tag_of state.tags place)) (begun_task (Some place.client) entry.task.request (Ended answer))))
    (ended-wants (Some place.client) entry.task.request answer)
    ∙ ap (sent_as world.controller (sides_in world) (tag_of state.tags place) Ends) (ended-answer (Some place.client) (tag_of state.tags place) entry.task.request answer)
    ∙ ap (λ text. on_front (sides_in world) (sent_at (sides_in world) (tag_of state.tags place) text)
    (cond (is_armed world.controller world.lines Status (tag_of state.tags place)) (room_front world.lines Status (tag_of state.tags place)) None))
    (sym (answer-unit (tag_of state.tags place) answer))
    ∙ ap (λ b. on_front (sides_in world) (sent_at (sides_in world) (tag_of state.tags place) (answer_text (tag_of state.tags place) answer))
    (cond b (room_front world.lines Status (tag_of state.tags place)) None)) armed
    ∙ ap (λ b. on_front (sides_in world) (sent_at (sides_in world) (tag_of state.tags place) (answer_text (tag_of state.tags place) answer))
    (cond b (front_at STREAM_RING_PLACES (stream_ring world.lines.status (tag_of state.tags place))) None)) (event-room state world fits)
    ∙ ap (on_front (sides_in world) (sent_at (sides_in world) (tag_of state.tags place) (answer_text (tag_of state.tags place) answer))) ready.front
    ∙ ap (λ frames. (
      record (sides_in (sent_world state.tags world place (answer_text (tag_of state.tags place) answer))) { frames = frames },
      ActedOn (tag_of state.tags place),
    ))
    (status-written world.frames (tag_of state.tags place) (answer_text (tag_of state.tags place) answer) fits.sound.frames tag.0 (omega (arith, tag.1))
    (answer-most (tag_of state.tags place) answer))

-- THE CELL

abbrev pub taken_ring : ItemRing → ItemRing
taken_ring ring = record ring { got = ring.got + 1 }

abbrev pub sent_cell : Cell → List ℕ → Cell
sent_cell cell text = record cell { task = None; status = taken_ring cell.status; buffers = with_status cell.buffers text }

pub cell-sent : (tags : ℕ) (client count : ℕ) (place : Place) (entry : Entry) (answer : TaskAnswer) (cell : Cell) → entry.task.phase ≡ Begun (Ended answer)
    → entry.status_td ≡ pushed
    → FitsCell tags client count place entry cell
    → FitsCell tags client count place (sent_to entry answer) (sent_cell cell (answer_text (tag_of tags place) answer))
cell-sent tags client count place entry answer cell ended td fits = record {
  held = fits.held
      ∙ ap (λ p. Some (record (host_side entry) { told = told_by p entry.status_td.state })) ended
      ∙ ap (λ t. Some (record (host_side entry) { told = t })) (sym (ap (λ t. told_sent answer t.state) td));
  task = refl;
  status =
      let holds : HoldsTrbs cell.status (status_td (tag_of tags place)) 0 = subst (λ t. HoldsTd cell.status (status_td (tag_of tags place)) t) td fits.status in
      subst (λ t. HoldsTd (taken_ring cell.status) (status_td (tag_of tags place)) (with_trb_taken t)) (sym td) (holds.0, ap (λ n. n + 1) holds.1);
  data_in = fits.data_in;
  data_out = fits.data_out;
  lent = fits.lent;
  bytes = fits.bytes;
  unit = fits.unit;
  answer = text-begins cell.buffers.status (answer_text (tag_of tags place) answer);
  sound = sound_sent entry.task.request fits.sound;
}
  where
    sound_sent : (request : Request) → IsSoundRequest count entry.task request → IsSoundRequest count (record entry.task { phase = Sent answer }) request
    sound_sent (Execute op) sound = record { whole = sound.whole; chunk = tt }
    sound_sent (Manage what noted) sound = tt

-- the cells of the world after it
sent-here : (tags : ℕ) (world : World) (place : Place) (text : List ℕ) → IsSoundWorld world → 1 ≤ tag_of tags place → tag_of tags place ≤ STREAMS
    → cell_at tags (sent_world tags world place text) place ≡ sent_cell (cell_at tags world place) text
sent-here tags world place text sound some most =
    let task : task_of (without_task world.device (tag_of tags place)) (tag_of tags place) ≡ None =
    held_under-with_same world.device.tasks (tag_of tags place) None (omega (arith, some)) (omega (arith, most, sound.tags)) in
    let ring : stream_ring (sent_world tags world place text).lines.status (tag_of tags place) ≡ taken_ring (stream_ring world.lines.status (tag_of tags place)) =
    get_or-set_same world.lines.status (tag_of tags place - 1) (taken_ring (stream_ring world.lines.status (tag_of tags place))) (opening 0)
    (omega (arith, some, most, sound.lines.status)) in
    let buffers : held_for (sent_world tags world place text).frames (tag_of tags place) ≡ with_status (held_for world.frames (tag_of tags place)) text =
    get_or-set_same world.frames (tag_of tags place - 1) (with_status (held_for world.frames (tag_of tags place)) text) no_buffers
    (omega (arith, some, most, sound.frames.tags)) in
    λ i. record (cell_at tags world place) { task = task i; status = ring i; buffers = buffers i }

sent-others : (tags : ℕ) (world : World) (place : Place) (text : List ℕ) → KeepsOthers tags world (sent_world tags world place text) place
sent-others tags world place text other at inside apart =
    let behind : tag_of tags (place_in other at) - 1 ≡ tag_of tags place - 1 → ⊥ = λ same. apart (omega (arith, same)) in
    let task : task_of (without_task world.device (tag_of tags place)) (tag_of tags (place_in other at)) ≡ task_of world.device (tag_of tags (place_in other at)) =
    held_under-with_other world.device.tasks (tag_of tags place) (tag_of tags (place_in other at)) None apart in
    let ring : stream_ring (sent_world tags world place text).lines.status (tag_of tags (place_in other at)) ≡ stream_ring world.lines.status
    (tag_of tags (place_in other at)) =
    get_or-set_other world.lines.status (tag_of tags place - 1) (tag_of tags (place_in other at) - 1) (taken_ring (stream_ring world.lines.status (tag_of tags place)))
    (opening 0) behind in
    let buffers : held_for (sent_world tags world place text).frames (tag_of tags (place_in other at)) ≡ held_for world.frames (tag_of tags (place_in other at)) =
    get_or-set_other world.frames (tag_of tags place - 1) (tag_of tags (place_in other at) - 1)
    (with_status (held_for world.frames (tag_of tags place)) text) no_buffers behind in
    λ i. record (cell_at tags world (place_in other at)) { task = task i; status = ring i; buffers = buffers i }

-- THE QUEUES

-- the event of the status TD, as the cell tells it afterwards
sent-text : (tags : ℕ) (world : World) (place : Place) (request : Request) (answer : TaskAnswer) (k : ℕ) → IsSoundWorld world → IsRequestIn tags place.slot request
    → IsPhaseOf request (Sent answer)
    → 1 ≤ tag_of tags place → tag_of tags place ≤ STREAMS
    → (stream_ring world.lines.status (tag_of tags place)).put ≡ map known (status_td (tag_of tags place))
    → event_texts tags (sent_world tags world place (answer_text (tag_of tags place) answer)) k (StatusDone place ∷ [])
    ≡ Transfer (pointer_of STREAM_RING_PLACES (stream_ring world.lines.status (tag_of tags place)) 0)
    (STATUS_BYTES - length (answer_text (tag_of tags place) answer)) SHORT_PACKET (endpoint_of Status) SLOT ∷ []
sent-text tags world place request answer k sound asks answers some most put =
    ap (λ (c : Cell). status_event tags place.slot c.status c.buffers.status ∷ [])
    (sent-here tags world place (answer_text (tag_of tags place) answer) sound some most)
    ∙ ap (λ trbs. Transfer (pointer_of STREAM_RING_PLACES (stream_ring world.lines.status (tag_of tags place)) (length trbs - 1))
    (STATUS_BYTES - unit_len tags place.slot (with_bytes_at (held_for world.frames (tag_of tags place)).status 0 (answer_text (tag_of tags place) answer)))
    SHORT_PACKET (endpoint_of Status) SLOT ∷ []) put
    ∙ ap (λ n. Transfer (pointer_of STREAM_RING_PLACES (stream_ring world.lines.status (tag_of tags place)) 0) (STATUS_BYTES - n) SHORT_PACKET
    (endpoint_of Status) SLOT ∷ [])
    (answer-len tags (tag_of tags place) place.slot request answer (held_for world.frames (tag_of tags place)).status asks answers)

pub sent-queues : (state : Shared) (world : World) (place : Place) (request : Request) (answer : TaskAnswer) (part : Part) (new : Entry) → Fits state world
    → place.slot < state.tags → IsRequestIn state.tags place.slot request → IsPhaseOf request (Sent answer)
    → 1 ≤ tag_of state.tags place → tag_of state.tags place ≤ STREAMS → (stream_ring world.lines.status (tag_of state.tags place)).put ≡ map known (status_td (tag_of state.tags place))
    → status_events place state.events ≡ 0
    → FitsQueues (acted_state state place part part.unit new state.messages (StatusDone place ∷ []))
    (sent_world state.tags world place (answer_text (tag_of state.tags place) answer))
sent-queues state world place request answer part new fits within asks answers some most put none =
    let event : Event = Transfer (pointer_of STREAM_RING_PLACES (stream_ring world.lines.status (tag_of state.tags place)) 0)
    (STATUS_BYTES - length (answer_text (tag_of state.tags place) answer)) SHORT_PACKET (endpoint_of Status) SLOT in
    let more : carried_places (state.events ++ StatusDone place ∷ []) ≡ carried_places state.events =
    carried_places-append state.events (StatusDone place ∷ []) ∙ append-nil (carried_places state.events) in
    let kept : event_texts state.tags (sent_world state.tags world place (answer_text (tag_of state.tags place) answer)) 0 state.events ≡ event_texts state.tags world 0 state.events =
    event_texts-one state world (sent_world state.tags world place (answer_text (tag_of state.tags place) answer)) place 0 fits.matched within (refl, refl) refl
    (sent-others state.tags world place (answer_text (tag_of state.tags place) answer)) (λ waits. (refl, refl)) (λ waits. absurd (omega (arith, waits, none))) in
    record {
      put = fits.queues.put ∙ ap (λ ps. map (command_item state.tags) (ps ++ state.messages)) (sym more);
      got = fits.queues.got ∙ ap length (sym more);
      texts = ap (λ es. es ++ event ∷ []) (fits.queues.texts ∙ sym kept)
          ∙ ap (λ es. event_texts state.tags (sent_world state.tags world place (answer_text (tag_of state.tags place) answer)) 0 state.events ++ es)
          (sym (sent-text state.tags world place request answer (0 + length (carried_places state.events)) fits.sound asks answers some most put))
          ∙ sym (event_texts-append state.tags (sent_world state.tags world place (answer_text (tag_of state.tags place) answer)) 0 state.events (StatusDone place ∷ []));
    }

-- THE STEP

-- the controller took a TRB of the status stream, whose enqueue place is where it was
sent-ends : (state : Shared) (world : World) (place : Place) (text : List ℕ) → IsSoundWorld world → 1 ≤ tag_of state.tags place → tag_of state.tags place ≤ STREAMS
    → EndsStay state world (sent_world state.tags world place text) place
sent-ends state world place text sound some most Command streams left = absurd streams
sent-ends state world place text sound some most Status streams left =
    let ring = ap (λ (c : Cell). c.status) (sent-here state.tags world place text sound some most) in
    record { base = ap (λ (r : ItemRing). r.base) ring; at = ap (λ (r : ItemRing). r.at) ring; put = ap (λ (r : ItemRing). r.put) ring }
sent-ends state world place text sound some most DataIn streams left = record { base = refl; at = refl; put = refl }
sent-ends state world place text sound some most DataOut streams left = record { base = refl; at = refl; put = refl }

sent-acted : (state : Shared) (world : World) (place : Place) (entry : Entry) (answer : TaskAnswer) (at : IsPlaced state world place entry) → Fits state world
    → entry.task.phase ≡ Begun (Ended answer) → status_events place state.events ≡ 0
    → IsActed state world (sent_world state.tags world place (answer_text (tag_of state.tags place) answer)) place at.part at.part.unit
    (sent_to entry answer) state.messages (StatusDone place ∷ [])
sent-acted state world place entry answer at fits ended none =
    let tag = tag-bounds state world place entry at fits in
    let ready : IsStatusReady state world place entry = status-ready state world place entry answer at ended in
    record {
      host = refl;
      controller = refl;
      engine = refl;
      units = sym (slice_get-back world.device.units place.client at.part.unit at.client.unit_is);
      tasks = λ other apart. held_under-with_other world.device.tasks (tag_of state.tags place) other None apart;
      others = sent-others state.tags world place (answer_text (tag_of state.tags place) answer);
      ends = sent-ends state world place (answer_text (tag_of state.tags place) answer) fits.sound tag.0 tag.1;
      count = refl;
      cell = subst (λ c. FitsCell state.tags place.client at.part.unit.count place (sent_to entry answer) c)
          (sym (sent-here state.tags world place (answer_text (tag_of state.tags place) answer) fits.sound tag.0 tag.1))
          (cell-sent state.tags place.client at.part.unit.count place entry answer (cell_at state.tags world place) ended ready.td at.cell);
      queues = sent-queues state world place entry.task.request answer at.part (sent_to entry answer) fits at.is_place.slot at.matched.here.sound.asks
          (sent-answers entry.task.request answer (subst (λ p. IsPhaseOf entry.task.request p) ended at.matched.here.sound.answers))
          tag.0 tag.1 ready.ring.0 none;
    }

-- the shared machine's step
status-stepped : (state : Shared) (place : Place) (part : Part) (entry : Entry) (answer : TaskAnswer) → due state (StatusStep (tag_of state.tags place)) ≡ true
    → place_of state.tags (length state.parts) (tag_of state.tags place) ≡ Some place → slice_get state.parts place.client ≡ Some part
    → held_at part.entries place.slot ≡ Some entry → entry.task.phase ≡ Begun (Ended answer)
    → (shared_step state (StatusStep (tag_of state.tags place))).0
    ≡ acted_state state place part part.unit (sent_to entry answer) state.messages (StatusDone place ∷ [])
status-stepped state place part entry answer is_due named there held ended =
    ap (λ b. (cond b (due_step state (StatusStep (tag_of state.tags place))) (state, idle)).0) is_due
    ∙ ap (λ s. s.0) (send_step-held state (tag_of state.tags place) place part entry answer named there held ended)

status-at : (state : Shared) (world : World) (place : Place) (entry : Entry) (answer : TaskAnswer) → IsPlaced state world place entry → Fits state world
    → due state (StatusStep (tag_of state.tags place)) ≡ true → place_of state.tags (length state.parts) (tag_of state.tags place) ≡ Some place → entry.task.phase ≡ Begun (Ended answer)
    → is_open state.status (tag_of state.tags place) ≡ true → StatusFits state world (tag_of state.tags place)
status-at state world place entry answer at fits is_due named ended opened =
    let ready : IsStatusReady state world place entry = status-ready state world place entry answer at ended in
    let called = sent-is state world place entry answer at fits ended opened in
    let stepped = status-stepped state place at.part entry answer is_due named at.there at.held ended in
    record {
      own = status-front-own state world (tag_of state.tags place) fits
          (subst (λ t. HasOwnUnit world.lines world.frames (tag_of state.tags place) (option_and_then (task_answer (tag_of state.tags place)) t))
          (sym (ended-task state world place entry answer at ended))
          (subst (HasOwnUnit world.lines world.frames (tag_of state.tags place))
          (sym (ended-answer (Some place.client) (tag_of state.tags place) entry.task.request answer)) (status-own state world place entry answer at fits ready)));
      acted = ap (λ c. c.1) called;
      fits = λ sound.
          subst (λ s. Fits s (status_world world (tag_of state.tags place))) (sym stepped)
          (subst (λ (c : Sides × Acted). Fits
          (acted_state state place at.part at.part.unit (sent_to entry answer) state.messages (StatusDone place ∷ [])) (with_sides world c.0)) (sym called)
          (acted-fits state world (sent_world state.tags world place (answer_text (tag_of state.tags place) answer)) place entry
          (sent_to entry answer) at.part.unit state.messages (StatusDone place ∷ []) at fits
          (sent-acted state world place entry answer at fits ended (matched-no_status_event state fits.matched (tag_of state.tags place) place named is_due))
          (subst IsMatched stepped (shared_step-matched state (StatusStep (tag_of state.tags place)) fits.matched))
          (subst (λ (c : Sides × Acted). IsSoundWorld (with_sides world c.0)) called sound)));
    }

pub status_fits : StatusesFit
status_fits state world tag fits is_due =
    let found : IsDueAt state tag (status_is_due state tag) = place_fact-due state tag (status_is_due state tag) is_due in
    let same : tag_of state.tags found.place ≡ tag = place_of-tag state.tags (length state.parts) tag found.place (omega (arith, fits.matched.tags.least)) found.named in
    let at : IsPlaced state world found.place found.entry = placed state world found.place found.entry fits found.held in
    let both = and_parts (is_ended found.entry.task.phase) (is_open state.status tag && has_trb found.entry.status_td 1) found.so in
    let ended : IsEndedBy found.entry.task.phase = ended_phase found.entry.task.phase both.0 in
    let opened : is_open state.status tag ≡ true = (and_parts (is_open state.status tag) (has_trb found.entry.status_td 1) both.1).0 in
    subst (λ t. StatusFits state world t) same
    (status-at state world found.place found.entry ended.answer at fits
    (subst (λ t. due state (StatusStep t) ≡ true) (sym same) is_due)
    (subst (λ t. place_of state.tags (length state.parts) t ≡ Some found.place) (sym same) found.named)
    ended.is (subst (λ t. is_open state.status t ≡ true) (sym same) opened))

-- WHERE IT IS DUE

-- a command that moves data isn't answered yet
moving-undue : (world : World) (tag bytes : ℕ) (way : Direction) → status_due_by world tag (wanted_way way bytes) ≡ false
moving-undue world tag bytes Nothing = refl
moving-undue world tag bytes ToHost = refl
moving-undue world tag bytes ToDevice = refl

-- what is told of a tag by its task and by whether the step is due
abbrev IsTold : World → ℕ → Option DeviceTask → Bool → Type 0
IsTold world tag task is_due =
    (is_due ≡ status_due_by world tag (option_map_or task_wants task Absent))
    × HasOwnUnit world.lines world.frames tag (option_and_then (task_answer tag) task)

told-ended : (state : Shared) (world : World) (place : Place) (entry : Entry) (answer : TaskAnswer) → IsPlaced state world place entry → Fits state world
    → entry.task.phase ≡ Begun (Ended answer)
    → IsTold world (tag_of state.tags place) (begun_task (Some place.client) entry.task.request (Ended answer))
    (is_open state.status (tag_of state.tags place) && has_trb entry.status_td 1)
told-ended state world place entry answer at fits ended =
    let ready : IsStatusReady state world place entry = status-ready state world place entry answer at ended in (
      status-due state world place entry ready ∙ sym (status-armed state world place entry at fits ready)
          ∙ ap (λ w. status_due_by world (tag_of state.tags place) w) (sym (ended-wants (Some place.client) entry.task.request answer)),
      subst (HasOwnUnit world.lines world.frames (tag_of state.tags place))
          (sym (ended-answer (Some place.client) (tag_of state.tags place) entry.task.request answer))
          (status-own state world place entry answer at fits ready),
    )

-- a task management moves no data
told-moving : (tags : ℕ) (world : World) (place : Place) (request : Request) (chunk : ℕ) → IsPhaseOf request (Begun (Moving chunk))
    → IsTold world (tag_of tags place) (begun_task (Some place.client) request (Moving chunk)) false
told-moving tags world place (Execute op) chunk answers =
    (sym (moving-undue world (tag_of tags place) (chunk_bytes (moved_bytes op) chunk) (direction_of op)), tt)
told-moving tags world place (Manage what noted) chunk answers = absurd answers

told-at : (state : Shared) (world : World) (place : Place) (entry : Entry) (phase : Phase) → IsPlaced state world place entry
    → Fits state world → IsPhaseOf entry.task.request phase → entry.task.phase ≡ phase
    → IsTold world (tag_of state.tags place) (phase_task (Some place.client) entry.task.request phase)
    (is_ended phase && (is_open state.status (tag_of state.tags place) && has_trb entry.status_td 1))
told-at state world place entry Queued at fits answers is = (refl, tt)
told-at state world place entry (Begun (Moving chunk)) at fits answers is = told-moving state.tags world place entry.task.request chunk answers
told-at state world place entry (Begun (Ended answer)) at fits answers is = told-ended state world place entry answer at fits is
told-at state world place entry (Sent answer) at fits answers is = (refl, tt)
told-at state world place entry Gone at fits answers is = (refl, tt)

told : (state : Shared) (world : World) (tag : ℕ) → Fits state world → IsTold world tag (task_of world.device tag) (due state (StatusStep tag))
told state world tag fits =
    by-tag state world tag (status_is_due state tag) (IsTold world tag) fits (refl, tt)
    (λ place entry same at.
    subst (λ t. IsTold world t (device_task place.client entry) (status_is_due state t entry)) same
    (told-at state world place entry entry.task.phase at fits at.matched.here.sound.answers refl))

pub statuses_due : StatusesAreDue
statuses_due state world tag fits =
    let it = told state world tag fits in record { due = it.0; own = status-front-own state world tag fits it.1 }

-- where it isn't due the controller is idle
unarmed-idle : (controller : ControllerState) (sides : Sides) (tag : ℕ) (wants : Wants) (answer : Option Iu) (armed : Bool)
    → is_armed controller sides.lines Status tag ≡ armed
    → (wants ≡ Ends → armed ≡ false) → sent_as controller sides tag wants answer ≡ (sides, Idle)
unarmed-idle controller sides tag Absent answer armed is none = refl
unarmed-idle controller sides tag (Gives size) answer armed is none = refl
unarmed-idle controller sides tag (Takes size) answer armed is none = refl
unarmed-idle controller sides tag Ends None armed is none = refl
unarmed-idle controller sides tag Ends (Some unit) armed is none =
    ap (λ b. on_front sides (sent_at sides tag (unit_text unit)) (cond b (room_front sides.lines Status tag) None)) (is ∙ none refl)

pub status_idle : StatusIsIdle
status_idle state world tag fits undue =
    unarmed-idle world.controller (sides_in world) tag (wanted world.device tag) (answered world.device tag)
    (is_armed world.controller world.lines Status tag) refl
    (λ ends. ap (λ w. status_due_by world tag w) (sym ends) ∙ sym (told state world tag fits).0 ∙ undue)
