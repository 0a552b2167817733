-- A task management without a fault: its rings have room, and the world after it fits the shared machine after it. Cited by TaskSubmitted
-- and by the law of task managements.
use Rattle.std.proofs.Common.{◌≡◌, ℕ, ◌+◌, ◌*◌, ◌^◌, ◌<◌, ◌≤◌, true, false, List, [], ◌∷◌, ◌++◌, drop, take, length, length-set, map, Option, Some}
use Rattle.std.proofs.Common.{None, is_some, refl, arith, ap, sym, subst, ◌∙◌}
use Rattle.std.specs.Prelude.{slice_get, nat_lt, cond}
use Rattle.std.specs.Option.{option_map_or}
use Rattle.std.proofs.lemmas.Bool.{le-leb, le-ltb, lt-ltb, false≢true}
use Rattle.std.proofs.lemmas.List.{append_assoc, length-map, map-append, take_at}
use Rattle.std.proofs.lemmas.Option.{none-some}
use Rattle.xhci_trb.specs.declared.Trb.{Trb}
use Rattle.cycle_ring.specs.Items.{Item, known, ItemRing}
use Rattle.uas_profile.specs.declared.Pipe.TheVariants.{Status as StatusPipe}
use Rattle.stream_array.specs.Contexts.{has_stream}
use Rattle.stream_array.specs.Rings.{stream_ring}
use Rattle.frame_store.specs.declared.TagBuffers.{TagBuffers}
use Rattle.frame_store.specs.Buffers.{held_for}
use Rattle.uas_profile.specs.declared.Direction.TheVariants.{Nothing}
use Rattle.scsi_cmd.specs.declared.SubmitFault.TheVariants.{NotYours}
use Rattle.scsi_cmd.specs.declared.Task.{Task}
use Rattle.uas_profile.specs.declared.TheConstants.{STREAMS}
use Rattle.scsi_cmd.specs.Held.{held_at}
use Rattle.uas_iu.specs.declared.Iu.TheVariants.{Task as TaskUnit}
use Rattle.uas_iu.specs.Lun.{lun_text}
use Rattle.uas_iu.proofs.Laws.{length-unit_text}
use Rattle.uas_profile.specs.declared.Place.{Place}
use Rattle.uas_host.specs.declared.HostClient.{HostClient}
use Rattle.uas_profile.specs.Doors.{answer_doors}
use Rattle.uas_host.specs.Retirement.{is_held as is_host_held}
use Rattle.uas_host.specs.State.{client_of, with_client}
use Rattle.uas_host.specs.Tasks.{with_task_unit}
use Rattle.uas_host.specs.Tds.{pushed_task}
use Rattle.uas_profile.specs.Tags.{tag_of}
use Rattle.uas_host.specs.Tasks.{named_tag, client_task_fault, function_of, managed_client, noted_by, task_entry, task_fault, task_tag, task_text}
use Rattle.uas_host.specs.Tds.{HasTaskRoom, status_td, task_td}
use Rattle.xhci_ctl.specs.Pipes.{ControllerState}
use Rattle.shared_machine.specs.declared.Step.TheVariants.{Task as TaskStep}
use Rattle.shared_machine.specs.Pipes.{rung_unless}
use Rattle.shared_machine.specs.Td.{is_left_over_on}
use Rattle.shared_machine.specs.Part.{Part, is_there, managed_part, named_slot, new_management, noted_tickets, task_fault_at}
use Rattle.shared_machine.specs.Shared.{Shared, is_held, managed, managed_or, managed_to, task_step}
use Rattle.machine_invariant.specs.Matched.{held_in, carried_places, IsMatchedAt, IsMatched, pipe_places}
use Rattle.bus_core.specs.World.{World, cell_at}
use Rattle.bus_core.specs.Cells.{FitsHeld, FitsCell, IsEmptyCell}
use Rattle.bus_core.specs.Fits.{command_item, Fits, FitsQueues, IsSoundWorld, place_in}
use Rattle.bus_core.specs.WorldSteps.{TasksFit, TaskFits, rung_all, task_world}
use Rattle.bus_core.proofs.common.CellWrites.{clients-length, client_of-found, entry_at-other, entry_at-same, held_for-other, held_for-same, stream_ring-other}
use Rattle.bus_core.proofs.common.EventTexts.{AreWithin, KeepsOthers, event_texts-kept, events-within, one-reads}
use Rattle.bus_core.proofs.common.Framing.{AllFit-set, EndsStay, FitsPart-set, ChangesCell, IsFound, engine-changed, found, held-host, unused-kept}
use Rattle.machine_invariant.proofs.MatchedBounds.{matched-room}
use Rattle.machine_invariant.proofs.MatchedSteps.{shared_step-matched}
use Rattle.shared_machine.proofs.Standing.{slice_get-back, get-within, get-none, not_some}
use Rattle.bus_core.proofs.submit.SubmittedLines.{rung_all-is, put_empty}
use Rattle.bus_core.proofs.submit.TaskFaults.{IsUnfaultedTask, named-short, noted-alike, task_fault-found, unfaulted_task}
use Rattle.uas_profile.specs.Tags.{task_slot}
use Rattle.bus_core.proofs.common.Framing.{beyond-apart}
use Rattle.shared_machine.specs.Bus.{IsPlace}
use Rattle.shared_machine.specs.Shared.{greatest_tag}
use Rattle.uas_profile.proofs.TagLaws.{tags-within}
use Rattle.uas_profile.specs.declared.TheConstants.{COMMAND_BYTES}
use Rattle.xhci_trb.specs.declared.Trb.TheVariants.{Normal}
use Rattle.uas_host.specs.Tds.{command_buffer_of}
use Rattle.std.proofs.lemmas.Bool.{eq-eqb}

-- WHAT IS ACCEPTED

-- the slot that a task management of a client names
abbrev slot_named : Shared → ℕ → Task → Option ℕ
slot_named state client task = named_slot state.tags (length state.parts) client task

-- a task management without a fault is of a client that is there
pub record IsAcceptedTask (state : Shared) (client ticket : ℕ) (task : Task) : Type 0 where
  pub part : Part
  pub there : slice_get state.parts client ≡ Some part
  pub unfaulted : task_fault_at state.tags part (slot_named state client task) ticket task ≡ None

accepted-past : (state : Shared) (world : World) (client ticket : ℕ) (task : Task) → Fits state world → length state.parts ≤ client
    → task_fault world.host client ticket task ≡ None → IsAcceptedTask state client ticket task
accepted-past state world client ticket task fits past none =
    let long : length world.host.clients ≡ length state.parts = clients-length state.tags world state.parts fits.clients in
    let beyond : nat_lt client (length world.host.clients) ≡ false = le-ltb client (length world.host.clients) (omega (arith, long, past)) in
    absurd (none-some NotYours (sym none
    ∙ ap (λ b. cond b (client_task_fault world.host.tags (length world.host.clients) client (client_of world.host client) ticket task) (Some NotYours)) beyond))

accepted-part : (state : Shared) (world : World) (client ticket : ℕ) (task : Task) (at : Option Part) → Fits state world
    → slice_get state.parts client ≡ at → task_fault world.host client ticket task ≡ None → IsAcceptedTask state client ticket task
accepted-part state world client ticket task None fits is none =
    accepted-past state world client ticket task fits (get-none state.parts client is) none
accepted-part state world client ticket task (Some part) fits is none =
    let long : length world.host.clients ≡ length state.parts = clients-length state.tags world state.parts fits.clients in
    let within : client < length state.parts = get-within state.parts client part is in
    let here : nat_lt client (length world.host.clients) ≡ true = lt-ltb client (length world.host.clients) (omega (arith, long, within)) in
    record {
      part = part;
      there = is;
      unfaulted =
          sym (task_fault-found state.tags fits.matched.tags world (length state.parts) client ticket task part (found state.tags world state.parts client part fits.clients is))
          ∙ ap (λ n. client_task_fault state.tags n client (client_of world.host client) ticket task) (sym long)
          ∙ ap (λ t. client_task_fault t (length world.host.clients) client (client_of world.host client) ticket task) (sym fits.tags)
          ∙ sym (ap (λ b. cond b (client_task_fault world.host.tags (length world.host.clients) client (client_of world.host client) ticket task) (Some NotYours)) here)
          ∙ none;
    }

accepted-is : (state : Shared) (world : World) (client ticket : ℕ) (task : Task) → Fits state world
    → task_fault world.host client ticket task ≡ None → IsAcceptedTask state client ticket task
accepted-is state world client ticket task fits none = accepted-part state world client ticket task (slice_get state.parts client) fits refl none

-- the state after it
abbrev managed_state : Shared → Part → ℕ → ℕ → Task → Shared
managed_state state part client ticket task = (managed state part (place_in client (task_slot state.tags)) (slot_named state client task) ticket task).0

task_step-is : (state : Shared) (client ticket : ℕ) (task : Task) (at : IsAcceptedTask state client ticket task)
    → (task_step state client ticket task).0 ≡ managed_state state at.part client ticket task
task_step-is state client ticket task at =
    ap (λ found. (managed_to state (place_in client (task_slot state.tags)) (slot_named state client task) ticket task found).0) at.there
    ∙ ap (λ fault. (managed_or state at.part (place_in client (task_slot state.tags)) (slot_named state client task) ticket task fault).0) at.unfaulted

-- THE UNIT

text-fits : (tags client : ℕ) (task : Task) → task_tag tags client ≤ STREAMS → named_tag task < 2 ^ 16
    → length (task_text tags client task) ≡ 16
text-fits tags client task most short =
    length-unit_text (TaskUnit (task_tag tags client) (function_of task) (named_tag task) (lun_text client)) (omega (arith, most), short, refl)

-- the world after it, by the number of a client's tags
abbrev task_after : ℕ → World → ℕ → ℕ → Task → World
task_after tags world client ticket task = record world {
  host = with_client world.host client (managed_client tags (client_of world.host client) ticket task);
  controller = rung_all world.controller (answer_doors (is_host_held world.host) (task_tag tags client));
  lines = pushed_task world.lines (task_tag tags client);
  frames = with_task_unit tags world.frames client task;
}

-- RINGS

abbrev ring_put : List ItemRing → ℕ → List Trb → ItemRing
ring_put rings tag trbs = record (stream_ring rings tag) { put = (stream_ring rings tag).put ++ map known trbs }

-- THE CELL

-- what a task management finds
record IsTaskFree (state : Shared) (world : World) (client : ℕ) (task : Task) (part : Part) : Type 0 where
  there : slice_get state.parts client ≡ Some part
  within : task_slot state.tags < state.tags
  most : task_tag state.tags client ≤ STREAMS
  it : IsFound state.tags world client part
  none : held_at part.entries (task_slot state.tags) ≡ None
  empty : IsEmptyCell (cell_at state.tags world (place_in client (task_slot state.tags)))
  noted : noted_by state.tags (client_of world.host client) task ≡ noted_tickets state.tags part (slot_named state client task) task
  short : named_tag task < 2 ^ 16
  matched : IsMatchedAt state (place_in client (task_slot state.tags)) None

free-at : (state : Shared) (world : World) (client ticket : ℕ) (task : Task) (at : IsAcceptedTask state client ticket task) → Fits state world
    → IsTaskFree state world client task at.part
free-at state world client ticket task at fits =
    let part : Part = at.part in
    let it : IsFound state.tags world client at.part = found state.tags world state.parts client at.part fits.clients at.there in
    let free : IsUnfaultedTask (is_some (held_at at.part.entries (task_slot state.tags))) (is_there at.part (slot_named state client task) task) =
    unfaulted_task (is_some (held_at at.part.entries (task_slot state.tags)))
    (is_there at.part (slot_named state client task) task) at.part.least_ticket ticket at.unfaulted in
    let none : held_at at.part.entries (task_slot state.tags) ≡ None = not_some (held_at at.part.entries (task_slot state.tags)) free.free in
    let within : task_slot state.tags < state.tags = omega (arith, fits.matched.tags.least) in
    record {
      there = at.there;
      within = within;
      most = omega (
        arith,
        (tags-within state.tags (length state.parts) (place_in client (task_slot state.tags)) (get-within state.parts client at.part at.there) within).1,
        fits.most_tags,
      );
      it = it;
      none = none;
      empty = subst (λ held. FitsHeld state.tags client at.part.unit.count (place_in client (task_slot state.tags)) held (cell_at state.tags world (place_in client (task_slot state.tags)))) none
          (it.fits.cells (task_slot state.tags) within);
      noted = noted-alike state.tags world (length state.parts) client task at.part it fits.sound free.there;
      short = named-short state.tags at.part (length state.parts) client task fits.most_tags free.there;
      matched = subst (λ held. IsMatchedAt state (place_in client (task_slot state.tags)) held)
          (ap (λ found. option_map_or (held_in (place_in client (task_slot state.tags))) found None) at.there ∙ none) (fits.matched.places (place_in client (task_slot state.tags)));
    }

-- all other cells are as they were
task-others : (tags : ℕ) (world : World) (client ticket : ℕ) (task : Task) → client < length world.host.clients
    → KeepsOthers tags world (task_after tags world client ticket task) (place_in client (task_slot tags))
task-others tags world client ticket task there other at inside apart =
    let tag : ℕ = task_tag tags client in
    let held_is = entry_at-other tags world.host client (task_slot tags) other at (managed_client tags (client_of world.host client) ticket task)
    (Some (task_entry ticket task (record { items = noted_by tags (client_of world.host client) task }))) there refl apart in
    let status_is = stream_ring-other world.lines.status (task_tag tags client) (tag_of tags (place_in other at))
    (ring_put world.lines.status (task_tag tags client) (status_td (task_tag tags client))) (omega arith) (omega arith) apart in
    let buffers_is = held_for-other world.frames (task_tag tags client) (tag_of tags (place_in other at)) (record (held_for world.frames (task_tag tags client)) {
      command = task_text tags client task ++ drop 16 (held_for world.frames (task_tag tags client)).command;
    }) (omega arith) (omega arith) apart in
    λ i. record (cell_at tags world (place_in other at)) { held = held_is i; status = status_is i; buffers = buffers_is i }

task-cell : (state : Shared) (world : World) (client ticket : ℕ) (task : Task) (part : Part) → IsTaskFree state world client task part → Fits state world
    → FitsCell state.tags client part.unit.count (place_in client (task_slot state.tags))
    (new_management ticket task (noted_tickets state.tags part (slot_named state client task) task))
    (cell_at state.tags (task_after state.tags world client ticket task) (place_in client (task_slot state.tags)))
task-cell state world client ticket task part free fits =
    let some : 0 < task_tag state.tags client = omega arith in
    let most : task_tag state.tags client ≤ STREAMS = omega (arith, free.most) in
    let there = get-within world.host.clients client free.it.held free.it.held_is in
    let slots : (task_slot state.tags) < length (client_of world.host client).entries = omega (arith, (fits.sound.host.clients client there).slots) in
    let buffers_is = held_for-same world.frames (task_tag state.tags client) (record (held_for world.frames (task_tag state.tags client)) {
      command = task_text state.tags client task ++ drop 16 (held_for world.frames (task_tag state.tags client)).command;
    }) some (omega (arith, most, fits.sound.frames.tags)) in
    record {
      held = entry_at-same world.host client (task_slot state.tags) (managed_client state.tags (client_of world.host client) ticket task) (client_of world.host client).entries
          (Some (task_entry ticket task (record { items = noted_by state.tags (client_of world.host client) task }))) there slots refl
          ∙ ap (λ noted. Some (task_entry ticket task (record { items = noted }))) free.noted;
      task = free.empty.task;
      status = put_empty world.lines.status (task_tag state.tags client) (status_td (task_tag state.tags client)) some (omega (arith, most, fits.sound.lines.status))
          free.empty.status;
      data_in = free.empty.data_in;
      data_out = free.empty.data_out;
      lent = ap (λ (b : TagBuffers). b.lent) buffers_is ∙ free.empty.lent;
      bytes = refl;
      unit = (
        ap (λ (b : TagBuffers). take 16 b.command) buffers_is
            ∙ take_at (task_text state.tags client task) (drop 16 (held_for world.frames (task_tag state.tags client)).command) 16 (text-fits state.tags client task free.most free.short),
        free.short,
      );
      answer = tt;
      sound = tt;
    }

-- THE QUEUES

task-queues : (state : Shared) (world : World) (client ticket : ℕ) (task : Task) (part : Part) → IsTaskFree state world client task part → Fits state world
    → AreWithin state.tags state.events → FitsQueues (managed_state state part client ticket task) (task_after state.tags world client ticket task)
task-queues state world client ticket task part free fits within =
    let place : Place = place_in client (task_slot state.tags) in
    let there = get-within world.host.clients client free.it.held free.it.held_is in
    record {
      put = ap (λ (ts : List Item). ts ++ map known (task_td (task_tag state.tags client))) fits.queues.put
          ∙ ap (λ b. map (command_item state.tags) (carried_places state.events ++ state.messages)
          ++ known (Normal (command_buffer_of (task_tag state.tags client)) (cond b 16 COMMAND_BYTES) 0 (record { 0 = 16 })) ∷ [])
          (sym (eq-eqb (task_slot state.tags) (task_slot state.tags) refl))
          ∙ sym (map-append (command_item state.tags) (carried_places state.events ++ state.messages) (place_in client (task_slot state.tags) ∷ []))
          ∙ ap (map (command_item state.tags)) (append_assoc (carried_places state.events) state.messages (place_in client (task_slot state.tags) ∷ []));
      got = fits.queues.got;
      texts = fits.queues.texts
          ∙ sym (event_texts-kept state.tags world (task_after state.tags world client ticket task) 0 state.events (refl, refl)
          (one-reads state.tags world (task_after state.tags world client ticket task) (place_in client (task_slot state.tags)) state.events free.within within refl
          (task-others state.tags world client ticket task there)
          (λ some. absurd (omega (arith, some, free.matched.moved))) (λ some. absurd (omega (arith, some, free.matched.sent)))));
    }

-- nothing stands at a free place, so that no retirement is of it
task-ends : (state : Shared) (world : World) (client ticket : ℕ) (task : Task) (part : Part) → IsTaskFree state world client task part
    → EndsStay state world (task_after state.tags world client ticket task) (place_in client (task_slot state.tags))
task-ends state world client ticket task part free pipe streams left =
    let nothing = ap (λ found. option_map_or (held_in (place_in client (task_slot state.tags))) found None) free.there ∙ free.none in
    absurd (false≢true (ap (λ held. option_map_or (is_left_over_on pipe) held false) (sym nothing) ∙ left))

-- THE STEP

tag-stream : (tags client : ℕ) → task_tag tags client ≤ STREAMS → has_stream (task_tag tags client) ≡ true
tag-stream tags client most =
    rw (lt-ltb 0 (client * tags + task_slot tags + 1) (omega arith), le-leb (client * tags + task_slot tags + 1) STREAMS (omega (arith, most))) refl

task-fits : (state : Shared) (world : World) (client ticket : ℕ) (task : Task) (part : Part) → IsTaskFree state world client task part → Fits state world
    → AreWithin state.tags state.events → IsMatched (managed_state state part client ticket task) → IsSoundWorld (task_after state.tags world client ticket task)
    → Fits (managed_state state part client ticket task) (task_after state.tags world client ticket task)
task-fits state world client ticket task part free fits within matched sound =
    let there = get-within world.host.clients client free.it.held free.it.held_is in
    let others = task-others state.tags world client ticket task there in
    let held_now : HostClient = managed_client state.tags (client_of world.host client) ticket task in
    let now : Part = managed_part state.tags part (slot_named state client task) ticket task in
    let long = length-set state.parts client (managed_part state.tags part (slot_named state client task) ticket task) in
    let rang = ap (λ held. rung_all world.controller (answer_doors held (task_tag state.tags client))) (held-host state world fits.engine)
    ∙ rung_all-is world.controller (is_held state) Nothing (task_tag state.tags client) (tag-stream state.tags client free.most) in
    let changes : ChangesCell state.tags world (task_after state.tags world client ticket task) client (task_slot state.tags) (managed_client state.tags (client_of world.host client) ticket task)
    part.unit = record {
      hosts = refl;
      units = sym (slice_get-back world.device.units client part.unit free.it.unit_is);
      others = others;
    } in
    let queue_is : part.ready ≡ (client_of world.host client).ready.items =
    free.it.fits.ready ∙ ap (λ (c : HostClient). c.ready.items) (sym (client_of-found world.host client free.it.held free.it.held_is)) in
    let greatest : greatest_tag (managed_state state part client ticket task) ≡ greatest_tag state = ap (λ n. n * state.tags) long in
    let is_place : IsPlace state.tags (length state.parts) (place_in client (task_slot state.tags)) =
    record { client = get-within state.parts client part free.there; slot = free.within } in
    record {
      tags = fits.tags;
      some_client = omega (arith, fits.some_client, long);
      most_clients = omega (arith, fits.most_clients, long);
      most_tags = omega (arith, fits.most_tags, greatest);
      status = ap (λ (c : ControllerState). c.status) rang ∙ ap (λ p. rung_unless (is_held state StatusPipe) p (task_tag state.tags client)) fits.status;
      data_in = ap (λ (c : ControllerState). c.data_in) rang ∙ fits.data_in;
      data_out = ap (λ (c : ControllerState). c.data_out) rang ∙ fits.data_out;
      sound = sound;
      queues = task-queues state world client ticket task part free fits within;
      engine = engine-changed state (managed_state state part client ticket task) world (task_after state.tags world client ticket task) (place_in client (task_slot state.tags))
          fits.matched fits.engine refl refl refl refl free.within others (task-ends state world client ticket task part free);
      matched = matched;
      clients = AllFit-set state.tags world (task_after state.tags world client ticket task) state.parts client (task_slot state.tags) part.unit
          (managed_client state.tags (client_of world.host client) ticket task) part
          (managed_part state.tags part (slot_named state client task) ticket task) fits.clients free.there free.within changes
          (FitsPart-set state.tags fits.matched.tags world (task_after state.tags world client ticket task) client (task_slot state.tags) part.unit part.unit free.it.held
          (managed_client state.tags (client_of world.host client) ticket task) part
          (Some (new_management ticket task (noted_tickets state.tags part (slot_named state client task) task))) (ticket + 1) part.ready
          free.it.fits free.within changes refl refl queue_is (task-cell state world client ticket task part free fits));
      others = λ other over. fits.others other (omega (arith, over, greatest));
      unused = λ other over.
          unused-kept state.tags world (task_after state.tags world client ticket task) (place_in client (task_slot state.tags)) other fits.matched.tags others
          (omega (arith, over)) (beyond-apart state.tags (length state.parts) (place_in client (task_slot state.tags)) other is_place
          (omega (arith, over, greatest))) (fits.unused other (omega (arith, over, greatest)));
    }

task-room : (state : Shared) (world : World) (client : ℕ) (task : Task) (part : Part) → IsTaskFree state world client task part → Fits state world
    → length (pipe_places state) ≤ STREAMS → HasTaskRoom world.lines (task_tag state.tags client)
task-room state world client task part free fits room = record {
  on_status = omega (arith, ap (λ (ts : List Item). length ts) free.empty.status.0);
  on_command = omega (arith, ap (λ (ts : List Item). length ts) fits.queues.put, length-map (pipe_places state) (command_item state.tags), room);
}

-- what waits is of slots that are there and has room, and the state after the step is matched
pub task-at : (state : Shared) (world : World) (client ticket : ℕ) (task : Task) → Fits state world → task_fault world.host client ticket task ≡ None
    → AreWithin state.tags state.events → length (pipe_places state) ≤ STREAMS → IsMatched (task_step state client ticket task).0 → TaskFits state world client ticket task
task-at state world client ticket task fits none within room matched =
    let at : IsAcceptedTask state client ticket task = accepted-is state world client ticket task fits none in
    let free : IsTaskFree state world client task at.part = free-at state world client ticket task at fits in
    let stepped = task_step-is state client ticket task at in
    let after : task_world world client ticket task ≡ task_after state.tags world client ticket task =
    ap (λ t. task_after t world client ticket task) fits.tags in
    record {
      room = subst (λ t. HasTaskRoom world.lines (task_tag t client)) (sym fits.tags) (task-room state world client task at.part free fits room);
      fits = λ sound. subst (λ s. Fits s (task_world world client ticket task)) (sym stepped)
          (subst (λ w. Fits (managed_state state at.part client ticket task) w) (sym after)
          (task-fits state world client ticket task at.part free fits within (subst IsMatched stepped matched) (subst IsSoundWorld after sound)));
    }

pub tasks-fit : TasksFit
tasks-fit state world client ticket task fits small none =
    let room = matched-room state fits.matched in
    task-at state world client ticket task fits none (events-within state fits.matched) (omega (arith, room.pipe, fits.most_tags))
    (shared_step-matched state (TaskStep client ticket task) fits.matched)
