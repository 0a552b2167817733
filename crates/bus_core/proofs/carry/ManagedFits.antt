-- The device receives a task management: the world after it fits the shared machine after it. The tasks of one client change, each as its entry
-- does, and those of all others stay. Cited by CommandFits.
use Rattle.std.proofs.Common.{◌≡◌, ℕ, ◌<◌, ◌≤◌, Bool, true, false, cond, List, ◌∷◌, length, length-set, map, Option, Some, None}
use Rattle.std.proofs.Common.{option_map, Ok, refl, arith, ap, sym, subst, ◌∙◌}
use Rattle.std.specs.Prelude.{IfSome, slice_get, slice_set, ◌==◌, ◌&&◌}
use Rattle.std.specs.Option.{option_map_or}
use Rattle.std.proofs.lemmas.Bool.{and_parts, eqb-true, eqb-false}
use Rattle.std.proofs.lemmas.List.{get_or-set_same, get_or-set_other, length-map}
use Rattle.arrayvec.specs.ArrayVec.{ArrayVec}
use Rattle.block_unit.specs.BlockMaps.{BlockMaps}
use Rattle.uas_profile.specs.declared.Pipe.{Pipe}
use Rattle.uas_profile.specs.declared.Pipe.TheVariants.{Command, Status, DataIn, DataOut}
use Rattle.stream_array.specs.Rings.{ring_of}
use Rattle.frame_store.specs.Buffers.{bytes_at, held_for}
use Rattle.scsi_cmd.specs.Request.{ended_by, is_command}
use Rattle.scsi_cmd.specs.declared.Op.{Op}
use Rattle.scsi_cmd.specs.declared.Request.TheVariants.{Execute, Manage}
use Rattle.scsi_cmd.specs.declared.Task.{Task}
use Rattle.scsi_cmd.specs.declared.Task.TheVariants.{Abort, Reset, Query}
use Rattle.scsi_cmd.specs.Held.{held_at}
use Rattle.solo_model.specs.declared.ResponseCode.{ResponseCode}
use Rattle.solo_model.specs.declared.ResponseCode.TheVariants.{Complete, Succeeded}
use Rattle.solo_model.specs.declared.TaskAnswer.TheVariants.{WithResponse}
use Rattle.solo_model.specs.declared.TaskProgress.TheVariants.{Ended}
use Rattle.solo_model.specs.declared.Phase.{Phase}
use Rattle.solo_model.specs.declared.Phase.TheVariants.{Queued, Begun, Sent, Gone}
use Rattle.solo_model.specs.Soundness.{IsSoundOp, IsSoundRequest}
use Rattle.solo_model.specs.TaggedTask.{TaggedTask, after_notes, can_go, carried_request, finds, is_noted, response_number, response_to, unit_managed}
use Rattle.uas_target.specs.declared.DeviceAnswer.TheVariants.{Response}
use Rattle.uas_target.specs.declared.DeviceTask.{DeviceTask}
use Rattle.uas_target.specs.declared.DeviceTask.TheVariants.{Ended as EndedTask}
use Rattle.uas_target.specs.declared.Took.TheVariants.{Began}
use Rattle.uas_target.specs.Device.{Device, received, task_of}
use Rattle.uas_target.specs.Tasks.{is_command_of, spared}
use Rattle.uas_profile.specs.declared.Place.{Place}
use Rattle.uas_profile.specs.declared.TdState.{TdState}
use Rattle.uas_host.specs.declared.HostAnswer.TheVariants.{Unanswered}
use Rattle.uas_profile.specs.Tags.{tag_of}
use Rattle.uas_host.specs.Tds.{command_buffer_of}
use Rattle.shared_machine.specs.Td.{Entry, with_trb_taken}
use Rattle.bus_core.specs.Hosts.{device_task, phase_task}
use Rattle.shared_machine.specs.Part.{Part, entries_after, noted_entry, tasks_in}
use Rattle.shared_machine.specs.Shared.{Shared}
use Rattle.machine_invariant.specs.Matched.{held_in, IsMatched, IsMatchedAt, IsPhaseOf, IsRequestIn, under}
use Rattle.bus_core.specs.World.{World, Cell, cell_at}
use Rattle.bus_core.specs.Cells.{FitsCell, FitsHeld, HasUnitIn, host_side, IsEmptyCell, told_by}
use Rattle.bus_core.specs.Fits.{AreUnused, Fits, FitsPart, IsSoundWorld, place_in, unit_bytes}
use Rattle.bus_core.proofs.carry.Aborted.{code_to, done-kept, done-length, done-task, done-units, done_device, managed_device, phase_after, phase_task-foreign, reaches}
use Rattle.bus_core.proofs.carry.Aborted.{reached-ended, received-managed, spared-noted, unit_managed-count, unreached-kept}
use Rattle.bus_core.proofs.carry.Queried.{KnowsEach, asks_op, query-found}
use Rattle.bus_core.proofs.common.ActFits.{IsPlaced}
use Rattle.bus_core.proofs.common.CellEntries.{cell-phase}
use Rattle.bus_core.proofs.carry.CommandFront.{carried_part, carried_state, command-bytes, received-queues, received_world, tag-bounds}
use Rattle.bus_core.proofs.common.Framing.{AllFit, AllFit-client, EndsAlike, IsFound, engine-kept, fits-anew, found, move_trb-kept, tags-apart}
use Rattle.machine_invariant.proofs.OrderedEntries.{held-changed}
use Rattle.machine_invariant.proofs.OrderedManaged.{IsNotedAsReceived}
use Rattle.shared_machine.proofs.Standing.{held_under-with_same, held_under-with_other, slice_get-back}
use Rattle.uas_profile.specs.Tags.{task_slot}
use Rattle.bus_core.proofs.common.Framing.{beyond-apart}
use Rattle.std.proofs.lemmas.Bool.{eq-eqb}
use Rattle.uas_profile.specs.declared.TheConstants.{COMMAND_BYTES}

-- THE CELL OF A COMMAND

-- the host was told nothing of what can still be ended
untold : (phase : Phase) (state : TdState) → can_go phase ≡ true → told_by phase state ≡ Unanswered
untold Queued state can = refl
untold (Begun progress) state can = refl
untold (Sent answer) state can = let no : false ≡ true = can in let it : ⊥ = cc in absurd it
untold Gone state can = let no : false ≡ true = can in let it : ⊥ = cc in absurd it

-- a command that is gone: the device has nothing of it any more
gone-cell : (tags : ℕ) (client count : ℕ) (place : Place) (entry : Entry) (cell : Cell) (op : Op) → entry.task.request ≡ Execute op → can_go entry.task.phase ≡ true
    → FitsCell tags client count place entry cell
    → FitsCell tags client count place (record entry { task = record entry.task { phase = Gone } }) (record cell { task = None })
gone-cell tags client count place entry cell op asks can fits =
    let whole : IsSoundOp count entry.task op = subst (λ r. IsSoundRequest count entry.task r) asks fits.sound in
    cell-phase tags client count place entry cell Gone entry.command_td cell.held None fits
    (fits.held ∙ ap (λ told. Some (record (host_side entry) { told = told })) (untold entry.task.phase entry.status_td.state can)) refl tt
    (subst (λ r. IsSoundRequest count (record entry.task { phase = Gone }) r) (sym asks) (record { whole = whole.whole; chunk = tt }))

-- one of which the device has as much as before
same-cell : (tags : ℕ) (client count : ℕ) (place : Place) (entry : Entry) (cell : Cell) (task : Option DeviceTask) → task ≡ device_task client entry
    → FitsCell tags client count place entry cell → FitsCell tags client count place entry (record cell { task = task })
same-cell tags client count place entry cell task is fits =
    cell-phase tags client count place entry cell entry.task.phase entry.command_td cell.held task fits fits.held is fits.answer fits.sound

after-cell : (tags : ℕ) (client count : ℕ) (place : Place) (entry : Entry) (cell : Cell) (op : Op) (task : Option DeviceTask) (gone : Bool)
    → entry.task.request ≡ Execute op → (gone ≡ true → can_go entry.task.phase ≡ true)
    → task ≡ phase_task (Some client) (Execute op) (cond gone Gone entry.task.phase) → FitsCell tags client count place entry cell
    → FitsCell tags client count place (record entry { task = cond gone (record entry.task { phase = Gone }) entry.task }) (record cell { task = task })
after-cell tags client count place entry cell op task true asks can is fits =
    subst (λ t. FitsCell tags client count place (record entry { task = record entry.task { phase = Gone } }) (record cell { task = t })) (sym is)
    (gone-cell tags client count place entry cell op asks (can refl) fits)
after-cell tags client count place entry cell op task false asks can is fits =
    same-cell tags client count place entry cell task (is ∙ ap (λ r. phase_task (Some client) r entry.task.phase) (sym asks)) fits

-- a command of the client once the task management was received
noted-is : (noted : List ℕ) (task : TaggedTask) (op : Op) → task.request ≡ Execute op
    → after_notes noted task ≡ cond (can_go task.phase && is_noted noted task.ticket) (record task { phase = Gone }) task
noted-is noted task op asks =
    ap (λ r. cond ((is_command r && can_go task.phase) && is_noted noted task.ticket) (record task { phase = Gone }) task) asks

command-cell : (tags : ℕ) (client count : ℕ) (place : Place) (entry : Entry) (cell : Cell) (op : Op) (task : Option DeviceTask) (noted : List ℕ)
    → entry.task.request ≡ Execute op
    → task ≡ phase_task (Some client) (Execute op) (phase_after (is_noted noted entry.task.ticket) entry.task.phase)
    → FitsCell tags client count place entry cell → FitsCell tags client count place (noted_entry noted entry) (record cell { task = task })
command-cell tags client count place entry cell op task noted asks is fits =
    subst (λ t. FitsCell tags client count place (record entry { task = t }) (record cell { task = task })) (sym (noted-is noted entry.task op asks))
    (after-cell tags client count place entry cell op task (can_go entry.task.phase && is_noted noted entry.task.ticket) asks
    (λ both. (and_parts (can_go entry.task.phase) (is_noted noted entry.task.ticket) both).0) is fits)

-- ITS OWN CELL

-- it is done with as it is received
abbrev pub answered_entry : Entry → ResponseCode → Entry
answered_entry entry code =
    record entry { task = record entry.task { phase = Begun (Ended (WithResponse code)) }; command_td = with_trb_taken entry.command_td }

management-cell : (tags : ℕ) (client count : ℕ) (place : Place) (entry : Entry) (cell : Cell) (what : Task) (noted : ArrayVec ℕ) (code : ResponseCode)
    → entry.task.phase ≡ Queued → entry.task.request ≡ Manage what noted → FitsCell tags client count place entry cell
    → FitsCell tags client count place (answered_entry entry code) (record cell { task = Some (EndedTask None (Response (response_number code))) })
management-cell tags client count place entry cell what noted code queued asks fits =
    cell-phase tags client count place entry cell (Begun (Ended (WithResponse code))) (with_trb_taken entry.command_td) cell.held
    (Some (EndedTask None (Response (response_number code)))) fits
    (fits.held ∙ ap (λ p. Some (record (host_side entry) { told = told_by p entry.status_td.state })) queued)
    (ap (λ r. phase_task (Some client) r (Begun (Ended (WithResponse code)))) (sym asks)) tt
    (subst (λ r. IsSoundRequest count (record entry.task { phase = Begun (Ended (WithResponse code)) }) r) (sym asks) tt)

-- THE DEVICE'S TASKS

-- the world once the device received a task management of the client of a place
abbrev pub managed_world : ℕ → World → Place → BlockMaps → Task → World
managed_world tags world place unit what = received_world world (managed_device world.device place.client (tag_of tags place) unit what)

-- the task of another tag is what the function left of it
other-task : (device : Device) (number tag : ℕ) (unit : BlockMaps) (what : Task) (other : ℕ) → (other ≡ tag → ⊥)
    → task_of (managed_device device number tag unit what) other ≡ task_of (done_device device number unit what) other
other-task device number tag unit what other apart =
    held_under-with_other (done_device device number unit what).tasks tag other (Some (EndedTask None (Response (code_to device number what)))) apart

-- a cell of another client has no command to the unit
held-foreign : (tags : ℕ) (client other count : ℕ) (place : Place) (held : Option Entry) (cell : Cell) → (other ≡ client → ⊥) → FitsHeld tags other count place held cell
    → IfSome cell.task (λ task. is_command_of client task ≡ false)
held-foreign tags client other count place None cell apart fits =
    subst (λ t. IfSome t (λ task. is_command_of client task ≡ false)) (sym fits.task) tt
held-foreign tags client other count place (Some entry) cell apart fits =
    subst (λ t. IfSome t (λ task. is_command_of client task ≡ false)) (sym fits.task)
    (phase_task-foreign client other entry.task.request entry.task.phase apart)

-- so that the cells of all other clients are as they were
other-cells : (state : Shared) (world : World) (place : Place) (unit : BlockMaps) (what : Task) (other at : ℕ) (part : Part) → Fits state world
    → place.slot < state.tags → (other ≡ place.client → ⊥) → slice_get state.parts other ≡ Some part → at < state.tags
    → cell_at state.tags (managed_world state.tags world place unit what) (place_in other at) ≡ cell_at state.tags world (place_in other at)
other-cells state world place unit what other at part fits within apart is inside =
    let it : IsFound state.tags world other part = found state.tags world state.parts other part fits.clients is in
    let foreign = held-foreign state.tags place.client other part.unit.count (place_in other at) (held_at part.entries at) (cell_at state.tags world (place_in other at)) apart
    (it.fits.cells at inside) in
    let task_is = other-task world.device place.client (tag_of state.tags place) unit what (tag_of state.tags (place_in other at))
    (tags-apart state.tags other place.client at place.slot inside within apart)
    ∙ done-kept world.device place.client unit what (tag_of state.tags (place_in other at)) foreign in
    ap (λ t. record (cell_at state.tags world (place_in other at)) { task = t }) task_is

-- THE CELLS OF THE CLIENT

slot-cell : (state : Shared) (world : World) (place : Place) (unit : BlockMaps) (what : Task) (noted : ArrayVec ℕ) (count at : ℕ) (entry : Entry)
    → at < (task_slot state.tags) → place.slot ≡ (task_slot state.tags) → tag_of state.tags (place_in place.client at) ≤ length world.device.tasks
    → IsNotedAsReceived state.tags place.client at what noted entry → IsRequestIn state.tags at entry.task.request → IsPhaseOf entry.task.request entry.task.phase
    → FitsCell state.tags place.client count (place_in place.client at) entry (cell_at state.tags world (place_in place.client at))
    → FitsCell state.tags place.client count (place_in place.client at) (noted_entry (ended_by what noted).items entry)
    (cell_at state.tags (managed_world state.tags world place unit what) (place_in place.client at))
slot-cell state world place unit what noted count at entry below last most knows asks answers fits =
    let tag : ℕ = tag_of state.tags (place_in place.client at) in
    let op = asks_op state.tags at entry.task.request asks below in
    let was : task_of world.device (tag_of state.tags (place_in place.client at)) ≡ phase_task (Some place.client) (Execute op.0) entry.task.phase =
    fits.task ∙ ap (λ r. phase_task (Some place.client) r entry.task.phase) op.1 in
    let task_is = other-task world.device place.client (tag_of state.tags place) unit what (tag_of state.tags (place_in place.client at))
    (λ same. omega (arith, same, below, last))
    ∙ done-task world.device place.client unit what (tag_of state.tags (place_in place.client at)) (omega arith) most
    ∙ ap (λ t. cond (reaches what (tag_of state.tags (place_in place.client at))) (spared place.client t) t) was
    ∙ spared-noted place.client op.0 entry.task.phase (reaches what (tag_of state.tags (place_in place.client at)))
    (is_noted (ended_by what noted).items entry.task.ticket) (subst (λ r. IsPhaseOf r entry.task.phase) op.1 answers)
    (λ received reached. reached-ended state.tags place.client at what noted entry.task.ticket reached (knows.named received))
    (λ unreached. unreached-kept state.tags place.client at what noted entry.task.ticket unreached knows.unnamed) in
    command-cell state.tags place.client count (place_in place.client at) entry (cell_at state.tags world (place_in place.client at)) op.0
    (task_of (managed_world state.tags world place unit what).device (tag_of state.tags (place_in place.client at))) (ended_by what noted).items op.1 task_is fits

empty-cell : (tags : ℕ) (world : World) (place : Place) (unit : BlockMaps) (what : Task) (at : ℕ) → at < (task_slot tags) → place.slot ≡ (task_slot tags)
    → IsEmptyCell (cell_at tags world (place_in place.client at)) → IsEmptyCell (cell_at tags (managed_world tags world place unit what) (place_in place.client at))
empty-cell tags world place unit what at below last empty = record {
  held = empty.held;
  task = other-task world.device place.client (tag_of tags place) unit what (tag_of tags (place_in place.client at)) (λ same. omega (arith, same, below, last))
      ∙ done-kept world.device place.client unit what (tag_of tags (place_in place.client at))
      (subst (λ t. IfSome t (λ task. is_command_of place.client task ≡ false)) (sym empty.task) tt)
      ∙ empty.task;
  status = empty.status;
  data_in = empty.data_in;
  data_out = empty.data_out;
  lent = empty.lent;
}

slot-fits : (state : Shared) (world : World) (place : Place) (unit : BlockMaps) (what : Task) (noted : ArrayVec ℕ) (count at : ℕ) (held : Option Entry)
    → at < (task_slot state.tags) → place.slot ≡ (task_slot state.tags) → tag_of state.tags (place_in place.client at) ≤ length world.device.tasks → KnowsEach state place what noted
    → IsMatched state → under state.parts (place_in place.client at) ≡ held
    → FitsHeld state.tags place.client count (place_in place.client at) held (cell_at state.tags world (place_in place.client at))
    → FitsHeld state.tags place.client count (place_in place.client at) (option_map (noted_entry (ended_by what noted).items) held)
    (cell_at state.tags (managed_world state.tags world place unit what) (place_in place.client at))
slot-fits state world place unit what noted count at None below last most knows all is fits = empty-cell state.tags world place unit what at below last fits
slot-fits state world place unit what noted count at (Some entry) below last most knows all is fits =
    let matched : IsMatchedAt state (place_in place.client at) (Some entry) =
    subst (λ h. IsMatchedAt state (place_in place.client at) h) is (all.places (place_in place.client at)) in
    slot-cell state world place unit what noted count at entry below last most (knows at entry below is) matched.sound.asks matched.sound.answers fits

-- ITS PART

-- the slots but the last are for commands
below-last : (tags : ℕ) (slot last : ℕ) → slot < tags → last ≡ (task_slot tags) → (slot ≡ last → ⊥) → slot < (task_slot tags)
below-last tags slot last inside is apart =
    let other : slot ≡ (task_slot tags) → ⊥ = λ same. apart (same ∙ sym is) in
    omega (arith, inside, other)

-- the part once its task management was received
abbrev pub response_in : Part → Task → ArrayVec ℕ → ResponseCode
response_in part what noted = response_to what (finds (Manage what noted) (tasks_in part.entries))

abbrev pub managed_now : Part → ℕ → Entry → Task → ArrayVec ℕ → Part
managed_now part slot entry what noted = record part {
  entries = slice_set (map (option_map (noted_entry (ended_by what noted).items)) part.entries) slot
      (Some (answered_entry entry (response_in part what noted)));
  unit = unit_managed part.unit what;
}

pub carried-now : (part : Part) (slot : ℕ) (entry : Entry) (what : Task) (noted : ArrayVec ℕ) → entry.task.request ≡ Manage what noted
    → carried_part part slot entry (carried_request part.unit (finds entry.task.request (tasks_in part.entries)) entry.task entry.task.request) ≡ managed_now part slot entry what noted
carried-now part slot entry what noted asks =
    ap (λ r. record part {
      entries = slice_set (entries_after r part.entries) slot
          (Some (record entry { task = (carried_request part.unit (finds r (tasks_in part.entries)) entry.task r).1; command_td = with_trb_taken entry.command_td }));
      unit = (carried_request part.unit (finds r (tasks_in part.entries)) entry.task r).0;
    }) asks

-- the device's response is the shared machine's
code-is : (state : Shared) (world : World) (place : Place) (entry : Entry) (what : Task) (noted : ArrayVec ℕ) (at : IsPlaced state world place entry)
    → Fits state world → entry.task.phase ≡ Queued → place.slot ≡ (task_slot state.tags) → KnowsEach state place what noted
    → code_to world.device place.client what ≡ response_number (response_in at.part what noted)
code-is state world place entry (Abort tag) noted at fits queued last knows = refl
code-is state world place entry Reset noted at fits queued last knows = refl
code-is state world place entry (Query tag) noted at fits queued last knows =
    ap (λ b. cond b 8 0)
    (query-found state world place entry tag noted (record { at = at; fits = fits; queued = queued; last = last; knows = knows }) at)
    ∙ number (finds (Manage (Query tag) noted) (tasks_in at.part.entries))
  where
    number : (found : Bool) → cond found 8 0 ≡ response_number (cond found Succeeded Complete)
    number true = refl
    number false = refl

part-fits : (state : Shared) (world : World) (place : Place) (entry : Entry) (what : Task) (noted : ArrayVec ℕ) (at : IsPlaced state world place entry)
    → Fits state world → entry.task.phase ≡ Queued → entry.task.request ≡ Manage what noted → place.slot ≡ (task_slot state.tags) → KnowsEach state place what noted
    → FitsPart state.tags (managed_world state.tags world place at.part.unit what) place.client (unit_managed at.part.unit what) at.client.held
    (managed_now at.part place.slot entry what noted)
part-fits state world place entry what noted at fits queued asks last knows =
    let after : World = managed_world state.tags world place at.part.unit what in
    let client : ℕ = place.client in
    let count : ℕ = at.part.unit.count in
    let change : Entry → Entry = noted_entry (ended_by what noted).items in
    let others : List (Option Entry) = map (option_map (noted_entry (ended_by what noted).items)) at.part.entries in
    let long : length (map (option_map (noted_entry (ended_by what noted).items)) at.part.entries) ≡ length at.part.entries =
    length-map at.part.entries (option_map (noted_entry (ended_by what noted).items)) in
    let tag = tag-bounds state world place entry at fits in
    let tasks : length (done_device world.device place.client at.part.unit what).tasks ≡ length world.device.tasks =
    done-length world.device place.client at.part.unit what in
    record {
      number = at.client.fits.number;
      unit_same = refl;
      least_ticket = at.client.fits.least_ticket;
      ready = at.client.fits.ready;
      slots = length-set (map (option_map (noted_entry (ended_by what noted).items)) at.part.entries) place.slot (Some (answered_entry entry (response_in at.part what noted))) ∙ long ∙ at.client.fits.slots;
      cells = λ slot inside.
          subst (λ n. FitsHeld state.tags place.client n (place_in place.client slot)
          (held_at (slice_set (map (option_map (noted_entry (ended_by what noted).items)) at.part.entries) place.slot (Some (answered_entry entry (response_in at.part what noted)))) slot)
          (cell_at state.tags (managed_world state.tags world place at.part.unit what) (place_in place.client slot))) (sym (unit_managed-count at.part.unit what))
          (elim (slot == place.slot) as (λ b. (slot == place.slot) ≡ b → FitsHeld state.tags place.client at.part.unit.count (place_in place.client slot)
          (held_at (slice_set (map (option_map (noted_entry (ended_by what noted).items)) at.part.entries) place.slot (Some (answered_entry entry (response_in at.part what noted)))) slot)
          (cell_at state.tags (managed_world state.tags world place at.part.unit what) (place_in place.client slot))) [
            | true ↦ λ is.
                subst (λ s. FitsHeld state.tags place.client at.part.unit.count (place_in place.client s)
                (held_at (slice_set (map (option_map (noted_entry (ended_by what noted).items)) at.part.entries) place.slot (Some (answered_entry entry (response_in at.part what noted)))) s)
                (cell_at state.tags (managed_world state.tags world place at.part.unit what) (place_in place.client s))) (sym (eqb-true slot place.slot is))
                (subst (λ h. FitsHeld state.tags place.client at.part.unit.count place h (cell_at state.tags (managed_world state.tags world place at.part.unit what) place))
                (sym (get_or-set_same (map (option_map (noted_entry (ended_by what noted).items)) at.part.entries) place.slot (Some (answered_entry entry (response_in at.part what noted))) None
                (omega (arith, long, at.client.fits.slots, last))))
                (subst (λ t. FitsCell state.tags place.client at.part.unit.count place (answered_entry entry (response_in at.part what noted))
                (record (cell_at state.tags world place) { task = t }))
                (sym (held_under-with_same (done_device world.device place.client at.part.unit what).tasks (tag_of state.tags place)
                (Some (EndedTask None (Response (code_to world.device place.client what)))) tag.0 (omega (arith, tag.1, tasks, fits.sound.tags))
                ∙ ap (λ code. Some (EndedTask None (Response code))) (code-is state world place entry what noted at fits queued last knows)))
                (management-cell state.tags place.client at.part.unit.count place entry (cell_at state.tags world place) what noted (response_in at.part what noted) queued asks
                at.cell)))
            | false ↦ λ is.
                let apart : slot ≡ place.slot → ⊥ = eqb-false slot place.slot is in
                subst (λ h. FitsHeld state.tags place.client at.part.unit.count (place_in place.client slot) h
                (cell_at state.tags (managed_world state.tags world place at.part.unit what) (place_in place.client slot)))
                (sym (get_or-set_other (map (option_map (noted_entry (ended_by what noted).items)) at.part.entries) place.slot slot (Some (answered_entry entry (response_in at.part what noted))) None apart
                ∙ held-changed (noted_entry (ended_by what noted).items) at.part.entries slot))
                (slot-fits state world place at.part.unit what noted at.part.unit.count slot (held_at at.part.entries slot)
                (below-last state.tags slot place.slot inside last apart) last
                (omega (arith, tag.1, fits.sound.tags, inside, last)) knows fits.matched
                (ap (λ found. option_map_or (held_in (place_in place.client slot)) found None) at.there)
                (at.client.fits.cells slot inside))
          ] refl);
    }

-- ALL CLIENTS

all-fit : (state : Shared) (world : World) (place : Place) (entry : Entry) (what : Task) (noted : ArrayVec ℕ) (at : IsPlaced state world place entry)
    → Fits state world → FitsPart state.tags (managed_world state.tags world place at.part.unit what) place.client (unit_managed at.part.unit what) at.client.held
    (managed_now at.part place.slot entry what noted)
    → AllFit state.tags (managed_world state.tags world place at.part.unit what) (slice_set state.parts place.client (managed_now at.part place.slot entry what noted))
all-fit state world place entry what noted at fits own =
    AllFit-client state.tags world (managed_world state.tags world place at.part.unit what) state.parts place.client (unit_managed at.part.unit what) at.client.held at.part
    (managed_now at.part place.slot entry what noted) fits.clients at.there (record {
      hosts = sym (slice_get-back world.host.clients place.client at.client.held at.client.held_is);
      units = done-units world.device place.client at.part.unit what at.client.unit_is;
      others = λ other there apart is slot within.
          other-cells state world place at.part.unit what other slot there fits at.is_place.slot apart is within;
    }) own

-- THE WORLD

-- no enqueue place moves
ends-alike : (world : World) (device : Device) (pipe : Pipe) (tag : ℕ)
    → EndsAlike (ring_of world.lines pipe tag) (ring_of (received_world world device).lines pipe tag)
ends-alike world device Command tag = record { base = refl; at = refl; put = refl }
ends-alike world device Status tag = record { base = refl; at = refl; put = refl }
ends-alike world device DataIn tag = record { base = refl; at = refl; put = refl }
ends-alike world device DataOut tag = record { base = refl; at = refl; put = refl }

pub managed-fits : (state : Shared) (world : World) (place : Place) (rest : List Place) (entry : Entry) (what : Task) (noted : ArrayVec ℕ)
    (at : IsPlaced state world place entry) → Fits state world → state.messages ≡ place ∷ rest → entry.task.phase ≡ Queued
    → entry.task.request ≡ Manage what noted → place.slot ≡ (task_slot state.tags) → KnowsEach state place what noted
    → IsMatched (carried_state state place rest (managed_now at.part place.slot entry what noted))
    → IsSoundWorld (managed_world state.tags world place at.part.unit what)
    → Fits (carried_state state place rest (managed_now at.part place.slot entry what noted)) (managed_world state.tags world place at.part.unit what)
managed-fits state world place rest entry what noted at fits is queued asks last knows matched sound =
    let now : Part = managed_now at.part place.slot entry what noted in
    let device : Device = managed_device world.device place.client (tag_of state.tags place) at.part.unit what in
    let long : length (slice_set state.parts place.client (managed_now at.part place.slot entry what noted)) ≡ length state.parts =
    length-set state.parts place.client (managed_now at.part place.slot entry what noted) in
    fits-anew state (carried_state state place rest now) world (managed_world state.tags world place at.part.unit what) fits refl refl long
    (record { status = fits.status; data_in = fits.data_in; data_out = fits.data_out }) sound
    (received-queues state world place rest device (slice_set state.parts place.client now) fits is)
    (engine-kept state (carried_state state place rest now) world (managed_world state.tags world place at.part.unit what) fits.engine refl refl refl refl
    (λ r under_way. move_trb-kept world.lines (managed_world state.tags world place at.part.unit what).lines r.pipe (tag_of state.tags r.place)
    (ends-alike world device r.pipe (tag_of state.tags r.place)))) matched
    (all-fit state world place entry what noted at fits (part-fits state world place entry what noted at fits queued asks last knows))
    (λ tag above. let none : task_of world.device tag ≡ None = fits.others tag above in
    other-task world.device place.client (tag_of state.tags place) at.part.unit what tag (beyond-apart state.tags (length state.parts) place tag at.is_place above)
    ∙ done-kept world.device place.client at.part.unit what tag
    (subst (λ t. IfSome t (λ task. is_command_of place.client task ≡ false)) (sym none) tt)
    ∙ none)
    (λ tag above. let was : AreUnused world.lines tag = fits.unused tag above in
    record { status = was.status; data_in = was.data_in; data_out = was.data_out })

-- THE CALL

-- the device receives the unit of a task management that waits
pub management-received : (state : Shared) (world : World) (place : Place) (entry : Entry) (what : Task) (noted : ArrayVec ℕ)
    (at : IsPlaced state world place entry) → Fits state world → entry.task.phase ≡ Queued → entry.task.request ≡ Manage what noted
    → place.slot ≡ (task_slot state.tags)
    → received world.device (bytes_at world.frames (command_buffer_of (tag_of state.tags place)) (unit_bytes state.tags place.slot))
    ≡ (managed_device world.device place.client (tag_of state.tags place) at.part.unit what, Ok (Began (tag_of state.tags place)))
management-received state world place entry what noted at fits queued asks last =
    let tag = tag-bounds state world place entry at fits in
    let unit : HasUnitIn place.client (tag_of state.tags place) (Manage what noted) (held_for world.frames (tag_of state.tags place)).command =
    subst (λ r. HasUnitIn place.client (tag_of state.tags place) r (held_for world.frames (tag_of state.tags place)).command) asks at.cell.unit in
    let free : task_of world.device (tag_of state.tags place) ≡ None =
    at.cell.task ∙ ap (λ p. phase_task (Some place.client) entry.task.request p) queued in
    ap (λ slot. received world.device (bytes_at world.frames (command_buffer_of (tag_of state.tags place)) (unit_bytes state.tags slot))) last
    ∙ ap (λ b. received world.device (bytes_at world.frames (command_buffer_of (tag_of state.tags place)) (cond b 16 COMMAND_BYTES)))
    (eq-eqb (task_slot state.tags) (task_slot state.tags) refl)
    ∙ ap (received world.device)
    (command-bytes world.frames (tag_of state.tags place) 16 fits.sound.frames tag.0 (omega (arith, tag.1)) (omega arith) (omega arith) ∙ unit.0)
    ∙ received-managed world.device place.client (tag_of state.tags place) what noted at.part.unit at.client.unit_is tag.2 unit.1 tag.3 free
