-- A step of the command pipe: the device receives the unit of the first message, a command's or a task management's.
use Rattle.std.proofs.Common.{◌≡◌, ℕ, ◌^◌, ◌<◌, ◌≤◌, Bool, true, false, cond, List, [], ◌∷◌, ◌++◌, length, length-append, Option, Some, None, Ok, refl}
use Rattle.std.proofs.Common.{arith, ap, sym, subst, ◌∙◌}
use Rattle.std.specs.Prelude.{slice_get, slice_set, IfSome}
use Rattle.std.proofs.lemmas.Bool.{lt-ltb, le-ltb}
use Rattle.std.proofs.lemmas.List.{length-map, take_all}
use Rattle.block_unit.specs.BlockMaps.{BlockMaps}
use Rattle.frame_store.specs.Buffers.{bytes_at, held_for}
use Rattle.scsi_cmd.specs.declared.Op.{Op}
use Rattle.scsi_cmd.specs.declared.Request.{Request}
use Rattle.scsi_cmd.specs.declared.Request.TheVariants.{Execute, Manage}
use Rattle.uas_profile.specs.declared.TheConstants.{STREAMS, COMMAND_BYTES}
use Rattle.scsi_cmd.specs.Held.{held_under, with_held_under}
use Rattle.scsi_cmd.specs.Laws.{length-cdb_bytes}
use Rattle.scsi_cmd.specs.Op.{cdb_bytes}
use Rattle.scsi_cmd.specs.Work.{checked_work, reports_attention}
use Rattle.solo_model.specs.declared.Phase.TheVariants.{Queued, Begun}
use Rattle.solo_model.specs.Soundness.{IsSoundOp, IsSoundProgress, IsSoundRequest}
use Rattle.solo_model.specs.TaggedTask.{carried_request, command_begun, finds}
use Rattle.solo_model.specs.declared.TaskProgress.{TaskProgress}
use Rattle.device_server.specs.Server.{begun}
use Rattle.device_server.specs.Laws.{HasChunk-begun, begun-count}
use Rattle.uas_iu.specs.Lun.{lun_text}
use Rattle.uas_target.specs.declared.DeviceTask.{DeviceTask}
use Rattle.uas_target.specs.declared.Took.TheVariants.{Began}
use Rattle.uas_target.specs.Device.{Device, received, task_of, has_place}
use Rattle.uas_target.proofs.Received.{received-command}
use Rattle.uas_profile.specs.declared.Place.{Place}
use Rattle.uas_profile.specs.Tags.{tag_of}
use Rattle.uas_host.specs.Tds.{command_buffer_of}
use Rattle.xhci_ctl.specs.declared.Acted.{Acted}
use Rattle.xhci_ctl.specs.declared.Acted.TheVariants.{Idle}
use Rattle.xhci_ctl.specs.Own.{IsOwnCommand, IsOwnCommandFront}
use Rattle.xhci_ctl.specs.Pipes.{has_pending}
use Rattle.xhci_ctl.specs.Steps.{Sides, has_event_room, on_front, received_at}
use Rattle.shared_machine.specs.declared.Completion.TheVariants.{CommandDone}
use Rattle.shared_machine.specs.declared.Step.TheVariants.{CommandPipe}
use Rattle.shared_machine.specs.Td.{Entry, with_trb_taken}
use Rattle.bus_core.specs.Wire.{request_text}
use Rattle.bus_core.specs.Hosts.{begun_task, phase_task}
use Rattle.shared_machine.specs.Part.{Part, entries_after, tasks_in}
use Rattle.shared_machine.specs.Shared.{Shared, is_some_of, shared_step}
use Rattle.machine_invariant.specs.Matched.{carried_places, IsMatched, IsOwnMessage, IsRequestIn, under}
use Rattle.bus_core.specs.World.{World, Cell, cell_at, sides_in, with_sides}
use Rattle.bus_core.specs.Cells.{FitsCell, HasUnitIn, host_side, told_by}
use Rattle.bus_core.specs.Fits.{command_item, Fits, IsSoundWorld, unit_bytes}
use Rattle.bus_core.specs.WorldSteps.{CommandFits, CommandsFit, NoCommandIsIdle, command_world}
use Rattle.bus_core.specs.WorldDue.{CommandsAreDue}
use Rattle.bus_core.proofs.common.ActFits.{IsActed, IsPlaced, acted_state, acted-fits, placed}
pub use Rattle.bus_core.proofs.carry.CommandFront.{event-room}
use Rattle.bus_core.proofs.carry.CommandFront.{carried_part, carried_state, carried-stepped, command-bytes, command-own, commanded-is, no-front, received-ends}
use Rattle.bus_core.proofs.carry.CommandFront.{received-queues, received_world, tag-bounds, unit_bytes-command}
use Rattle.bus_core.proofs.carry.DeviceSteps.{received-op, sound-command}
use Rattle.bus_core.proofs.common.EventTexts.{KeepsOthers}
use Rattle.bus_core.proofs.common.CellEntries.{cell-phase}
use Rattle.bus_core.proofs.carry.ManagedFits.{carried-now, managed-fits, managed_now, managed_world, management-received}
use Rattle.machine_invariant.proofs.MatchedNext.{matched-no_stray}
use Rattle.machine_invariant.proofs.MatchedSteps.{shared_step-matched}
use Rattle.machine_invariant.proofs.OrderedManaged.{noted-as_received}
use Rattle.shared_machine.proofs.Standing.{held_under-with_same, held_under-with_other}
use Rattle.uas_profile.specs.Tags.{task_slot}

-- THE DEVICE RECEIVES A COMMAND

-- the unit and where the command is, once the device received it
abbrev pub begins : BlockMaps → Op → BlockMaps × TaskProgress
begins unit op = command_begun (begun unit (reports_attention op) (checked_work op unit.count))

-- the device once it received a command to the unit of a client
abbrev pub received_device : Device → ℕ → ℕ → BlockMaps × TaskProgress → Op → Device
received_device device client tag after op =
    record { units = slice_set device.units client after.0; tasks = with_held_under device.tasks tag (begun_task (Some client) (Execute op) after.1) }

pub began-op : (device : Device) (number tag : ℕ) (op : Op) (unit : BlockMaps) → slice_get device.units number ≡ Some unit → tag < 2 ^ 16
    → has_place device tag ≡ true → held_under device.tasks tag ≡ None
    → received device (request_text number tag (Execute op))
    ≡ (received_device device number tag (begins unit op) op, Ok (Began tag))
began-op device number tag op unit is less is_one free =
    let began : (received device (request_text number tag (Execute op))).1 ≡ Ok (Began tag) =
    ap (λ r. r.1) (received-command device tag (lun_text number) (cdb_bytes op) (less, refl, length-cdb_bytes op)) ∙ rw (is_one, free) refl in
    let device_is : (received device (request_text number tag (Execute op))).0 ≡ received_device device number tag (begins unit op) op =
    received-op device number tag op unit is less is_one free in
    λ i. (device_is i, began i)

-- what it is after it received the command of a place
abbrev device_after : ℕ → World → Place → BlockMaps × TaskProgress → Op → Device
device_after tags world place after op = received_device world.device place.client (tag_of tags place) after op

command-received : (state : Shared) (world : World) (place : Place) (entry : Entry) (op : Op) (at : IsPlaced state world place entry)
    → Fits state world → entry.task.phase ≡ Queued → entry.task.request ≡ Execute op → place.slot < (task_slot state.tags)
    → received world.device (bytes_at world.frames (command_buffer_of (tag_of state.tags place)) (unit_bytes state.tags place.slot))
    ≡ (device_after state.tags world place (begins at.part.unit op) op, Ok (Began (tag_of state.tags place)))
command-received state world place entry op at fits queued asks below =
    let tag = tag-bounds state world place entry at fits in
    let unit : HasUnitIn place.client (tag_of state.tags place) (Execute op) (held_for world.frames (tag_of state.tags place)).command =
    subst (λ r. HasUnitIn place.client (tag_of state.tags place) r (held_for world.frames (tag_of state.tags place)).command) asks at.cell.unit in
    let free : task_of world.device (tag_of state.tags place) ≡ None =
    at.cell.task ∙ ap (λ p. phase_task (Some place.client) entry.task.request p) queued in
    ap (λ n. received world.device (bytes_at world.frames (command_buffer_of (tag_of state.tags place)) n)) (unit_bytes-command state.tags place.slot below)
    ∙ ap (received world.device) (command-bytes world.frames (tag_of state.tags place) COMMAND_BYTES fits.sound.frames tag.0 (omega (arith, tag.1)) (omega arith) (omega arith)
    ∙ take_all COMMAND_BYTES (held_for world.frames (tag_of state.tags place)).command (omega (arith, (fits.sound.frames.sizes (tag_of state.tags place) tag.0 (omega (arith, tag.1))).command))
    ∙ unit)
    ∙ began-op world.device place.client (tag_of state.tags place) op at.part.unit at.client.unit_is tag.2 tag.3 free

-- ITS CELL

abbrev pub received_entry : Entry → TaskProgress → Entry
received_entry entry progress = record entry { task = record entry.task { phase = Begun progress }; command_td = with_trb_taken entry.command_td }

received-cell : (tags : ℕ) (client count : ℕ) (place : Place) (entry : Entry) (cell : Cell) (op : Op) (progress : TaskProgress) → entry.task.phase ≡ Queued
    → entry.task.request ≡ Execute op → IsSoundProgress count op progress → FitsCell tags client count place entry cell
    → FitsCell tags client count place (received_entry entry progress) (record cell { task = begun_task (Some client) (Execute op) progress })
received-cell tags client count place entry cell op progress queued asks chunk fits =
    let whole : IsSoundOp count entry.task op = subst (λ r. IsSoundRequest count entry.task r) asks fits.sound in
    cell-phase tags client count place entry cell (Begun progress) (with_trb_taken entry.command_td) cell.held (begun_task (Some client) (Execute op) progress) fits
    (fits.held ∙ ap (λ p. Some (record (host_side entry) { told = told_by p entry.status_td.state })) queued)
    (ap (λ r. begun_task (Some client) r progress) (sym asks)) tt
    (subst (λ r. IsSoundRequest count (record entry.task { phase = Begun progress }) r) (sym asks) (record { whole = whole.whole; chunk = chunk }))

-- THE WORLD

received-others : (tags : ℕ) (world : World) (place : Place) (after : BlockMaps × TaskProgress) (op : Op)
    → KeepsOthers tags world (received_world world (device_after tags world place after op)) place
received-others tags world place after op other at inside apart =
    ap (λ t. record (cell_at tags world (record { client = other; slot = at })) { task = t })
    (held_under-with_other world.device.tasks (tag_of tags place) (tag_of tags (record { client = other; slot = at }))
    (begun_task (Some place.client) (Execute op) after.1) apart)

received-acted : (state : Shared) (world : World) (place : Place) (rest : List Place) (entry : Entry) (op : Op) (at : IsPlaced state world place entry)
    → Fits state world → state.messages ≡ place ∷ rest → entry.task.phase ≡ Queued → entry.task.request ≡ Execute op
    → IsActed state world (received_world world (device_after state.tags world place (begins at.part.unit op) op)) place at.part
    (begins at.part.unit op).0 (received_entry entry (begins at.part.unit op).1) rest (CommandDone place ∷ [])
received-acted state world place rest entry op at fits is queued asks =
    let tag = tag-bounds state world place entry at fits in
    let task : Option DeviceTask = begun_task (Some place.client) (Execute op) (begins at.part.unit op).1 in
    record {
      host = refl;
      controller = refl;
      engine = refl;
      units = refl;
      tasks = λ other apart. held_under-with_other world.device.tasks (tag_of state.tags place) other task apart;
      others = received-others state.tags world place (begins at.part.unit op) op;
      ends = received-ends state world place (device_after state.tags world place (begins at.part.unit op) op);
      count = begun-count at.part.unit (reports_attention op) (checked_work op at.part.unit.count);
      cell = subst (λ t. FitsCell state.tags place.client at.part.unit.count place (received_entry entry (begins at.part.unit op).1)
          (record (cell_at state.tags world place) { task = t }))
          (sym (held_under-with_same world.device.tasks (tag_of state.tags place) task (omega (arith, tag.0)) (omega (arith, tag.1, fits.sound.tags))))
          (received-cell state.tags place.client at.part.unit.count place entry (cell_at state.tags world place) op (begins at.part.unit op).1 queued asks
          (sound-command at.part.unit.count op (begun at.part.unit (reports_attention op) (checked_work op at.part.unit.count)).1
          (HasChunk-begun at.part.unit (reports_attention op) op)) at.cell);
      queues = received-queues state world place rest (device_after state.tags world place (begins at.part.unit op) op)
          (acted_state state place at.part (begins at.part.unit op).0 (received_entry entry (begins at.part.unit op).1) rest (CommandDone place ∷ [])).parts
          fits is;
    }

-- the shared machine's step
command-stepped : (state : Shared) (place : Place) (rest : List Place) (part : Part) (entry : Entry) (op : Op) → entry.task.request ≡ Execute op
    → carried_state state place rest (carried_part part place.slot entry (carried_request part.unit (finds entry.task.request (tasks_in part.entries)) entry.task entry.task.request))
    ≡ acted_state state place part (begins part.unit op).0 (received_entry entry (begins part.unit op).1) rest (CommandDone place ∷ [])
command-stepped state place rest part entry op asks =
    ap (λ r. carried_state state place rest (record part {
      entries = slice_set (entries_after r part.entries) place.slot
          (Some (record entry { task = (carried_request part.unit (finds r (tasks_in part.entries)) entry.task r).1; command_td = with_trb_taken entry.command_td }));
      unit = (carried_request part.unit (finds r (tasks_in part.entries)) entry.task r).0;
    })) asks

-- A STEP

-- from what the controller made of the world and what the shared machine made of the state
command-by : (state now : Shared) (world : World) (place : Place) (rest : List Place) (device : Device) → Fits state world → state.messages ≡ place ∷ rest
    → 1 ≤ tag_of state.tags place → tag_of state.tags place ≤ STREAMS
    → received world.device (bytes_at world.frames (command_buffer_of (tag_of state.tags place)) (unit_bytes state.tags place.slot)) ≡ (device, Ok (Began (tag_of state.tags place)))
    → (shared_step state CommandPipe).0 ≡ now
    → (IsMatched now → IsSoundWorld (received_world world device) → Fits now (received_world world device))
    → CommandFits state world place
command-by state now world place rest device fits is some most receives stepped then =
    let called = commanded-is state world place rest device fits is receives in
    record {
      own = command-own state world place rest fits is some most;
      acted = ap (λ c. c.1) called;
      fits = λ sound.
          subst (λ s. Fits s (command_world world)) (sym stepped)
          (subst (λ (c : Sides × Acted). Fits now (with_sides world c.0)) (sym called)
          (then (subst IsMatched stepped (shared_step-matched state CommandPipe fits.matched))
          (subst (λ (c : Sides × Acted). IsSoundWorld (with_sides world c.0)) called sound)));
    }

command-at : (state : Shared) (world : World) (place : Place) (rest : List Place) (entry : Entry) (request : Request) (at : IsPlaced state world place entry)
    → Fits state world → state.messages ≡ place ∷ rest → under state.parts place ≡ Some entry → entry.task.phase ≡ Queued → IsRequestIn state.tags place.slot request
    → entry.task.request ≡ request → CommandFits state world place
command-at state world place rest entry (Execute op) at fits is standing queued here asks =
    let tag = tag-bounds state world place entry at fits in
    let after : BlockMaps × TaskProgress = begins at.part.unit op in
    command-by state
    (acted_state state place at.part (begins at.part.unit op).0 (received_entry entry (begins at.part.unit op).1) rest (CommandDone place ∷ []))
    world place rest (device_after state.tags world place (begins at.part.unit op) op) fits is tag.0 (omega (arith, tag.1))
    (command-received state world place entry op at fits queued asks here)
    (carried-stepped state place rest at.part entry is at.there at.held queued ∙ command-stepped state place rest at.part entry op asks)
    (λ matched sound.
    acted-fits state world (received_world world (device_after state.tags world place (begins at.part.unit op) op)) place entry
    (received_entry entry (begins at.part.unit op).1) (begins at.part.unit op).0 rest (CommandDone place ∷ []) at fits
    (received-acted state world place rest entry op at fits is queued asks) matched sound)
command-at state world place rest entry (Manage what noted) at fits is standing queued here asks =
    let tag = tag-bounds state world place entry at fits in
    command-by state (carried_state state place rest (managed_now at.part place.slot entry what noted)) world place rest
    (managed_world state.tags world place at.part.unit what).device fits is tag.0 (omega (arith, tag.1))
    (management-received state world place entry what noted at fits queued asks here)
    (carried-stepped state place rest at.part entry is at.there at.held queued
    ∙ ap (carried_state state place rest) (carried-now at.part place.slot entry what noted asks))
    (λ matched sound.
    managed-fits state world place rest entry what noted at fits is queued asks here
    (noted-as_received state place rest entry what noted fits.matched is standing asks) matched sound)

pub command_fits : CommandsFit
command_fits state world place rest fits is =
    let own : IsOwnMessage state.tags state.parts place = (matched-no_stray state fits.matched).messages 0 place (ap (λ ms. slice_get ms 0) is) in
    let at : IsPlaced state world place own.entry = placed state world place own.entry fits own.held in
    command-at state world place rest own.entry own.entry.task.request at fits is own.held own.queued at.matched.here.sound.asks refl

no_front-idle : (sides : Sides) (room : Bool) → on_front sides (received_at sides) (cond room None None) ≡ (sides, Idle)
no_front-idle sides true = refl
no_front-idle sides false = refl

pub no_command_idle : NoCommandIsIdle
no_command_idle state world fits is =
    ap (λ front. on_front (sides_in world) (received_at (sides_in world)) (cond (has_event_room world.lines) front None)) (no-front state world fits.queues is)
    ∙ no_front-idle (sides_in world) (has_event_room world.lines)

-- WHERE IT IS DUE

due-by : (state : Shared) (world : World) (messages : List Place) → Fits state world → state.messages ≡ messages
    → (is_some_of messages ≡ has_pending world.lines.command) × IsOwnCommandFront world.lines world.frames
due-by state world [] fits is =
    let long : length world.lines.command.put ≡ length (carried_places state.events ++ state.messages) =
    ap length fits.queues.put ∙ length-map (carried_places state.events ++ state.messages) (command_item state.tags) in (
      sym (le-ltb world.lines.command.got (length world.lines.command.put)
          (omega (arith, long, fits.queues.got, length-append (carried_places state.events) state.messages, ap length is))),
      subst (λ front. IfSome front (λ f. IsOwnCommand world.frames f.1)) (sym (no-front state world fits.queues is)) tt,
    )
due-by state world (place ∷ rest) fits is =
    let own : IsOwnMessage state.tags state.parts place = (matched-no_stray state fits.matched).messages 0 place (ap (λ ms. slice_get ms 0) is) in
    let tag = tag-bounds state world place own.entry (placed state world place own.entry fits own.held) fits in
    let long : length world.lines.command.put ≡ length (carried_places state.events ++ state.messages) =
    ap length fits.queues.put ∙ length-map (carried_places state.events ++ state.messages) (command_item state.tags) in (
      sym (lt-ltb world.lines.command.got (length world.lines.command.put)
          (omega (arith, long, fits.queues.got, length-append (carried_places state.events) state.messages, ap length is))),
      command-own state world place rest fits is tag.0 (omega (arith, tag.1)),
    )

pub commands_due : CommandsAreDue
commands_due state world fits = let it = due-by state world state.messages fits refl in record { due = it.0; own = it.1 }
