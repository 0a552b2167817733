-- The TRB in front of the command pipe's ring: the bytes that it names, and what the controller does with it, whatever the device makes of
-- them. Cited by CommandFits and ManagedFits.
use Rattle.std.proofs.Common.{◌≡◌, ℕ, suc, ◌+◌, ◌^◌, ◌<◌, ◌≤◌, true, false, cond, List, [], ◌∷◌, ◌++◌, take, drop, length, length-append}
use Rattle.std.proofs.Common.{map, Some, None, option_map, Ok, refl, arith, ap, sym, subst, ◌∙◌, inr}
use Rattle.std.specs.Prelude.{slice_get, slice_set, IfSome, Result, ◌==◌}
use Rattle.std.proofs.lemmas.Bool.{lt-ltb, le-leb, ne_eqb}
use Rattle.std.proofs.lemmas.List.{length-map, append_assoc}
use Rattle.std.proofs.lemmas.Option.{slice_get_past, slice_get-map}
use Rattle.cycle_ring.specs.Items.{known_of}
use Rattle.cycle_ring.specs.Ring.{pointer_of}
use Rattle.uas_profile.specs.declared.TheConstants.{STREAMS, COMMAND_RING_PLACES, MOST_EVENTS, COMMAND_BYTES, SUCCESS}
use Rattle.uas_profile.specs.declared.Pipe.TheVariants.{Command, Status, DataIn, DataOut}
use Rattle.frame_store.specs.declared.TagBuffers.{TagBuffers}
use Rattle.frame_store.specs.declared.Place.{Place as Byte}
use Rattle.frame_store.specs.declared.Buffer.TheVariants.{Command as CommandBuffer}
use Rattle.frame_store.specs.Buffers.{IsWhole, Names, bytes_at, bytes_of, held_for, front_of as front_byte}
use Rattle.frame_store.proofs.FramesLaws.{start_of-named}
use Rattle.block_unit.specs.BlockMaps.{BlockMaps}
use Rattle.scsi_cmd.specs.Held.{held_at}
use Rattle.solo_model.specs.TaggedTask.{TaggedTask, carried_from, carried_request, finds}
use Rattle.solo_model.specs.declared.Phase.TheVariants.{Queued}
use Rattle.uas_target.specs.declared.Overlap.{Overlap}
use Rattle.uas_target.specs.declared.Took.{Took}
use Rattle.uas_target.specs.declared.Took.TheVariants.{Began}
use Rattle.uas_target.specs.Device.{Device, received, has_place}
use Rattle.uas_profile.specs.declared.Place.{Place}
use Rattle.uas_profile.specs.Tags.{tag_of}
use Rattle.uas_host.specs.Tds.{command_buffer_of}
use Rattle.xhci_ctl.specs.declared.Acted.TheVariants.{Acted as ActedOn}
use Rattle.xhci_ctl.specs.Own.{IsOwnCommand, IsOwnCommandFront}
use Rattle.xhci_ctl.specs.Steps.{began_tag, commanded, completed, front_at, has_event_room, on_front, received_at}
use Rattle.shared_machine.specs.declared.Completion.{Completion}
use Rattle.shared_machine.specs.declared.Completion.TheVariants.{CommandDone, DataDone, StatusDone, EngineDone}
use Rattle.shared_machine.specs.declared.Step.TheVariants.{CommandPipe}
use Rattle.shared_machine.specs.Td.{Entry, with_trb_taken}
use Rattle.shared_machine.specs.Part.{Part, carried_entry, carried_slot, carry_act, tasks_in, with_entry, with_request_carried}
use Rattle.shared_machine.specs.Shared.{Shared, acted_on, idle, is_some_of, carry_step, routed_to, shared_step}
use Rattle.machine_invariant.specs.Matched.{carried_places, HasRoom}
use Rattle.bus_core.specs.World.{World, sides_in}
use Rattle.bus_core.specs.Fits.{command_item, command_trb, event_texts, Fits, FitsQueues, unit_bytes}
use Rattle.bus_core.proofs.common.ActFits.{IsPlaced}
use Rattle.bus_core.proofs.common.EventTexts.{AllReadSame, carried_places-append, command_event, event_texts-append, event_texts-kept}
use Rattle.bus_core.proofs.common.Framing.{EndsStay}
use Rattle.machine_invariant.proofs.MatchedBounds.{matched-room}
use Rattle.uas_profile.specs.Tags.{task_slot}
use Rattle.uas_profile.proofs.TagLaws.{tags-within}

-- ROOM ON THE EVENT RING

pub length-event_texts : (tags : ℕ) (world : World) (k : ℕ) (events : List Completion) → length (event_texts tags world k events) ≡ length events
length-event_texts tags world k [] = refl
length-event_texts tags world k (CommandDone place ∷ rest) = ap suc (length-event_texts tags world (suc k) rest)
length-event_texts tags world k (DataDone place ∷ rest) = ap suc (length-event_texts tags world k rest)
length-event_texts tags world k (StatusDone place ∷ rest) = ap suc (length-event_texts tags world k rest)
length-event_texts tags world k (EngineDone place ∷ rest) = ap suc (length-event_texts tags world k rest)

pub event-room : (state : Shared) (world : World) → Fits state world → has_event_room world.lines ≡ true
event-room state world fits =
    let room : HasRoom state = matched-room state fits.matched in
    let long : length world.lines.events.pending ≡ length state.events = ap length fits.queues.texts ∙ length-event_texts state.tags world 0 state.events in
    lt-ltb (length world.lines.events.pending) MOST_EVENTS (omega (arith, long, room.events, fits.most_tags))

-- THE TRB IN FRONT

slice_get-behind : {T : Type 0} (first : List T) (next : T) (rest : List T) → slice_get (first ++ next ∷ rest) (length first) ≡ Some next
slice_get-behind [] next rest = refl
slice_get-behind (one ∷ more) next rest = slice_get-behind more next rest

-- the address of the TRB in front of the command pipe's ring
abbrev pub front_address : World → ℕ
front_address world = pointer_of COMMAND_RING_PLACES world.lines.command world.lines.command.got

pub command-front : (state : Shared) (world : World) (place : Place) (rest : List Place) → FitsQueues state world → state.messages ≡ place ∷ rest
    → front_at COMMAND_RING_PLACES world.lines.command ≡ Some (front_address world, Some (command_trb state.tags place))
command-front state world place rest fits is =
    ap (option_map (λ item. (front_address world, known_of item)))
    (ap (slice_get world.lines.command.put) fits.got
    ∙ ap (λ ts. slice_get ts (length (carried_places state.events))) fits.put
    ∙ ap (λ ms. slice_get (map (command_item state.tags) (carried_places state.events ++ ms)) (length (carried_places state.events))) is
    ∙ slice_get-map (command_item state.tags) (carried_places state.events ++ place ∷ rest) (length (carried_places state.events))
    ∙ ap (option_map (command_item state.tags)) (slice_get-behind (carried_places state.events) place rest))

-- where no message waits there is none
pub no-front : (state : Shared) (world : World) → FitsQueues state world → state.messages ≡ [] → front_at COMMAND_RING_PLACES world.lines.command ≡ None
no-front state world fits is =
    let long : length world.lines.command.put ≡ length (carried_places state.events ++ state.messages) =
    ap length fits.put ∙ length-map (carried_places state.events ++ state.messages) (command_item state.tags) in
    ap (option_map (λ item. (front_address world, known_of item)))
    (slice_get_past world.lines.command.put world.lines.command.got
    (omega (arith, long, fits.got, length-append (carried_places state.events) state.messages, ap length is)))

-- ITS BYTES

-- a unit is a Task Management unit or a Command unit
pub unit_bytes-some : (tags : ℕ) (slot : ℕ) → (0 < unit_bytes tags slot) × (unit_bytes tags slot ≤ COMMAND_BYTES)
unit_bytes-some tags slot = elim (slot == (task_slot tags)) as (λ b. (0 < cond b 16 COMMAND_BYTES) × (cond b 16 COMMAND_BYTES ≤ COMMAND_BYTES)) [
  | true ↦ (omega arith, omega arith)
  | false ↦ (omega arith, omega arith)
]

-- the bytes of a Command unit
pub unit_bytes-command : (tags : ℕ) (slot : ℕ) → slot < (task_slot tags) → unit_bytes tags slot ≡ COMMAND_BYTES
unit_bytes-command tags slot below = ap (λ b. cond b 16 COMMAND_BYTES) (ne_eqb slot (task_slot tags) (λ same. omega (arith, below, same)))

pub command-names : (frames : List TagBuffers) (tag count : ℕ) → IsWhole frames → 1 ≤ tag → tag ≤ STREAMS → count ≤ COMMAND_BYTES
    → Names frames (command_buffer_of tag) count (front_byte CommandBuffer tag)
command-names frames tag count whole some most few =
    record { first_tag = some; last_tag = most; begins = omega arith; within = omega (arith, few, (whole.sizes tag some most).command) }

-- so many bytes of the command buffer
pub command-bytes : (frames : List TagBuffers) (tag count : ℕ) → IsWhole frames → 1 ≤ tag → tag ≤ STREAMS → 0 < count → count ≤ COMMAND_BYTES
    → bytes_at frames (command_buffer_of tag) count ≡ take count (held_for frames tag).command
command-bytes frames tag count whole some most positive few =
    ap (λ (p : Byte). take count (drop p.offset (bytes_of frames p)))
    (start_of-named frames (command_buffer_of tag) count (front_byte CommandBuffer tag) whole (command-names frames tag count whole some most few) positive)

-- the TRB in front is the host's own
pub command-own : (state : Shared) (world : World) (place : Place) (rest : List Place) → Fits state world → state.messages ≡ place ∷ rest
    → 1 ≤ tag_of state.tags place → tag_of state.tags place ≤ STREAMS → IsOwnCommandFront world.lines world.frames
command-own state world place rest fits is some most =
    let few = unit_bytes-some state.tags place.slot in
    subst (λ front. IfSome front (λ f. IsOwnCommand world.frames f.1)) (sym (command-front state world place rest fits.queues is)) (
      (
        refl,
        refl,
        inr (front_byte CommandBuffer (tag_of state.tags place), command-names world.frames (tag_of state.tags place) (unit_bytes state.tags place.slot) fits.sound.frames some most few.1),
      ),
      few.1,
    )

-- THE CALL, COMPUTED

-- the world after the device received the unit of a place and is this
abbrev pub received_world : World → Device → World
received_world world device = record world { lines = completed world.lines Command 0 (front_address world) 0 SUCCESS; device = device }

pub tag-bounds : (state : Shared) (world : World) (place : Place) (entry : Entry) → IsPlaced state world place entry → Fits state world
    → (1 ≤ tag_of state.tags place) × (tag_of state.tags place ≤ STREAMS) × (tag_of state.tags place < 2 ^ 16) × (has_place world.device (tag_of state.tags place) ≡ true)
tag-bounds state world place entry at fits =
    let least : 1 ≤ tag_of state.tags place = omega arith in
    let most : tag_of state.tags place ≤ STREAMS = omega (arith, (tags-within state.tags (length state.parts) place at.is_place.client at.is_place.slot).1, fits.most_tags) in
    (least, most, omega (arith, most), rw (le-leb 1 (tag_of state.tags place) least, le-leb (tag_of state.tags place) (length world.device.tasks) (rw fits.sound.tags most)) refl)

-- what the device begins under the tag of the place
pub commanded-is : (state : Shared) (world : World) (place : Place) (rest : List Place) (device : Device) → Fits state world → state.messages ≡ place ∷ rest
    → received world.device (bytes_at world.frames (command_buffer_of (tag_of state.tags place)) (unit_bytes state.tags place.slot)) ≡ (device, Ok (Began (tag_of state.tags place)))
    → commanded (sides_in world) ≡ (sides_in (received_world world device), ActedOn (tag_of state.tags place))
commanded-is state world place rest device fits is receives =
    ap (λ b. on_front (sides_in world) (received_at (sides_in world)) (cond b (front_at COMMAND_RING_PLACES world.lines.command) None))
    (event-room state world fits)
    ∙ ap (on_front (sides_in world) (received_at (sides_in world))) (command-front state world place rest fits.queues is)
    ∙ ap (λ (after : Device × Result Took Overlap). (
      record (sides_in world)
          { lines = completed world.lines Command 0 (front_address world) 0 SUCCESS; device = after.0 },
      ActedOn (began_tag after.1),
    )) receives

-- THE QUEUES

-- no ring of a stream is touched, and no buffer
reads-same : (tags : ℕ) (world : World) (device : Device) (events : List Completion) → AllReadSame tags world (received_world world device) events
reads-same tags world device [] = tt
reads-same tags world device (CommandDone place ∷ rest) = (tt, reads-same tags world device rest)
reads-same tags world device (DataDone place ∷ rest) = ((refl, refl), reads-same tags world device rest)
reads-same tags world device (StatusDone place ∷ rest) = ((refl, refl), reads-same tags world device rest)
reads-same tags world device (EngineDone place ∷ rest) = (refl, reads-same tags world device rest)

plus_none : (n : ℕ) → n ≡ 0 + n
plus_none n = omega arith

-- the message is an event now
pub received-queues : (state : Shared) (world : World) (place : Place) (rest : List Place) (device : Device) (parts : List Part)
    → Fits state world → state.messages ≡ place ∷ rest
    → FitsQueues (record state { parts = parts; messages = rest; events = state.events ++ CommandDone place ∷ [] }) (received_world world device)
received-queues state world place rest device parts fits is =
    let more : carried_places (state.events ++ CommandDone place ∷ []) ≡ carried_places state.events ++ place ∷ [] = carried_places-append state.events
    (CommandDone place ∷ []) in
    record {
      put = fits.queues.put
          ∙ ap (λ ms. map (command_item state.tags) (carried_places state.events ++ ms)) is
          ∙ ap (map (command_item state.tags)) (sym (ap (λ ps. ps ++ rest) more ∙ append_assoc (carried_places state.events) (place ∷ []) rest));
      got = omega (arith, fits.queues.got, ap length more, length-append (carried_places state.events) (place ∷ []));
      texts = ap (λ es. es ++ command_event world world.lines.command.got ∷ []) fits.queues.texts
          ∙ ap (λ es. es ++ command_event world world.lines.command.got ∷ [])
          (sym (event_texts-kept state.tags world (received_world world device) 0 state.events (refl, refl) (reads-same state.tags world device state.events)))
          ∙ ap (λ n. event_texts state.tags (received_world world device) 0 state.events ++ command_event world n ∷ [])
          (fits.queues.got ∙ plus_none (length (carried_places state.events)))
          ∙ sym (event_texts-append state.tags (received_world world device) 0 state.events (CommandDone place ∷ []));
    }

-- no enqueue place moves
pub received-ends : (state : Shared) (world : World) (place : Place) (device : Device) → EndsStay state world (received_world world device) place
received-ends state world place device Command streams left = absurd streams
received-ends state world place device Status streams left = record { base = refl; at = refl; put = refl }
received-ends state world place device DataIn streams left = record { base = refl; at = refl; put = refl }
received-ends state world place device DataOut streams left = record { base = refl; at = refl; put = refl }

-- THE SHARED MACHINE'S STEP

-- the client's part once the request of an entry is carried, and the entry then
abbrev pub carried_part : Part → ℕ → Entry → BlockMaps × TaggedTask → Part
carried_part part slot entry after =
    with_entry (record (with_request_carried part entry) { unit = after.0 }) slot
    (record entry { task = after.1; command_td = with_trb_taken entry.command_td })

abbrev pub carried_state : Shared → Place → List Place → Part → Shared
carried_state state place rest now = record state {
  parts = slice_set state.parts place.client now;
  messages = rest;
  events = state.events ++ CommandDone place ∷ [];
}

pub carried-stepped : (state : Shared) (place : Place) (rest : List Place) (part : Part) (entry : Entry) → state.messages ≡ place ∷ rest
    → slice_get state.parts place.client ≡ Some part → held_at part.entries place.slot ≡ Some entry → entry.task.phase ≡ Queued
    → (shared_step state CommandPipe).0
    ≡ carried_state state place rest (carried_part part place.slot entry (carried_request part.unit (finds entry.task.request (tasks_in part.entries)) entry.task entry.task.request))
carried-stepped state place rest part entry is there held queued =
    let popped : Shared = record state { messages = rest } in
    ap (λ ms. (cond (is_some_of ms) (carry_step state ms) (state, idle)).0) is
    ∙ ap (λ found. (routed_to (record state { messages = rest }) place.client (carry_act place) found).0) there
    ∙ ap (λ found. (acted_on (record state { messages = rest }) place.client (carried_slot part place.slot place found)).0) held
    ∙ ap (λ phase. (acted_on (record state { messages = rest }) place.client
    (carried_entry part place.slot place entry (carried_from part.unit (finds entry.task.request (tasks_in part.entries)) entry.task phase))).0) queued
