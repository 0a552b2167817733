-- A world that fits a state tells that state: its cells, its clients, its messages and its events are read back.
use Rattle.std.proofs.Common.{◌≡◌, ℕ, suc, ◌+◌, ◌-◌, ◌<◌, ◌≤◌, List, [], ◌∷◌, ◌++◌, length, drop, map, Option, Some, None}
use Rattle.std.proofs.Common.{inl, inr, option_map, IfSome, refl, arith, ap, sym, subst, ◌∙◌}
use Rattle.std.specs.Prelude.{slice_get, option_and_then}
use Rattle.std.specs.List.{filter_map, cons_option}
use Rattle.std.specs.Option.{option_map_or}
use Rattle.std.proofs.lemmas.List.{ext_get_or, map-append, length-map}
use Rattle.std.proofs.lemmas.List.FromFn.{length-map-range_with_len, get_or-map-range_with_len}
use Rattle.std.proofs.lemmas.Bool.{cases_lt}
use Rattle.std.proofs.Math.Seq.{drop-append_seam}
use Rattle.block_unit.specs.BlockMaps.{BlockMaps}
use Rattle.cycle_ring.specs.Ring.{pointer_of}
use Rattle.event_ring.specs.declared.Event.{Event}
use Rattle.event_ring.specs.declared.Event.TheVariants.{Transfer}
use Rattle.uas_profile.specs.declared.Pipe.{Pipe}
use Rattle.uas_profile.specs.declared.Pipe.TheVariants.{Command, Status, DataIn, DataOut}
use Rattle.stream_array.specs.Rings.{LinesState}
use Rattle.uas_profile.specs.declared.TheConstants.{STREAMS, COMMAND_RING_PLACES, SLOT, SUCCESS, SHORT_PACKET}
use Rattle.uas_profile.specs.declared.Direction.{Direction}
use Rattle.uas_profile.specs.declared.Direction.TheVariants.{Nothing, ToHost, ToDevice}
use Rattle.scsi_cmd.specs.Held.{held_at}
use Rattle.uas_profile.specs.declared.Place.{Place}
use Rattle.uas_host.specs.declared.HostClient.{HostClient}
use Rattle.uas_profile.specs.Tags.{tag_of, place_of}
use Rattle.uas_host.specs.Events.{ended_at}
use Rattle.xhci_ctl.specs.Steps.{endpoint_of}
use Rattle.uas_host.specs.declared.Retirement.{Retirement as HostRetirement}
use Rattle.uas_host.specs.declared.RetirementStage.TheVariants.{Stopping, Moving as HostMoving}
use Rattle.shared_machine.specs.declared.Retirement.{Retirement}
use Rattle.shared_machine.specs.declared.RetirementStage.{RetirementStage}
use Rattle.shared_machine.specs.declared.RetirementStage.TheVariants.{StopAsked, StopAnswered, MoveAsked, MoveAnswered}
use Rattle.shared_machine.specs.declared.Completion.{Completion}
use Rattle.shared_machine.specs.declared.Completion.TheVariants.{CommandDone, DataDone, StatusDone, EngineDone}
use Rattle.shared_machine.specs.Td.{Entry}
use Rattle.shared_machine.specs.Part.{Part}
use Rattle.shared_machine.specs.Bus.{IsPlace}
use Rattle.shared_machine.specs.Shared.{Shared, request_direction}
use Rattle.machine_invariant.specs.Matched.{times, under, held_in, carried_places, IsOwnEngineEvent, IsOwnEvent}
use Rattle.machine_invariant.specs.Matched.{IsMatchedEntry, IsMatched}
use Rattle.bus_core.specs.World.{World, cell_at}
use Rattle.bus_core.specs.Fits.{command_item, engine_event, event_texts, FitsPart, HoldsCommand, HoldsCommandOf, host_retirement, host_stage, place_in}
use Rattle.bus_core.specs.Fits.{FitsClient, Fits}
use Rattle.bus_core.specs.Decoded.{message_in, decoded_messages, completion_on, completion_of_td, completion_of, decoded_events}
use Rattle.bus_core.specs.Decoded.{decoded_retirement, stage_by}
use Rattle.bus_core.specs.Decoded.{decoded_held, decoded_cell, decoded_slot, decoded_entries, decoded_part, decoded_parts}
use Rattle.bus_core.specs.WorldSteps.{WorldReadsBack}
use Rattle.machine_invariant.proofs.MatchedNext.{times-member, times_alike-member, own-event, matched-no_stray, matched-counted}
use Rattle.bus_core.proofs.common.EventTds.{command_tag-trb, tag_of-most, IsStreamText, IsDataText, HasDataText}
use Rattle.bus_core.proofs.common.EventTds.{status_text, status_residual, data_text, command_text, data_text-waits, status_text-waits, command_text-waits}
use Rattle.machine_invariant.proofs.MatchedEngine.{place_of-tag_of}
use Rattle.machine_invariant.proofs.MatchedBounds.{held-place}
use Rattle.uas_host.specs.State.{IsHost}
use Rattle.shared_machine.proofs.Standing.{get-within}
use Rattle.std.proofs.Common.{◌*◌}
use Rattle.uas_profile.specs.declared.TheConstants.{MOST_TAGS}
use Rattle.bus_core.proofs.common.ReadBackCells.{decoded_cell-back}

-- THE SLOTS OF A CLIENT

under-at : (parts : List Part) (client slot : ℕ) (part : Part) → slice_get parts client ≡ Some part
    → under parts (place_in client slot) ≡ held_at part.entries slot
under-at parts client slot part there = ap (λ found. option_map_or (held_in (place_in client slot)) found None) there

-- the slots from its number of tags on are empty, on both sides
part-empty : (state : Shared) (client slot : ℕ) (part : Part) (held : Option Entry) → IsMatched state → slice_get state.parts client ≡ Some part
    → held_at part.entries slot ≡ held → state.tags ≤ slot → held ≡ None
part-empty state client slot part None all there is above = refl
part-empty state client slot part (Some entry) all there is above =
    absurd (omega (arith, above, (held-place state (place_in client slot) entry all (under-at state.parts client slot part there ∙ is)).slot))

decoded_slot-back : (state : Shared) (world : World) (client slot : ℕ) (unit : BlockMaps) (held : HostClient) (part : Part) → IsMatched state
    → world.host.tags ≡ state.tags → IsHost world.host → client < length world.host.clients
    → slice_get state.parts client ≡ Some part → FitsPart state.tags world client unit held part
    → decoded_slot world state.messages client slot ≡ held_at part.entries slot
decoded_slot-back state world client slot unit held part all number host within there fits =
    let place : Place = place_in client slot in
    let is : under state.parts place ≡ held_at part.entries slot = under-at state.parts client slot part there in
    ap (λ t. decoded_cell (cell_at t world place) (times place state.messages)) number
    ∙ elim (cases_lt slot state.tags) [
      | inl below ↦
          decoded_cell-back state.tags client unit.count (times place state.messages) place (held_at part.entries slot) (cell_at state.tags world place)
          (fits.cells slot below)
          (subst (λ o. IfSome o (IsMatchedEntry state.tags slot)) is (all.places place).sound)
          (subst (λ o. IfSome o (λ entry. entry.command_td.consumed + times place state.messages ≡ 1)) is (matched-counted state all place))
      | inr above ↦
          ap (option_map (decoded_held (times place state.messages) (cell_at state.tags world place)))
          ((host.clients client within).empty slot (omega (arith, above, number)))
          ∙ sym (part-empty state client slot part (held_at part.entries slot) all there refl above)
    ]

decoded_entries-back : (state : Shared) (world : World) (client : ℕ) (unit : BlockMaps) (held : HostClient) (part : Part) → IsMatched state
    → world.host.tags ≡ state.tags → IsHost world.host → client < length world.host.clients
    → slice_get state.parts client ≡ Some part → FitsPart state.tags world client unit held part → decoded_entries world state.messages client ≡ part.entries
decoded_entries-back state world client unit held part all number host inside there fits =
    let many = length-map-range_with_len (decoded_slot world state.messages client) 0 MOST_TAGS in
    ext_get_or None (decoded_entries world state.messages client) part.entries (many ∙ sym fits.slots) (λ slot within.
    get_or-map-range_with_len (decoded_slot world state.messages client) 0 MOST_TAGS slot slot None (omega (arith, within, many)) (omega arith)
    ∙ decoded_slot-back state world client slot unit held part all number host inside there fits)

-- THE CLIENTS

decoded_part-back : (state : Shared) (world : World) (client : ℕ) (unit : BlockMaps) (held : HostClient) (part : Part) → IsMatched state
    → world.host.tags ≡ state.tags → IsHost world.host → client < length world.host.clients
    → slice_get state.parts client ≡ Some part → FitsPart state.tags world client unit held part → decoded_part world state.messages client held unit ≡ part
decoded_part-back state world client unit held part all number host within there fits =
    let entries_are : decoded_entries world state.messages client ≡ part.entries =
    decoded_entries-back state world client unit held part all number host within there fits in
    (λ i. record {
      number = sym fits.number i;
      unit = sym fits.unit_same i;
      entries = entries_are i;
      least_ticket = sym fits.least_ticket i;
      ready = sym fits.ready i;
    })

-- a client whose part is read back is there with unit and host's record, or none of them is
abbrev pub IsPartBack : World → List Place → ℕ → Option BlockMaps → Option HostClient → Option Part → Type 0
IsPartBack world messages client None None None = Unit {0}
IsPartBack world messages client None None (Some part) = ⊥
IsPartBack world messages client None (Some held) part = ⊥
IsPartBack world messages client (Some unit) None part = ⊥
IsPartBack world messages client (Some unit) (Some held) None = ⊥
IsPartBack world messages client (Some unit) (Some held) (Some part) = decoded_part world messages client held unit ≡ part

fits-part_back : (state : Shared) (world : World) (client : ℕ) (unit : Option BlockMaps) (held : Option HostClient) (part : Option Part) → IsMatched state
    → world.host.tags ≡ state.tags → IsHost world.host → slice_get world.host.clients client ≡ held
    → slice_get state.parts client ≡ part → FitsClient state.tags world client unit held part → IsPartBack world state.messages client unit held part
fits-part_back state world client None None None all number host holds there fits = tt
fits-part_back state world client None None (Some part) all number host holds there fits = fits
fits-part_back state world client None (Some held) part all number host holds there fits = fits
fits-part_back state world client (Some unit) None part all number host holds there fits = fits
fits-part_back state world client (Some unit) (Some held) None all number host holds there fits = fits
fits-part_back state world client (Some unit) (Some held) (Some part) all number host holds there fits =
    decoded_part-back state world client unit held part all number host (get-within world.host.clients client held holds) there fits

decoded_parts-back : (world : World) (messages : List Place) (first : ℕ) (helds : List HostClient) (units : List BlockMaps) (parts : List Part)
    → ((k at : ℕ) → at ≡ first + k → IsPartBack world messages at (slice_get units k) (slice_get helds k) (slice_get parts k))
    → decoded_parts world messages first helds units ≡ parts
decoded_parts-back world messages first [] [] [] back = refl
decoded_parts-back world messages first [] [] (part ∷ parts) back = absurd (back 0 first (omega arith))
decoded_parts-back world messages first [] (unit ∷ units) parts back = absurd (back 0 first (omega arith))
decoded_parts-back world messages first (held ∷ helds) [] parts back = absurd (back 0 first (omega arith))
decoded_parts-back world messages first (held ∷ helds) (unit ∷ units) [] back = absurd (back 0 first (omega arith))
decoded_parts-back world messages first (held ∷ helds) (unit ∷ units) (part ∷ parts) back =
    ap (λ p. p ∷ decoded_parts world messages (suc first) helds units) (back 0 first (omega arith))
    ∙ ap (λ ps. part ∷ ps) (decoded_parts-back world messages (suc first) helds units parts (λ k at is. back (suc k) at (omega arith)))

parts-back : (state : Shared) (world : World) → Fits state world
    → decoded_parts world state.messages 0 world.host.clients world.device.units ≡ state.parts
parts-back state world all =
    decoded_parts-back world state.messages 0 world.host.clients world.device.units state.parts (λ k at is.
    let same : k ≡ at = omega arith in
    subst (λ n. IsPartBack world state.messages n (slice_get world.device.units k) (slice_get world.host.clients k) (slice_get state.parts k)) same
    (fits-part_back state world k (slice_get world.device.units k) (slice_get world.host.clients k) (slice_get state.parts k) all.matched
    all.tags all.sound.host refl refl (all.clients k)))

-- as many clients as parts
length-clients : (tags : ℕ) (world : World) (first : ℕ) (helds : List HostClient) (units : List BlockMaps) (parts : List Part)
    → ((k at : ℕ) → at ≡ first + k → FitsClient tags world at (slice_get units k) (slice_get helds k) (slice_get parts k)) → length helds ≡ length parts
length-clients tags world first [] [] [] fits = refl
length-clients tags world first [] [] (part ∷ parts) fits = absurd (fits 0 first (omega arith))
length-clients tags world first [] (unit ∷ units) parts fits = absurd (fits 0 first (omega arith))
length-clients tags world first (held ∷ helds) [] parts fits = absurd (fits 0 first (omega arith))
length-clients tags world first (held ∷ helds) (unit ∷ units) [] fits = absurd (fits 0 first (omega arith))
length-clients tags world first (held ∷ helds) (unit ∷ units) (part ∷ parts) fits =
    ap suc (length-clients tags world (suc first) helds units parts (λ k at is. fits (suc k) at (omega arith)))

pub clients-are : (state : Shared) (world : World) → Fits state world → length world.host.clients ≡ length state.parts
clients-are state world all =
    length-clients state.tags world 0 world.host.clients world.device.units state.parts (λ k at is.
    let same : k ≡ at = omega arith in
    subst (λ n. FitsClient state.tags world n (slice_get world.device.units k) (slice_get world.host.clients k) (slice_get state.parts k)) same (all.clients k))

-- MESSAGES

message_in-back : (tags clients : ℕ) (place : Place) → clients * tags ≤ STREAMS → IsPlace tags clients place → message_in tags clients (command_item tags place) ≡ Some place
message_in-back tags clients place few there =
    ap (option_and_then (place_of tags clients)) (command_tag-trb tags place (tag_of-most tags clients place few there)) ∙ place_of-tag_of tags clients place there

messages_in-back : (tags clients : ℕ) (messages : List Place) → clients * tags ≤ STREAMS
    → ((at : ℕ) (place : Place) → slice_get messages at ≡ Some place → IsPlace tags clients place)
    → filter_map (message_in tags clients) (map (command_item tags) messages) ≡ messages
messages_in-back tags clients [] few there = refl
messages_in-back tags clients (place ∷ rest) few there =
    ap (λ o. cons_option o (filter_map (message_in tags clients) (map (command_item tags) rest))) (message_in-back tags clients place few (there 0 place refl))
    ∙ ap (λ ps. place ∷ ps) (messages_in-back tags clients rest few (λ at other is. there (suc at) other is))

pub messages-back : (state : Shared) (world : World) → Fits state world → decoded_messages world ≡ state.messages
messages-back state world all =
    let carried : List Place = carried_places state.events in
    let long : length (map (command_item state.tags) carried) ≡ world.lines.command.got = length-map carried (command_item state.tags) ∙ sym all.queues.got in
    let left : drop world.lines.command.got world.lines.command.put ≡ map (command_item state.tags) state.messages =
    ap (drop world.lines.command.got) (all.queues.put ∙ map-append (command_item state.tags) carried state.messages)
    ∙ ap (λ n. drop n (map (command_item state.tags) carried ++ map (command_item state.tags) state.messages)) (sym long)
    ∙ drop-append_seam (map (command_item state.tags) carried) (map (command_item state.tags) state.messages) in
    ap (λ t. filter_map (message_in t (length world.host.clients)) (drop world.lines.command.got world.lines.command.put)) all.tags
    ∙ ap (filter_map (message_in state.tags (length world.host.clients))) left
    ∙ ap (λ n. filter_map (message_in state.tags n) (map (command_item state.tags) state.messages)) (clients-are state world all)
    ∙ messages_in-back state.tags (length state.parts) state.messages all.most_tags
    (λ at place is. ((matched-no_stray state all.matched).messages at place is).there)

-- EVENTS

completion_of-ended : (tags : ℕ) (world : World) (clients residual code endpoint slot pointer : ℕ) (pipe : Pipe) (place : Place) → world.host.tags ≡ tags
    → length world.host.clients ≡ clients → IsPlace tags clients place → ended_at world.lines pointer ≡ Some (record { pipe = pipe; tag = tag_of tags place })
    → completion_of world (Transfer pointer residual code endpoint slot) ≡ Some (completion_on pipe place)
completion_of-ended tags world clients residual code endpoint slot pointer pipe place number many there ended =
    ap (λ t. option_and_then (completion_of_td t (length world.host.clients)) (ended_at world.lines pointer)) number
    ∙ ap (option_and_then (completion_of_td tags (length world.host.clients))) ended
    ∙ ap (λ n. option_map (completion_on pipe) (place_of tags n (tag_of tags place))) many
    ∙ ap (option_map (completion_on pipe)) (place_of-tag_of tags clients place there)

-- each event of a stream is read back from its text, and each command event
abbrev pub AreTold : ℕ → World → ℕ → List Completion → Type 0
AreTold tags world k [] = Unit {0}
AreTold tags world k (CommandDone place ∷ rest) = (completion_of world (command_text world k) ≡ Some (CommandDone place)) × AreTold tags world (suc k) rest
AreTold tags world k (DataDone place ∷ rest) = (completion_of world (data_text tags world place) ≡ Some (DataDone place)) × AreTold tags world k rest
AreTold tags world k (StatusDone place ∷ rest) = (completion_of world (status_text tags world place) ≡ Some (StatusDone place)) × AreTold tags world k rest
AreTold tags world k (EngineDone place ∷ rest) =
    (completion_of world (engine_event world.lines.engine) ≡ Some (EngineDone place)) × AreTold tags world k rest

texts-back : (tags : ℕ) (world : World) (k : ℕ) (events : List Completion) → AreTold tags world k events
    → filter_map (completion_of world) (event_texts tags world k events) ≡ events
texts-back tags world k [] told = refl
texts-back tags world k (CommandDone place ∷ rest) told =
    ap (λ o. cons_option o (filter_map (completion_of world) (event_texts tags world (suc k) rest))) told.0
    ∙ ap (λ es. CommandDone place ∷ es) (texts-back tags world (suc k) rest told.1)
texts-back tags world k (DataDone place ∷ rest) told =
    ap (λ o. cons_option o (filter_map (completion_of world) (event_texts tags world k rest))) told.0
    ∙ ap (λ es. DataDone place ∷ es) (texts-back tags world k rest told.1)
texts-back tags world k (StatusDone place ∷ rest) told =
    ap (λ o. cons_option o (filter_map (completion_of world) (event_texts tags world k rest))) told.0
    ∙ ap (λ es. StatusDone place ∷ es) (texts-back tags world k rest told.1)
texts-back tags world k (EngineDone place ∷ rest) told =
    ap (λ o. cons_option o (filter_map (completion_of world) (event_texts tags world k rest))) told.0
    ∙ ap (λ es. EngineDone place ∷ es) (texts-back tags world k rest told.1)

-- a stream's text
stream_text-told : (tags : ℕ) (world : World) (clients residual code : ℕ) (text : Event) (pipe : Pipe) (place : Place) → world.host.tags ≡ tags
    → length world.host.clients ≡ clients → IsPlace tags clients place → IsStreamText world.lines text residual code pipe (tag_of tags place) → completion_of world text ≡ Some (completion_on pipe place)
stream_text-told tags world clients residual code text pipe place number many there text_is =
    ap (completion_of world) text_is.is
    ∙ completion_of-ended tags world clients residual code (endpoint_of pipe) SLOT text_is.pointer pipe place number many there text_is.ended

data_text-told : (tags : ℕ) (world : World) (clients : ℕ) (way : Direction) (place : Place) → world.host.tags ≡ tags → length world.host.clients ≡ clients
    → IsPlace tags clients place
    → IsDataText tags way world place → completion_of world (data_text tags world place) ≡ Some (DataDone place)
data_text-told tags world clients Nothing place number many there text = absurd text
data_text-told tags world clients ToHost place number many there text =
    stream_text-told tags world clients 0 SUCCESS (data_text tags world place) DataIn place number many there text
data_text-told tags world clients ToDevice place number many there text =
    stream_text-told tags world clients 0 SUCCESS (data_text tags world place) DataOut place number many there text

-- what is told of an event that waits
abbrev pub IsTold : ℕ → World → Completion → Type 0
IsTold tags world (CommandDone place) = Unit {0}
IsTold tags world (DataDone place) = completion_of world (data_text tags world place) ≡ Some (DataDone place)
IsTold tags world (StatusDone place) = completion_of world (status_text tags world place) ≡ Some (StatusDone place)
IsTold tags world (EngineDone place) = completion_of world (engine_event world.lines.engine) ≡ Some (EngineDone place)

-- an event of the controller's own commands is of the retirement that the host has under way
engine-told : (state : Shared) (world : World) (place : Place) → Fits state world → IsOwnEngineEvent state place
    → completion_of world (engine_event world.lines.engine) ≡ Some (EngineDone place)
engine-told state world place all own =
    ap (option_map (λ (r : HostRetirement). EngineDone r.place)) (all.engine.retirement ∙ ap (option_map host_retirement) own.under_way)
    ∙ ap (λ p. Some (EngineDone p)) own.place_same

waiting-told : (state : Shared) (world : World) (at : ℕ) (event : Completion) → Fits state world → slice_get state.events at ≡ Some event → IsTold state.tags world event
waiting-told state world at (CommandDone place) all is = tt
waiting-told state world at (DataDone place) all is =
    let there : IsPlace state.tags (length state.parts) place = ((matched-no_stray state all.matched).events at (DataDone place) is).there in
    let text : HasDataText state world place = data_text-waits state world place all (times_alike-member state.events at (DataDone place) is) in
    data_text-told state.tags world (length state.parts) (request_direction text.entry.task.request) place all.tags (clients-are state world all) there text.text
waiting-told state world at (StatusDone place) all is =
    let there : IsPlace state.tags (length state.parts) place = ((matched-no_stray state all.matched).events at (StatusDone place) is).there in
    stream_text-told state.tags world (length state.parts) (status_residual state.tags world place) SHORT_PACKET (status_text state.tags world place) Status place
    all.tags (clients-are state world all) there
    (status_text-waits state world place all (times_alike-member state.events at (StatusDone place) is))
waiting-told state world at (EngineDone place) all is = engine-told state world place all ((matched-no_stray state all.matched).events at (EngineDone place) is)

command-told : (state : Shared) (world : World) (k : ℕ) (place : Place) → Fits state world → slice_get (carried_places state.events) k ≡ Some place
    → completion_of world (command_text world k) ≡ Some (CommandDone place)
command-told state world k place all is =
    let own : IsOwnEvent state (CommandDone place) =
    own-event state (CommandDone place) all.matched (times-member (carried_places state.events) k place is) in
    completion_of-ended state.tags world (length state.parts) 0 SUCCESS (endpoint_of Command) SLOT (pointer_of COMMAND_RING_PLACES world.lines.command k) Command place
    all.tags (clients-are state world all) own.there (command_text-waits state world k place all is)

events-told : (tags : ℕ) (world : World) (k : ℕ) (events : List Completion) → ((at : ℕ) (event : Completion) → slice_get events at ≡ Some event → IsTold tags world event)
    → ((i n : ℕ) (place : Place) → n ≡ k + i → slice_get (carried_places events) i ≡ Some place
    → completion_of world (command_text world n) ≡ Some (CommandDone place))
    → AreTold tags world k events
events-told tags world k [] told commands = tt
events-told tags world k (CommandDone place ∷ rest) told commands = (
  commands 0 k place (omega arith) refl,
  events-told tags world (suc k) rest (λ at event is. told (suc at) event is) (λ i n other same is. commands (suc i) n other (omega arith) is),
)
events-told tags world k (DataDone place ∷ rest) told commands =
    (told 0 (DataDone place) refl, events-told tags world k rest (λ at event is. told (suc at) event is) commands)
events-told tags world k (StatusDone place ∷ rest) told commands =
    (told 0 (StatusDone place) refl, events-told tags world k rest (λ at event is. told (suc at) event is) commands)
events-told tags world k (EngineDone place ∷ rest) told commands =
    (told 0 (EngineDone place) refl, events-told tags world k rest (λ at event is. told (suc at) event is) commands)

pub events-back : (state : Shared) (world : World) → Fits state world → decoded_events world ≡ state.events
events-back state world all =
    ap (filter_map (completion_of world)) all.queues.texts
    ∙ texts-back state.tags world 0 state.events (events-told state.tags world 0 state.events (λ at event is. waiting-told state world at event all is)
    (λ i n place same is. let one : i ≡ n = omega arith in
    subst (λ m. completion_of world (command_text world m) ≡ Some (CommandDone place)) one (command-told state world i place all is)))

-- THE RETIREMENT

-- the host knows which command is under way, and its ring whether it was executed
stage-back : (tags : ℕ) (lines : LinesState) (pipe : Pipe) (place : Place) (stage : RetirementStage) → HoldsCommand tags lines pipe place stage
    → stage_by (host_stage stage) lines.engine.got ≡ stage
stage-back tags lines pipe place StopAsked holds = ap (stage_by Stopping) holds.1
stage-back tags lines pipe place StopAnswered holds = ap (stage_by Stopping) holds.1
stage-back tags lines pipe place MoveAsked holds = ap (stage_by HostMoving) holds.1
stage-back tags lines pipe place MoveAnswered holds = ap (stage_by HostMoving) holds.1

retired-back : (tags : ℕ) (world : World) (retirement : Option Retirement) → HoldsCommandOf tags world.lines retirement
    → option_map (decoded_retirement world) (option_map host_retirement retirement) ≡ retirement
retired-back tags world None holds = refl
retired-back tags world (Some r) holds =
    ap (λ stage. Some (record { pipe = r.pipe; place = r.place; stage = stage })) (stage-back tags world.lines r.pipe r.place r.stage holds)

pub retirement-back : (state : Shared) (world : World) → Fits state world → option_map (decoded_retirement world) world.host.retirement ≡ state.retirement
retirement-back state world all =
    ap (option_map (decoded_retirement world)) all.engine.retirement ∙ retired-back state.tags world state.retirement all.engine.commands

-- THE WHOLE

pub decoded-back : WorldReadsBack
decoded-back state world all =
    let messages : decoded_messages world ≡ state.messages = messages-back state world all in
    let parts : decoded_parts world (decoded_messages world) 0 world.host.clients world.device.units ≡ state.parts =
    ap (λ ms. decoded_parts world ms 0 world.host.clients world.device.units) messages ∙ parts-back state world all in
    let events : decoded_events world ≡ state.events = events-back state world all in
    let retirement = retirement-back state world all in
    (λ i. record {
      tags = all.tags i;
      parts = parts i;
      messages = messages i;
      events = events i;
      status = all.status i;
      data_in = all.data_in i;
      data_out = all.data_out i;
      retirement = retirement i;
    })
