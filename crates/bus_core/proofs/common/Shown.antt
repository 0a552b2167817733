-- The rings and buffers of a world that fits a state show it.
use Rattle.std.proofs.Common.{◌≡◌, ℕ, zero, suc, ◌<◌, Bool, true, false, cond, List, [], ◌∷◌, ◌++◌, drop, map, length, Option, Some, None, refl, arith, ap, sym}
use Rattle.std.proofs.Common.{◌∙◌}
use Rattle.std.specs.Prelude.{slice_get, ◌==◌}
use Rattle.std.specs.Option.{option_map_or}
use Rattle.std.proofs.lemmas.List.{drop-map}
use Rattle.std.proofs.lemmas.Option.{none-some}
use Rattle.xhci_trb.specs.declared.Trb.{Trb}
use Rattle.cycle_ring.specs.Ring.{pointer_of}
use Rattle.cycle_ring.specs.Items.{known, ItemRing}
use Rattle.event_ring.specs.declared.Event.TheVariants.{Transfer}
use Rattle.uas_profile.specs.declared.Pipe.{Pipe}
use Rattle.uas_profile.specs.declared.Pipe.TheVariants.{Command, Status, DataIn, DataOut}
use Rattle.uas_profile.specs.declared.TheConstants.{COMMAND_RING_PLACES, SLOT, SUCCESS, SHORT_PACKET}
use Rattle.xhci_ctl.specs.Steps.{endpoint_of}
use Rattle.stream_array.specs.Rings.{LinesState, stream_ring}
use Rattle.frame_store.specs.Buffers.{held_for}
use Rattle.uas_profile.specs.declared.Place.{Place}
use Rattle.uas_profile.specs.declared.TdState.{TdState}
use Rattle.uas_profile.specs.declared.TdState.TheVariants.{Pending, Seen, LeftOver, Retired}
use Rattle.uas_profile.specs.Tags.{tag_of}
use Rattle.shared_machine.specs.declared.Retirement.{Retirement}
use Rattle.shared_machine.specs.declared.RetirementStage.{RetirementStage}
use Rattle.shared_machine.specs.declared.RetirementStage.TheVariants.{StopAsked, StopAnswered, MoveAsked, MoveAnswered}
use Rattle.shared_machine.specs.declared.Td.{Td}
use Rattle.shared_machine.specs.declared.Completion.{Completion}
use Rattle.shared_machine.specs.declared.Completion.TheVariants.{CommandDone, DataDone, StatusDone, EngineDone}
use Rattle.shared_machine.specs.Td.{Entry}
use Rattle.shared_machine.specs.Part.{Part}
use Rattle.shared_machine.specs.Shared.{Shared}
use Rattle.machine_invariant.specs.Matched.{carried_places, held_in}
use Rattle.machine_invariant.specs.Ordered.{under}
use Rattle.bus_core.specs.World.{World, cell_at}
use Rattle.bus_core.specs.Cells.{FitsHeld, HoldsTrbs, HoldsIn, HoldsData}
use Rattle.bus_core.specs.Fits.{command_item, event_texts, Fits, HoldsCommand, HoldsCommandOf, last_pointer}
use Rattle.bus_core.specs.Shows.{PointAhead, ShowsFrames, ShowsHeld, ShowsPlace, ShowsShared, commands_at, commands_of, data_tells, engine_tells, left_in, left_of}
use Rattle.bus_core.specs.Shows.{pending_in, tells, tells_of, told_in}
use Rattle.bus_core.proofs.common.Framing.{IsFound, found}
use Rattle.uas_host.specs.Retirement.{stop_trb, move_trb}

-- MESSAGES

drop-carried : (tags : ℕ) (carried messages : List Place) → drop (length carried) (map (command_item tags) (carried ++ messages)) ≡ map (command_item tags) messages
drop-carried tags [] messages = refl
drop-carried tags (place ∷ rest) messages = drop-carried tags rest messages

-- EVENTS

told-if : (test : Bool) (one other : ℕ) (first second : Pipe)
    → told_in (cond test (Transfer one 0 SUCCESS (endpoint_of first) SLOT) (Transfer other 0 SUCCESS (endpoint_of second) SLOT))
    ≡ Some (cond test (tells one SUCCESS first) (tells other SUCCESS second))
told-if true one other first second = refl
told-if false one other first second = refl

told-texts : (tags : ℕ) (world : World) (k : ℕ) (events : List Completion) → map told_in (event_texts tags world k events) ≡ tells_of tags world.lines k events
told-texts tags world k [] = refl
told-texts tags world k (CommandDone place ∷ rest) =
    ap (λ es. Some (tells (pointer_of COMMAND_RING_PLACES world.lines.command k) SUCCESS Command) ∷ es) (told-texts tags world (suc k) rest)
told-texts tags world k (DataDone place ∷ rest) =
    let data_in : ItemRing = stream_ring world.lines.data_in (tag_of tags place) in
    let data_out : ItemRing = stream_ring world.lines.data_out (tag_of tags place) in
    ap (λ e. e ∷ map told_in (event_texts tags world k rest)) (told-if (length data_in.put == 0) (last_pointer data_out) (last_pointer data_in) DataOut DataIn)
    ∙ ap (λ es. Some (data_tells data_in data_out) ∷ es) (told-texts tags world k rest)
told-texts tags world k (StatusDone place ∷ rest) =
    ap (λ es. Some (tells (last_pointer (stream_ring world.lines.status (tag_of tags place))) SHORT_PACKET Status) ∷ es) (told-texts tags world k rest)
told-texts tags world k (EngineDone place ∷ rest) = ap (λ es. Some (engine_tells world.lines.engine) ∷ es) (told-texts tags world k rest)

-- TDS

left-trbs : (ring : ItemRing) (trbs : List Trb) (taken : ℕ) → HoldsTrbs ring trbs taken → pending_in ring ≡ map known (drop taken trbs)
left-trbs ring trbs taken holds = ap (λ n. drop n ring.put) holds.1 ∙ ap (drop taken) holds.0 ∙ drop-map known taken trbs

left-held : (ring : ItemRing) (trbs : List Trb) (consumed : ℕ) (state : TdState) → HoldsIn ring trbs consumed state
    → pending_in ring ≡ map known (left_in trbs consumed state)
left-held ring trbs consumed Pending holds = left-trbs ring trbs consumed holds
left-held ring trbs consumed Seen holds = left-trbs ring [] 0 holds.0
left-held ring trbs consumed LeftOver holds = left-trbs ring trbs consumed holds
left-held ring trbs consumed Retired holds = left-trbs ring [] 0 holds.0

left-data : (ring : ItemRing) (trbs : List Trb) (td : Option Td) → HoldsData ring trbs td → pending_in ring ≡ map known (left_of trbs td)
left-data ring trbs None holds = left-trbs ring [] 0 holds
left-data ring trbs (Some td) holds = left-held ring trbs td.consumed td.state holds

shown-place : (tags : ℕ) (world : World) (client count : ℕ) (place : Place) (held : Option Entry) → FitsHeld tags client count place held (cell_at tags world place)
    → ShowsPlace tags world.lines place held
shown-place tags world client count place None fits = record {
  status = left-trbs (stream_ring world.lines.status (tag_of tags place)) [] 0 fits.status;
  data_in = left-trbs (stream_ring world.lines.data_in (tag_of tags place)) [] 0 fits.data_in;
  data_out = left-trbs (stream_ring world.lines.data_out (tag_of tags place)) [] 0 fits.data_out;
}
shown-place tags world client count place (Some entry) fits = record {
  status = left-held (stream_ring world.lines.status (tag_of tags place)) _ entry.status_td.consumed entry.status_td.state fits.status;
  data_in = left-data (stream_ring world.lines.data_in (tag_of tags place)) _ _ fits.data_in;
  data_out = left-data (stream_ring world.lines.data_out (tag_of tags place)) _ _ fits.data_out;
}

shown-held : (tags : ℕ) (world : World) (count : ℕ) (place : Place) (held : Option Entry) → FitsHeld tags place.client count place held (cell_at tags world place)
    → ShowsHeld tags place held (held_for world.frames (tag_of tags place))
shown-held tags world count place None fits = fits.lent
shown-held tags world count place (Some entry) fits = record { unit = fits.unit; answer = fits.answer; lent = fits.lent }

fits-at : (state : Shared) (world : World) (place : Place) (found_part : Option Part) → Fits state world
    → slice_get state.parts place.client ≡ found_part → place.client < length state.parts → place.slot < state.tags
    → (count : ℕ) × FitsHeld state.tags place.client count place (option_map_or (held_in place) found_part None) (cell_at state.tags world place)
fits-at state world place None fits is there within = absurd (missing state.parts place.client there is)
  where
    missing : (parts : List Part) (at : ℕ) → at < length parts → slice_get parts at ≡ None → ⊥
    missing [] at there is = omega arith
    missing (part ∷ rest) zero there is = none-some part (sym is)
    missing (part ∷ rest) (suc at) there is = missing rest at (omega arith) is
fits-at state world place (Some part) fits is there within =
    let at : IsFound state.tags world place.client part = found state.tags world state.parts place.client part fits.clients is in
    (part.unit.count, at.fits.cells place.slot within)

-- THE CONTROLLER'S COMMAND RING

shown-stage : (tags : ℕ) (lines : LinesState) (pipe : Pipe) (place : Place) (stage : RetirementStage) → HoldsCommand tags lines pipe place stage
    → pending_in lines.engine ≡ map known (commands_at tags lines pipe place stage)
shown-stage tags lines pipe place StopAsked holds = left-trbs lines.engine (stop_trb pipe ∷ []) 0 holds
shown-stage tags lines pipe place StopAnswered holds = left-trbs lines.engine (stop_trb pipe ∷ []) 1 holds
shown-stage tags lines pipe place MoveAsked holds = left-trbs lines.engine (move_trb lines pipe (tag_of tags place) ∷ []) 0 holds
shown-stage tags lines pipe place MoveAnswered holds = left-trbs lines.engine (move_trb lines pipe (tag_of tags place) ∷ []) 1 holds

shown-commands : (tags : ℕ) (lines : LinesState) (retirement : Option Retirement) → HoldsCommandOf tags lines retirement
    → pending_in lines.engine ≡ map known (commands_of tags lines retirement)
shown-commands tags lines None holds = left-trbs lines.engine [] 0 holds
shown-commands tags lines (Some r) holds = shown-stage tags lines r.pipe r.place r.stage holds

-- THE WHOLE

pub shown : (state : Shared) (world : World) → Fits state world → ShowsShared state world.lines
shown state world fits = record {
  messages =
      ap (λ n. drop n world.lines.command.put) fits.queues.got ∙ ap (drop (length (carried_places state.events))) fits.queues.put
      ∙ drop-carried state.tags (carried_places state.events) state.messages;
  commands = shown-commands state.tags world.lines state.retirement fits.engine.commands;
  events = ap (map told_in) fits.queues.texts ∙ told-texts state.tags world 0 state.events;
  places = λ place there within.
      let at = fits-at state world place (slice_get state.parts place.client) fits refl there within in
      shown-place state.tags world place.client at.0 place (under state.parts place) at.1;
  unused = fits.unused;
}

pub frames-shown : (state : Shared) (world : World) → Fits state world → ShowsFrames state world.frames
frames-shown state world fits = λ place there within.
    let at = fits-at state world place (slice_get state.parts place.client) fits refl there within in
    shown-held state.tags world at.0 place (under state.parts place) at.1

-- CONTEXTS

pub points-ahead : (lines : LinesState) → PointAhead lines
points-ahead lines Command stream contexts streams has shown = absurd streams
points-ahead lines Status stream contexts streams has shown = shown.ring stream has.0 has.1
points-ahead lines DataIn stream contexts streams has shown = shown.ring stream has.0 has.1
points-ahead lines DataOut stream contexts streams has shown = shown.ring stream has.0 has.1
