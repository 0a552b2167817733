-- The controller executes the command of a retirement, with code 1, and that is the shared machine's step. Cited by the law of engines
-- and by the answers of the bus.
use Rattle.std.proofs.Common.{◌≡◌, ℕ, ◌+◌, ◌-◌, ◌<◌, ◌≤◌, Bool, true, false, ◌&&◌, cond, List, [], ◌∷◌, ◌++◌, length, map, Option, Some, None}
use Rattle.std.proofs.Common.{option_map, refl, arith, ap, sym, subst, ◌∙◌}
use Rattle.std.specs.Prelude.{slice_get, slice_set, IfSome}
use Rattle.std.specs.Option.{option_map_or}
use Rattle.std.proofs.lemmas.Bool.{false≢true, ltb-false}
use Rattle.std.proofs.lemmas.Option.{slice_get_past}
use Rattle.std.proofs.lemmas.List.{length-map}
use Rattle.xhci_trb.specs.declared.Trb.{Trb}
use Rattle.xhci_trb.specs.declared.Trb.TheVariants.{SetDequeue}
use Rattle.cycle_ring.specs.Ring.{cycle_of, pointer_of}
use Rattle.cycle_ring.specs.Items.{Item, ItemRing, known_of, known}
use Rattle.event_ring.specs.declared.Event.{Event}
use Rattle.event_ring.specs.Events.{Events}
use Rattle.uas_profile.specs.declared.Pipe.{Pipe}
use Rattle.uas_profile.specs.declared.Pipe.TheVariants.{Command, Status, DataIn, DataOut}
use Rattle.uas_profile.specs.Pipes.{HasStreams}
use Rattle.stream_array.specs.Map.{HasRing, places_of}
use Rattle.stream_array.specs.Rings.{IsLines, LinesState, ring_of, stream_ring, with_ring}
use Rattle.stream_array.proofs.Frames.{ring_of_with_ring}
use Rattle.uas_profile.specs.declared.Place.{Place}
use Rattle.uas_host.specs.declared.HostEntry.{HostEntry}
use Rattle.uas_profile.specs.Pipes.{target_of}
use Rattle.uas_profile.specs.Pipes.{same_pipe}
use Rattle.uas_host.specs.Retirement.{move_trb, stop_trb}
use Rattle.uas_profile.specs.Tags.{tag_of}
use Rattle.xhci_ctl.specs.declared.Acted.{Acted}
use Rattle.xhci_ctl.specs.declared.Acted.TheVariants.{Acted as ActedOn, Idle}
use Rattle.uas_profile.specs.declared.TheConstants.{STREAMS, ENGINE_RING_PLACES, MOST_DATA_TRBS}
use Rattle.xhci_ctl.specs.Engine.{engine_acted, engine_consumed, engine_did}
use Rattle.uas_profile.specs.PipeStates.{stopped_pipe}
use Rattle.xhci_ctl.specs.Engine.{stopped_on}
use Rattle.xhci_ctl.specs.Pipes.{ControllerState, has_pending, is_running}
use Rattle.xhci_ctl.specs.Steps.{front_at, has_event_room, posted}
use Rattle.scsi_cmd.specs.Held.{held_at}
use Rattle.frame_store.specs.Buffers.{held_for}
use Rattle.shared_machine.specs.declared.Td.{Td}
use Rattle.uas_profile.specs.declared.PipeState.{PipeState}
use Rattle.shared_machine.specs.declared.Completion.TheVariants.{EngineDone}
use Rattle.shared_machine.specs.declared.Retirement.{Retirement}
use Rattle.shared_machine.specs.declared.RetirementStage.{RetirementStage}
use Rattle.shared_machine.specs.declared.RetirementStage.TheVariants.{StopAsked, StopAnswered, MoveAsked, MoveAnswered}
use Rattle.shared_machine.specs.declared.Step.TheVariants.{Engine as EngineStep}
use Rattle.shared_machine.specs.Td.{Entry, has_trb_on, is_left_over_on, passed_on, passed_td, trbs_on}
use Rattle.shared_machine.specs.Part.{Part, pass_act, passed_slot, stop_act, with_entry}
use Rattle.shared_machine.specs.Shared.{Shared, acted_on, at_stage, engine_step, idle, is_asked, pipe_of, routed_to, shared_step, with_pipe}
use Rattle.machine_invariant.specs.Matched.{IsMatched, IsRetiring, answered_place, answered_places, carried_places, is_passed, retired_places, same_place, under}
use Rattle.machine_invariant.specs.Matched.{was_moved}
use Rattle.bus_core.specs.World.{World, cell_at}
use Rattle.bus_core.specs.Cells.{FitsCell, HoldsIn, host_side, state_of}
use Rattle.bus_core.specs.Fits.{command_item, data_event, engine_event, event_texts, Fits, FitsQueues, HoldsCommand, HoldsCommandOf, IsSoundWorld}
use Rattle.bus_core.specs.Fits.{host_retirement, place_in, status_event}
use Rattle.bus_core.specs.WorldSteps.{EngineFits, EngineIsIdle, EnginesFit, engine_world}
use Rattle.bus_core.proofs.common.ActFits.{IsPlaced, placed}
use Rattle.bus_core.proofs.retire.EngineCells.{KeepsRings, ReadsAlike, WritesOne, carried-last, kept-fits, texts-alike, texts-last, with_ring-keeps, written-fits}
use Rattle.bus_core.proofs.retire.EngineCellWrites.{IsLeftOn, StandsWith, cell-changed, cell_ring, left-on, left-unconsumed, length-td_trbs, ring-of-cell}
use Rattle.bus_core.proofs.retire.EngineCellWrites.{stands-with, td_trbs, trbs_on-most, uncounted, uncounted-set, with_cell_ring}
use Rattle.bus_core.proofs.retire.EngineDue.{engines-are-due}
use Rattle.bus_core.proofs.common.CellWrites.{stream_ring-same}
use Rattle.bus_core.proofs.carry.CommandFront.{event-room}
use Rattle.bus_core.proofs.common.Framing.{SamePipes, ChangesCell, FitsPart-set}
use Rattle.machine_invariant.proofs.MatchedSteps.{shared_step-matched}
use Rattle.shared_machine.proofs.Standing.{slice_get-back}
use Rattle.bus_core.proofs.retire.EngineExecuted.{acted-is, stop-executed, passed_ring}
use Rattle.bus_core.proofs.retire.EngineExecuted.{move-executed}
use Rattle.uas_profile.proofs.TagLaws.{tags-within}

-- THE STATE AFTER IT

-- the retirement at a stage
abbrev pub under_way : Pipe → Place → RetirementStage → Retirement
under_way pipe place stage = record { pipe = pipe; place = place; stage = stage }

pub same-pipes : (state : Shared) (world : World) → Fits state world → SamePipes world.controller state
same-pipes state world fits = record { status = fits.status; data_in = fits.data_in; data_out = fits.data_out }

stopped-pipes : (controller : ControllerState) (state : Shared) (pipe : Pipe) → SamePipes controller state
    → SamePipes (stopped_on controller pipe) (with_pipe state pipe stopped_pipe)
stopped-pipes controller state Command same = same
stopped-pipes controller state Status same = record { status = refl; data_in = same.data_in; data_out = same.data_out }
stopped-pipes controller state DataIn same = record { status = same.status; data_in = refl; data_out = same.data_out }
stopped-pipes controller state DataOut same = record { status = same.status; data_in = same.data_in; data_out = refl }

-- a pipe runs on both sides, or on neither
running-same : (controller : ControllerState) (state : Shared) (pipe : Pipe) → SamePipes controller state
    → is_running controller pipe ≡ (pipe_of state pipe).runs
running-same controller state Command same = refl
running-same controller state Status same = ap (λ (p : PipeState). p.runs) same.status
running-same controller state DataIn same = ap (λ (p : PipeState). p.runs) same.data_in
running-same controller state DataOut same = ap (λ (p : PipeState). p.runs) same.data_out

-- what else there is of a state with another pipe
pub record PipeApart (state : Shared) (pipe : Pipe) (now : PipeState) : Type 0 where
  pub tags : (with_pipe state pipe now).tags ≡ state.tags
  pub parts : (with_pipe state pipe now).parts ≡ state.parts
  pub messages : (with_pipe state pipe now).messages ≡ state.messages
  pub events : (with_pipe state pipe now).events ≡ state.events

pub pipe-apart : (state : Shared) (pipe : Pipe) (now : PipeState) → PipeApart state pipe now
pipe-apart state Command now = record { tags = refl; parts = refl; messages = refl; events = refl }
pipe-apart state Status now = record { tags = refl; parts = refl; messages = refl; events = refl }
pipe-apart state DataIn now = record { tags = refl; parts = refl; messages = refl; events = refl }
pipe-apart state DataOut now = record { tags = refl; parts = refl; messages = refl; events = refl }

-- the world after a command of the controller's own
abbrev pub acted_world : World → ControllerState → LinesState → World
acted_world world controller lines =
    record world { controller = controller; lines = posted (engine_consumed lines) (engine_event world.lines.engine) }

-- its event joins those that wait, behind all others
acted-queues : (state now : Shared) (world after : World) (place : Place) → Fits state world → now.tags ≡ state.tags → now.messages ≡ state.messages
    → now.events ≡ state.events ++ EngineDone place ∷ [] → after.lines.command ≡ world.lines.command
    → after.lines.events.pending ≡ world.lines.events.pending ++ engine_event world.lines.engine ∷ []
    → engine_event after.lines.engine ≡ engine_event world.lines.engine → ReadsAlike state.tags world after state.events → FitsQueues now after
acted-queues state now world after place fits number messages events command pending same alike =
    let carried : carried_places now.events ≡ carried_places state.events = ap carried_places events ∙ carried-last state.events place in
    record {
      put = ap (λ (r : ItemRing). r.put) command ∙ fits.queues.put ∙ ap (λ places. map (command_item state.tags) (places ++ state.messages)) (sym carried)
          ∙ ap (λ messages. map (command_item state.tags) (carried_places now.events ++ messages)) (sym messages)
          ∙ ap (λ t. map (command_item t) (carried_places now.events ++ now.messages)) (sym number);
      got = ap (λ (r : ItemRing). r.got) command ∙ fits.queues.got ∙ ap (λ (places : List Place). length places) (sym carried);
      texts = pending ∙ ap (λ es. es ++ engine_event world.lines.engine ∷ []) (fits.queues.texts ∙ sym (texts-alike state.tags world after 0 state.events alike))
          ∙ ap (λ e. event_texts state.tags after 0 state.events ++ e ∷ []) (sym same)
          ∙ sym (texts-last state.tags after 0 state.events place) ∙ ap (event_texts state.tags after 0) (sym events)
          ∙ ap (λ t. event_texts t after 0 now.events) (sym number);
    }

-- the pipe's own retirement is at this stage
pub record IsUnderWay (state : Shared) (world : World) (pipe : Pipe) (place : Place) (stage : RetirementStage) : Type 0 where
  pub is : state.retirement ≡ Some (under_way pipe place stage)
  pub retiring : IsRetiring state (under_way pipe place stage)
  pub entry : Entry
  pub held : under state.parts place ≡ Some entry
  pub left : is_left_over_on pipe entry ≡ true
  pub at : IsPlaced state world place entry
  pub commands : HoldsCommand state.tags world.lines pipe place stage
  pub answered : retired_places state.events ≡ answered_place stage place
  pub hosts : world.host.retirement ≡ Some (host_retirement (under_way pipe place stage))

pub under-way : (state : Shared) (world : World) (pipe : Pipe) (place : Place) (stage : RetirementStage) → Fits state world
    → state.retirement ≡ Some (under_way pipe place stage) → IsUnderWay state world pipe place stage
under-way state world pipe place stage fits is =
    let retiring : IsRetiring state (under_way pipe place stage) = subst (λ o. IfSome o (IsRetiring state)) is fits.matched.retiring in
    let stands : StandsWith state place (is_left_over_on pipe) = stands-with state place (is_left_over_on pipe) retiring.left in
    record {
      is = is;
      retiring = retiring;
      entry = stands.entry;
      held = stands.held;
      left = stands.so;
      at = placed state world place stands.entry fits stands.held;
      commands = subst (HoldsCommandOf state.tags world.lines) is fits.engine.commands;
      answered = fits.matched.retired ∙ ap answered_places is;
      hosts = fits.engine.retirement ∙ ap (option_map host_retirement) is;
    }

-- STOP ENDPOINT: NO CELL CHANGES

abbrev stopped_state : Shared → Pipe → Place → Part → Shared
stopped_state state pipe place part =
    (acted_on (at_stage (with_pipe state pipe stopped_pipe) (under_way pipe place StopAsked) StopAnswered) place.client (stop_act place part)).0

stop-stepped : (state : Shared) (pipe : Pipe) (place : Place) (part : Part) → state.retirement ≡ Some (under_way pipe place StopAsked)
    → slice_get state.parts place.client ≡ Some part → (shared_step state EngineStep).0 ≡ stopped_state state pipe place part
stop-stepped state pipe place part is there =
    ap (λ o. (cond (option_map_or (λ (r : Retirement). is_asked r.stage) o false) (engine_step state o) (state, idle)).0) is
    ∙ ap (λ found. (routed_to (at_stage (with_pipe state pipe stopped_pipe) (under_way pipe place StopAsked) StopAnswered) place.client (stop_act place)
    found).0)
    (ap (λ parts. slice_get parts place.client) (pipe-apart state pipe stopped_pipe).parts ∙ there)

stop-fits : (state : Shared) (world : World) (pipe : Pipe) (place : Place) → (at : IsUnderWay state world pipe place StopAsked) → Fits state world
    → IsMatched (stopped_state state pipe place at.at.part) → IsSoundWorld (acted_world world (stopped_on world.controller pipe) world.lines)
    → Fits (stopped_state state pipe place at.at.part) (acted_world world (stopped_on world.controller pipe) world.lines)
stop-fits state world pipe place at fits matched sound =
    let apart : PipeApart state pipe stopped_pipe = pipe-apart state pipe stopped_pipe in
    let after : World = acted_world world (stopped_on world.controller pipe) world.lines in
    let pipes : SamePipes (stopped_on world.controller pipe) (with_pipe state pipe stopped_pipe) =
    stopped-pipes world.controller state pipe (same-pipes state world fits) in
    kept-fits state (stopped_state state pipe place at.at.part) world after fits
    (record { number = refl; hosts = refl; device = refl; frames = refl; status = refl; data_in = refl; data_out = refl }) apart.tags
    (ap (λ parts. slice_set parts place.client at.at.part) apart.parts ∙ slice_get-back state.parts place.client at.at.part at.at.there)
    (record { status = pipes.status; data_in = pipes.data_in; data_out = pipes.data_out })
    (acted-queues state (stopped_state state pipe place at.at.part) world after place fits apart.tags apart.messages
    (ap (λ events. events ++ EngineDone place ∷ []) apart.events)
    refl refl refl (record { none = at.answered; command_base = refl; moved = λ other some. refl; sent = λ other some. refl }))
    (record { retirement = at.hosts; commands = (at.commands.0, ap (λ taken. taken + 1) at.commands.1) }) matched sound

-- SET TR DEQUEUE POINTER: THE TD'S RING IS PASSED

abbrev moved_state : Shared → Pipe → Place → Part → Entry → Shared
moved_state state pipe place part entry = record state {
  retirement = Some (under_way pipe place MoveAnswered);
  parts = slice_set state.parts place.client (with_entry part place.slot (passed_on pipe entry));
  events = state.events ++ EngineDone place ∷ [];
}

move-stepped : (state : Shared) (pipe : Pipe) (place : Place) (part : Part) (entry : Entry) → state.retirement ≡ Some (under_way pipe place MoveAsked)
    → slice_get state.parts place.client ≡ Some part → held_at part.entries place.slot ≡ Some entry
    → (shared_step state EngineStep).0 ≡ moved_state state pipe place part entry
move-stepped state pipe place part entry is there held =
    ap (λ o. (cond (option_map_or (λ (r : Retirement). is_asked r.stage) o false) (engine_step state o) (state, idle)).0) is
    ∙ ap (λ found. (routed_to (at_stage state (under_way pipe place MoveAsked) MoveAnswered) place.client (pass_act pipe place) found).0) there
    ∙ ap (λ found. (acted_on (at_stage state (under_way pipe place MoveAsked) MoveAnswered) place.client (passed_slot pipe part place found)).0) held

abbrev moved_world : ℕ → World → Pipe → Place → World
moved_world tags world pipe place =
    acted_world world world.controller (with_ring world.lines pipe (tag_of tags place) (passed_ring (ring_of world.lines pipe (tag_of tags place))))

-- only what is consumed of a ring differs
record AreAlike (before after : LinesState) : Type 0 where
  engine : after.engine ≡ before.engine
  command : after.command ≡ before.command
  events : after.events ≡ before.events
  status : (tag : ℕ) → uncounted (stream_ring after.status tag) ≡ uncounted (stream_ring before.status tag)
  data_in : (tag : ℕ) → uncounted (stream_ring after.data_in tag) ≡ uncounted (stream_ring before.data_in tag)
  data_out : (tag : ℕ) → uncounted (stream_ring after.data_out tag) ≡ uncounted (stream_ring before.data_out tag)

uncounted-passed : (rings : List ItemRing) (tag other : ℕ)
    → uncounted (stream_ring (slice_set rings (tag - 1) (passed_ring (stream_ring rings tag))) other) ≡ uncounted (stream_ring rings other)
uncounted-passed rings tag other = uncounted-set rings (tag - 1) (other - 1) (length (stream_ring rings tag).put)

passed-alike : (lines : LinesState) (pipe : Pipe) (tag : ℕ) → HasStreams pipe
    → AreAlike lines (with_ring lines pipe tag (passed_ring (ring_of lines pipe tag)))
passed-alike lines Command tag streams = absurd streams
passed-alike lines Status tag streams =
    record { engine = refl; command = refl; events = refl; status = uncounted-passed lines.status tag; data_in = λ other. refl; data_out = λ other. refl }
passed-alike lines DataIn tag streams =
    record { engine = refl; command = refl; events = refl; status = λ other. refl; data_in = uncounted-passed lines.data_in tag; data_out = λ other. refl }
passed-alike lines DataOut tag streams =
    record { engine = refl; command = refl; events = refl; status = λ other. refl; data_in = λ other. refl; data_out = uncounted-passed lines.data_out tag }

moved-reads : (state : Shared) (world : World) (pipe : Pipe) (place : Place) → HasStreams pipe → retired_places state.events ≡ []
    → ReadsAlike state.tags world (moved_world state.tags world pipe place) state.events
moved-reads state world pipe place streams none =
    let alike = passed-alike world.lines pipe (tag_of state.tags place) streams in
    let after : LinesState = (moved_world state.tags world pipe place).lines in
    record {
      none = none;
      command_base = alike.command;
      moved = λ other some.
          ap (λ (ring : ItemRing). data_event ring (stream_ring after.data_out (tag_of state.tags other))) (alike.data_in (tag_of state.tags other))
          ∙ ap (λ (ring : ItemRing). data_event (stream_ring world.lines.data_in (tag_of state.tags other)) ring) (alike.data_out (tag_of state.tags other));
      sent = λ other some. ap (λ (ring : ItemRing). status_event state.tags other.slot ring (held_for world.frames (tag_of state.tags other)).status) (alike.status (tag_of state.tags other));
    }

-- the TD as it stands on that ring, with a TRB that the controller may take
record IsPassable (tags : ℕ) (world : World) (pipe : Pipe) (place : Place) (entry : Entry) : Type 0 where
  put : (ring_of world.lines pipe (tag_of tags place)).put ≡ map known (td_trbs pipe (tag_of tags place) entry)
  consumed : (ring_of world.lines pipe (tag_of tags place)).got ≤ length (ring_of world.lines pipe (tag_of tags place)).put
  count : length (ring_of world.lines pipe (tag_of tags place)).put ≡ trbs_on pipe entry
  short : length (ring_of world.lines pipe (tag_of tags place)).put ≤ MOST_DATA_TRBS

and-false : (a b : Bool) → (a && (b && false)) ≡ false
and-false true true = refl
and-false true false = refl
and-false false b = refl

passable : (state : Shared) (world : World) (pipe : Pipe) (place : Place) (at : IsUnderWay state world pipe place MoveAsked) → Fits state world
    → IsPassable state.tags world pipe place at.entry
passable state world pipe place at fits =
    let left : IsLeftOn pipe (tag_of state.tags place) at.entry (cell_ring pipe (cell_at state.tags world place)) =
    left-on state.tags place.client at.at.part.unit.count pipe place at.entry (cell_at state.tags world place) at.at.cell at.left in
    let same = ring-of-cell state.tags world pipe place at.retiring.streams in
    let unpassed : is_passed state pipe place ≡ false =
    ap (λ o. option_map_or (λ (r : Retirement). same_pipe r.pipe pipe && (same_place r.place place && was_moved r.stage)) o false) at.is
    ∙ and-false (same_pipe pipe pipe) (same_place place place) in
    let has : has_trb_on pipe at.entry ≡ true =
    ap (λ o. option_map_or (has_trb_on pipe) o false) (sym at.held) ∙ (fits.matched.flows pipe place).left unpassed at.retiring.left in
    let some : left.td.consumed < trbs_on pipe at.entry = left-unconsumed pipe at.entry left.td left.on has in
    let put = ap (λ (r : ItemRing). r.put) same ∙ left.holds.0 in
    let got = ap (λ (r : ItemRing). r.got) same ∙ left.holds.1 in
    let count =
    ap (λ (ts : List Item). length ts) put ∙ length-map (td_trbs pipe (tag_of state.tags place) at.entry) known ∙ length-td_trbs pipe (tag_of state.tags place) at.entry at.retiring.streams in
    record {
      put = put;
      consumed = omega (arith, got, some, count);
      count = count;
      short = omega (arith, count, trbs_on-most pipe at.entry at.at.matched.here.sound.small);
    }

-- the tag is one of a stream
pub tag-streams : (state : Shared) (world : World) (pipe : Pipe) (place : Place) (stage : RetirementStage) (at : IsUnderWay state world pipe place stage)
    → Fits state world → (1 ≤ tag_of state.tags place) × (tag_of state.tags place ≤ STREAMS)
tag-streams state world pipe place stage at fits =
    (omega arith, omega (arith, (tags-within state.tags (length state.parts) place at.at.is_place.client at.at.is_place.slot).1, fits.most_tags))

-- the host's side of the entry is the same
passed-states : (trbs : ℕ) (td : Option Td) → option_map state_of (option_map (passed_td trbs) td) ≡ option_map state_of td
passed-states trbs None = refl
passed-states trbs (Some td) = refl

passed-side : (pipe : Pipe) (entry : Entry) → host_side (passed_on pipe entry) ≡ host_side entry
passed-side Command entry = refl
passed-side Status entry = refl
passed-side DataIn entry = ap (λ states. record (host_side entry) { data_td = states }) (passed-states (trbs_on DataIn entry) entry.data_td)
passed-side DataOut entry = ap (λ states. record (host_side entry) { data_td = states }) (passed-states (trbs_on DataOut entry) entry.data_td)

moved-here : (tags : ℕ) (world : World) (pipe : Pipe) (place : Place) → IsLines world.lines → tag_of tags place ≤ STREAMS → HasStreams pipe
    → cell_at tags (moved_world tags world pipe place) place
    ≡ record (with_cell_ring pipe (cell_at tags world place) (passed_ring (ring_of world.lines pipe (tag_of tags place)))) { held = (cell_at tags world place).held }
moved-here tags world Command place lines most streams = absurd streams
moved-here tags world Status place lines most streams =
    ap (λ ring. record (cell_at tags world place) { status = ring })
    (stream_ring-same world.lines.status (tag_of tags place) (passed_ring (stream_ring world.lines.status (tag_of tags place))) (omega arith)
    (omega (arith, most, lines.status)))
moved-here tags world DataIn place lines most streams =
    ap (λ ring. record (cell_at tags world place) { data_in = ring })
    (stream_ring-same world.lines.data_in (tag_of tags place) (passed_ring (stream_ring world.lines.data_in (tag_of tags place))) (omega arith)
    (omega (arith, most, lines.data_in)))
moved-here tags world DataOut place lines most streams =
    ap (λ ring. record (cell_at tags world place) { data_out = ring })
    (stream_ring-same world.lines.data_out (tag_of tags place) (passed_ring (stream_ring world.lines.data_out (tag_of tags place))) (omega arith)
    (omega (arith, most, lines.data_out)))

moved-cell : (state : Shared) (world : World) (pipe : Pipe) (place : Place) (at : IsUnderWay state world pipe place MoveAsked) → Fits state world
    → FitsCell state.tags place.client at.at.part.unit.count place (passed_on pipe at.entry) (cell_at state.tags (moved_world state.tags world pipe place) place)
moved-cell state world pipe place at fits =
    let ring : ItemRing = passed_ring (ring_of world.lines pipe (tag_of state.tags place)) in
    let able = passable state world pipe place at fits in
    let tag = tag-streams state world pipe place MoveAsked at fits in
    subst (λ c. FitsCell state.tags place.client at.at.part.unit.count place (passed_on pipe at.entry) c)
    (sym (moved-here state.tags world pipe place fits.sound.lines tag.1 at.retiring.streams))
    (cell-changed state.tags place.client at.at.part.unit.count pipe place at.entry (cell_at state.tags world place) (passed_td (trbs_on pipe at.entry)) ring
    (cell_at state.tags world place).held at.at.cell at.left
    (λ td on left. subst (HoldsIn ring (td_trbs pipe (tag_of state.tags place) at.entry) (trbs_on pipe at.entry)) (sym left) (able.put, able.count))
    (at.at.cell.held ∙ ap (λ (h : HostEntry). Some h) (sym (passed-side pipe at.entry))))

moved-writes : (state : Shared) (world : World) (pipe : Pipe) (place : Place) (at : IsUnderWay state world pipe place MoveAsked) → Fits state world
    → WritesOne state (moved_state state pipe place at.at.part at.entry) world (moved_world state.tags world pipe place) place at.at.part.unit at.at.client.held
    (with_entry at.at.part place.slot (passed_on pipe at.entry))
moved-writes state world pipe place at fits =
    let keeps : KeepsRings state.tags world.lines (with_ring world.lines pipe (tag_of state.tags place) (passed_ring (ring_of world.lines pipe (tag_of state.tags place)))) place =
    with_ring-keeps state.tags world.lines pipe place (passed_ring (ring_of world.lines pipe (tag_of state.tags place))) in
    let changes : ChangesCell state.tags world (moved_world state.tags world pipe place) place.client place.slot at.at.client.held at.at.part.unit = record {
      hosts = sym (slice_get-back world.host.clients place.client at.at.client.held at.at.client.held_is);
      units = sym (slice_get-back world.device.units place.client at.at.part.unit at.at.client.unit_is);
      others = λ other slot inside apart.
          let status = keeps.status (tag_of state.tags (place_in other slot)) (omega arith) apart in
          let data_in = keeps.data_in (tag_of state.tags (place_in other slot)) (omega arith) apart in
          let data_out = keeps.data_out (tag_of state.tags (place_in other slot)) (omega arith) apart in
          λ i. record (cell_at state.tags world (place_in other slot)) { status = status i; data_in = data_in i; data_out = data_out i };
    } in
    record {
      tags = refl;
      number = refl;
      parts = refl;
      changes = changes;
      device = refl;
      rings = record { status = keeps.status; data_in = keeps.data_in; data_out = keeps.data_out };
      client = FitsPart-set state.tags fits.matched.tags world (moved_world state.tags world pipe place) place.client place.slot at.at.part.unit at.at.part.unit at.at.client.held at.at.client.held
          at.at.part (Some (passed_on pipe at.entry)) at.at.part.least_ticket at.at.part.ready at.at.client.fits at.at.is_place.slot changes refl
          at.at.client.fits.least_ticket at.at.client.fits.ready (moved-cell state world pipe place at fits);
    }

-- the command names the same place
ring_of-acted : (lines : LinesState) (event : Event) (pipe : Pipe) (stream : ℕ) → ring_of (posted (engine_consumed lines) event) pipe stream
    ≡ ring_of lines pipe stream
ring_of-acted lines event Command stream = refl
ring_of-acted lines event Status stream = refl
ring_of-acted lines event DataIn stream = refl
ring_of-acted lines event DataOut stream = refl

pub streams-ring : (pipe : Pipe) (stream : ℕ) → HasStreams pipe → 1 ≤ stream → stream ≤ STREAMS → HasRing pipe stream
streams-ring Command stream has first last = absurd has
streams-ring Status stream has first last = (omega arith, omega arith)
streams-ring DataIn stream has first last = (omega arith, omega arith)
streams-ring DataOut stream has first last = (omega arith, omega arith)

-- the command by the ring that it is of
abbrev move_by : Pipe → ℕ → ItemRing → Trb
move_by pipe tag ring =
    SetDequeue (pointer_of (places_of pipe) ring (length ring.put)) (cycle_of (places_of pipe) ring (length ring.put)) tag (target_of pipe) 1

moved-names : (tags : ℕ) (world : World) (pipe : Pipe) (place : Place) → IsLines world.lines → HasStreams pipe → tag_of tags place ≤ STREAMS
    → move_trb (moved_world tags world pipe place).lines pipe (tag_of tags place) ≡ move_trb world.lines pipe (tag_of tags place)
moved-names tags world pipe place lines streams most =
    let ring : ItemRing = passed_ring (ring_of world.lines pipe (tag_of tags place)) in
    let is : ring_of (moved_world tags world pipe place).lines pipe (tag_of tags place) ≡ passed_ring (ring_of world.lines pipe (tag_of tags place)) =
    ring_of-acted (with_ring world.lines pipe (tag_of tags place) (passed_ring (ring_of world.lines pipe (tag_of tags place)))) (engine_event world.lines.engine) pipe
    (tag_of tags place)
    ∙ ring_of_with_ring world.lines pipe (tag_of tags place) (passed_ring (ring_of world.lines pipe (tag_of tags place))) lines
    (streams-ring pipe (tag_of tags place) streams (omega arith) most) in
    ap (move_by pipe (tag_of tags place)) is

move-fits : (state : Shared) (world : World) (pipe : Pipe) (place : Place) → (at : IsUnderWay state world pipe place MoveAsked) → Fits state world
    → IsMatched (moved_state state pipe place at.at.part at.entry) → IsSoundWorld (moved_world state.tags world pipe place)
    → Fits (moved_state state pipe place at.at.part at.entry) (moved_world state.tags world pipe place)
move-fits state world pipe place at fits matched sound =
    let after : World = moved_world state.tags world pipe place in
    let now : Shared = moved_state state pipe place at.at.part at.entry in
    let tag = tag-streams state world pipe place MoveAsked at fits in
    let alike = passed-alike world.lines pipe (tag_of state.tags place) at.retiring.streams in
    let event = engine_event world.lines.engine in
    written-fits state now world after place at.at.part at.at.part.unit at.at.client.held (with_entry at.at.part place.slot (passed_on pipe at.entry)) fits
    at.at.there at.at.is_place (moved-writes state world pipe place at fits)
    (record { status = fits.status; data_in = fits.data_in; data_out = fits.data_out })
    (acted-queues state now world after place fits refl refl refl alike.command
    (ap (λ (es : Events). es.pending ++ engine_event world.lines.engine ∷ []) alike.events)
    (ap engine_event alike.engine) (moved-reads state world pipe place at.retiring.streams at.answered))
    (record {
      retirement = at.hosts;
      commands = (
        ap (λ (r : ItemRing). r.put) alike.engine ∙ at.commands.0
            ∙ ap (λ trb. known trb ∷ []) (sym (moved-names state.tags world pipe place fits.sound.lines at.retiring.streams tag.1)),
        ap (λ (r : ItemRing). r.got + 1) alike.engine ∙ ap (λ taken. taken + 1) at.commands.1,
      );
    }) matched sound

-- THE STEP

-- the world with what a step of the command ring made
abbrev world_with : World → (ControllerState × LinesState) × Acted → World
world_with world did = record world { controller = did.0.0; lines = did.0.1 }

engine-done : (state now : Shared) (world : World) (controller : ControllerState) (lines : LinesState) → Fits state world
    → (shared_step state EngineStep).0 ≡ now
    → engine_acted (world.controller, world.lines) ≡ ((controller, posted (engine_consumed lines) (engine_event world.lines.engine)), ActedOn 0)
    → (IsMatched now → IsSoundWorld (acted_world world controller lines) → Fits now (acted_world world controller lines)) → EngineFits state world
engine-done state now world controller lines fits stepped does fit = record {
  acted = ap (λ (a : (ControllerState × LinesState) × Acted). a.1) does;
  fits = λ sound.
      subst (λ s. Fits s (engine_world world)) (sym stepped)
      (subst (λ a. Fits now (world_with world a)) (sym does)
      (fit (subst IsMatched stepped (shared_step-matched state EngineStep fits.matched)) (subst (λ a. IsSoundWorld (world_with world a)) does sound)));
}

by-stage : (state : Shared) (world : World) (pipe : Pipe) (place : Place) (stage : RetirementStage) → Fits state world
    → state.retirement ≡ Some (under_way pipe place stage) → is_asked stage ≡ true → EngineFits state world
by-stage state world pipe place StopAsked fits is asked =
    let at : IsUnderWay state world pipe place StopAsked = under-way state world pipe place StopAsked fits is in
    engine-done state (stopped_state state pipe place at.at.part) world (stopped_on world.controller pipe) world.lines fits
    (stop-stepped state pipe place at.at.part is at.at.there)
    (acted-is world.controller (stopped_on world.controller pipe) world.lines world.lines (stop_trb pipe) (event-room state world fits) at.commands
    (stop-executed world.controller world.lines pipe at.retiring.streams
    (running-same world.controller state pipe (same-pipes state world fits) ∙ at.retiring.stage (omega (arith, fits.most_tags)))))
    (λ matched sound. stop-fits state world pipe place at fits matched sound)
by-stage state world pipe place StopAnswered fits is asked = absurd (false≢true asked)
by-stage state world pipe place MoveAsked fits is asked =
    let at : IsUnderWay state world pipe place MoveAsked = under-way state world pipe place MoveAsked fits is in
    let tag = tag-streams state world pipe place MoveAsked at fits in
    let able : IsPassable state.tags world pipe place at.entry = passable state world pipe place at fits in
    engine-done state (moved_state state pipe place at.at.part at.entry) world world.controller
    (with_ring world.lines pipe (tag_of state.tags place) (passed_ring (ring_of world.lines pipe (tag_of state.tags place)))) fits
    (move-stepped state pipe place at.at.part at.entry is at.at.there at.at.held)
    (acted-is world.controller world.controller world.lines (with_ring world.lines pipe (tag_of state.tags place) (passed_ring (ring_of world.lines pipe (tag_of state.tags place))))
    (move_trb world.lines pipe (tag_of state.tags place)) (event-room state world fits) at.commands
    (move-executed world.controller world.lines pipe (tag_of state.tags place) at.retiring.streams tag.0 tag.1
    (running-same world.controller state pipe (same-pipes state world fits) ∙ at.retiring.stage) able.consumed able.short))
    (λ matched sound. move-fits state world pipe place at fits matched sound)
by-stage state world pipe place MoveAnswered fits is asked = absurd (false≢true asked)

by-retirement : (state : Shared) (world : World) (retirement : Option Retirement) → Fits state world
    → state.retirement ≡ retirement → option_map_or (λ (r : Retirement). is_asked r.stage) retirement false ≡ true → EngineFits state world
by-retirement state world None fits is asked = absurd (false≢true asked)
by-retirement state world (Some retirement) fits is asked =
    by-stage state world retirement.pipe retirement.place retirement.stage fits is asked

pub engines-fit : EnginesFit
engines-fit state world fits is_due = by-retirement state world state.retirement fits refl is_due

pub engine-is-idle : EngineIsIdle
engine-is-idle state world fits undue =
    let none : has_pending world.lines.engine ≡ false = sym (engines-are-due state world fits) ∙ undue in
    let front : front_at ENGINE_RING_PLACES world.lines.engine ≡ None =
    ap (λ found. option_map (λ item. (pointer_of ENGINE_RING_PLACES world.lines.engine world.lines.engine.got, known_of item)) found)
    (slice_get_past world.lines.engine.put world.lines.engine.got (ltb-false world.lines.engine.got (length world.lines.engine.put) none)) in
    ap (λ f. option_map_or (engine_did (world.controller, world.lines)) (cond (has_event_room world.lines) f None) ((world.controller, world.lines), Idle))
    front
    ∙ ap (λ f. option_map_or (engine_did (world.controller, world.lines)) f ((world.controller, world.lines), Idle)) (none-either (has_event_room world.lines))
  where
    none-either : (b : Bool) → cond {A = Option (ℕ × Option Trb)} b None None ≡ None
    none-either true = refl
    none-either false = refl
