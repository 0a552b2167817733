-- The event of the controller's own command: after Stop Endpoint the host puts Set TR Dequeue Pointer, and after that the TD is retired
-- and the pipe's streams are rung. Cited by the law of events.
use Rattle.std.proofs.Common.{◌≡◌, ℕ, ◌+◌, ◌-◌, true, ◌&&◌, cond, List, [], ◌∷◌, ◌++◌, drop, length, map, Option, Some, refl, arith, ap, sym, subst, ◌∙◌}
use Rattle.std.specs.Prelude.{◌==◌, is_some, slice_get}
use Rattle.std.specs.Option.{option_map_or}
use Rattle.xhci_trb.specs.declared.Trb.{Trb}
use Rattle.cycle_ring.specs.Ring.{pointer_of, reclaimed}
use Rattle.cycle_ring.specs.Items.{ItemRing, Item, known}
use Rattle.cycle_ring.proofs.Names.{item_at-pointer_of}
use Rattle.event_ring.specs.declared.Event.{Event}
use Rattle.event_ring.specs.Events.{Events}
use Rattle.uas_profile.specs.declared.Pipe.{Pipe}
use Rattle.uas_profile.specs.declared.Pipe.TheVariants.{Command, Status, DataIn, DataOut}
use Rattle.stream_array.specs.Rings.{LinesState, with_engine}
use Rattle.uas_host.specs.declared.Handled.{Handled}
use Rattle.uas_host.specs.declared.Handled.TheVariants.{Engine}
use Rattle.uas_profile.specs.declared.Place.{Place}
use Rattle.uas_host.specs.declared.RetirementStage.TheVariants.{Moving}
use Rattle.uas_host.specs.Events.{Sides, engine_doors, event_doors, handled, handled_engine, is_engine_done}
use Rattle.uas_host.specs.Retirement.{engine_freed, move_trb, stop_trb, stopped_lines, with_engine_command, with_retirement}
use Rattle.uas_host.specs.State.{HostState}
use Rattle.uas_profile.specs.Tags.{tag_of}
use Rattle.uas_profile.specs.declared.TheConstants.{ENGINE_RING_PLACES, SUCCESS}
use Rattle.shared_machine.specs.declared.Completion.{Completion}
use Rattle.shared_machine.specs.declared.Completion.TheVariants.{EngineDone}
use Rattle.shared_machine.specs.declared.Outcome.{Outcome}
use Rattle.shared_machine.specs.declared.RetirementStage.{RetirementStage}
use Rattle.shared_machine.specs.declared.RetirementStage.TheVariants.{StopAnswered, MoveAsked}
use Rattle.shared_machine.specs.declared.Step.TheVariants.{Event as EventStep}
use Rattle.shared_machine.specs.Shared.{Shared, engine_seen, event_step, idle, is_some_of, ringing, shared_step}
use Rattle.machine_invariant.specs.Matched.{IsMatched, carried_places, retired_places}
use Rattle.bus_core.specs.World.{World}
use Rattle.bus_core.specs.Cells.{HoldsTrbs}
use Rattle.bus_core.specs.Fits.{command_item, engine_event, event_texts, Fits, FitsQueues, host_retirement, IsSoundWorld}
use Rattle.bus_core.specs.WorldSteps.{EventFits, event_sides, rung_all, without_event}
use Rattle.bus_core.proofs.retire.EngineCells.{ReadsAlike, kept-fits, texts-alike}
use Rattle.bus_core.proofs.retire.EngineFits.{IsUnderWay, under_way}
use Rattle.bus_core.proofs.common.EventTds.{consumed_at-item}
use Rattle.machine_invariant.proofs.MatchedSteps.{shared_step-matched}

-- THE EVENT IN FRONT

-- an event of the controller's own command is the only one, and of the retirement, whose command was executed
pub record IsEngineFirst (state : Shared) (world : World) (pipe : Pipe) (place : Place) (stage : RetirementStage) (rest : List Completion) (trb : Trb) :
    Type 0 where
  pub is : state.events ≡ EngineDone place ∷ rest
  pub alone : retired_places rest ≡ []
  pub at : IsUnderWay state world pipe place stage
  pub holds : HoldsTrbs world.lines.engine (trb ∷ []) 1

-- the address of its command
abbrev pub engine_pointer : World → ℕ
engine_pointer world = pointer_of ENGINE_RING_PLACES world.lines.engine 0

-- the host finds that command consumed
engine-done : (world : World) (trb : Trb) → HoldsTrbs world.lines.engine (trb ∷ []) 1
    → is_engine_done (without_event world.lines) (engine_pointer world) SUCCESS ≡ true
engine-done world trb holds =
    let first : slice_get world.lines.engine.put 0 ≡ Some (known trb) = ap (λ (ts : List Item). slice_get ts 0) holds.0 in
    ap (λ (o : Option Trb). is_some o && (SUCCESS == 1))
    (consumed_at-item ENGINE_RING_PLACES 0 world.lines.engine trb (omega arith) (omega arith) (omega (arith, holds.1)) first)

-- the rings without the event and without that command
abbrev pub freed_lines : World → LinesState
freed_lines world = with_engine (without_event world.lines) (reclaimed ENGINE_RING_PLACES 1 world.lines.engine)

pub engine-freed : (world : World) → engine_freed (without_event world.lines) (engine_pointer world) ≡ freed_lines world
engine-freed world =
    ap (λ o. option_map_or (λ item. with_engine (without_event world.lines) (reclaimed ENGINE_RING_PLACES (item + 1) world.lines.engine)) o (without_event world.lines))
    (item_at-pointer_of ENGINE_RING_PLACES 0 world.lines.engine (omega arith) (omega arith))

-- what the host makes of it
pub handled-is : (state : Shared) (world : World) (pipe : Pipe) (place : Place) (stage : RetirementStage) (rest : List Completion) (trb : Trb)
    → IsEngineFirst state world pipe place stage rest trb
    → handled (event_sides world) world.frames (engine_event world.lines.engine)
    ≡ handled_engine (event_sides world) (engine_pointer world) true (Some (host_retirement (under_way pipe place stage)))
handled-is state world pipe place stage rest trb first =
    ap (λ b. handled_engine (event_sides world) (engine_pointer world) b world.host.retirement) (engine-done world trb first.holds)
    ∙ ap (handled_engine (event_sides world) (engine_pointer world) true) first.at.hosts

-- and the doorbells that it rings
pub doors-are : (state : Shared) (world : World) (pipe : Pipe) (place : Place) (stage : RetirementStage) (rest : List Completion) (trb : Trb)
    → world.host.tags ≡ state.tags → IsEngineFirst state world pipe place stage rest trb
    → event_doors (event_sides world) (engine_event world.lines.engine)
    ≡ engine_doors state.tags (without_event world.lines) (engine_pointer world) true (Some (host_retirement (under_way pipe place stage)))
doors-are state world pipe place stage rest trb number first =
    ap (λ t. engine_doors t (without_event world.lines) (engine_pointer world) (is_engine_done (without_event world.lines) (engine_pointer world) SUCCESS)
    world.host.retirement) number
    ∙ ap (λ b. engine_doors state.tags (without_event world.lines) (engine_pointer world) b world.host.retirement) (engine-done world trb first.holds)
    ∙ ap (engine_doors state.tags (without_event world.lines) (engine_pointer world) true) first.at.hosts

-- the shared machine's step
pub event-stepped : (state : Shared) (world : World) (pipe : Pipe) (place : Place) (stage : RetirementStage) (rest : List Completion) (trb : Trb)
    → IsEngineFirst state world pipe place stage rest trb
    → shared_step state EventStep ≡ engine_seen (record state { events = rest }) place (Some (under_way pipe place stage))
event-stepped state world pipe place stage rest trb first =
    ap (λ es. cond (is_some_of es) (event_step state es) (state, idle)) first.is
    ∙ ap (engine_seen (record state { events = rest }) place) first.at.is

-- the queues without it
pub engine-queues : (state now : Shared) (world after : World) (place : Place) (rest : List Completion) → Fits state world
    → now.tags ≡ state.tags → state.events ≡ EngineDone place ∷ rest → now.messages ≡ state.messages → now.events ≡ rest → after.lines.command ≡ world.lines.command
    → after.lines.events.pending ≡ drop 1 world.lines.events.pending → ReadsAlike state.tags world after rest → FitsQueues now after
engine-queues state now world after place rest fits number is messages events command pending alike =
    let carried : carried_places state.events ≡ carried_places now.events = ap carried_places is ∙ ap carried_places (sym events) in
    record {
      put = ap (λ (r : ItemRing). r.put) command ∙ fits.queues.put ∙ ap (λ places. map (command_item state.tags) (places ++ state.messages)) carried
          ∙ ap (λ messages. map (command_item state.tags) (carried_places now.events ++ messages)) (sym messages)
          ∙ ap (λ t. map (command_item t) (carried_places now.events ++ now.messages)) (sym number);
      got = ap (λ (r : ItemRing). r.got) command ∙ fits.queues.got ∙ ap (λ (places : List Place). length places) carried;
      texts = pending ∙ ap (λ (es : List Event). drop 1 es) (fits.queues.texts ∙ ap (event_texts state.tags world 0) is)
          ∙ sym (texts-alike state.tags world after 0 rest alike) ∙ ap (event_texts state.tags after 0) (sym events)
          ∙ ap (λ t. event_texts t after 0 now.events) (sym number);
    }

-- the world after an event, by what the host made of it and the doorbells that it rang
abbrev pub handled_world : World → Sides → List ℕ → World
handled_world world after doors = record world { host = after.host; controller = rung_all world.controller doors; lines = after.lines }

pub event-done : (state now : Shared) (world : World) (place : Place) (host : HostState) (lines : LinesState) (doors : List ℕ) (outcome : Outcome)
    → Fits state world → shared_step state EventStep ≡ (now, outcome)
    → handled (event_sides world) world.frames (engine_event world.lines.engine) ≡ (record { host = host; lines = lines }, Engine)
    → event_doors (event_sides world) (engine_event world.lines.engine) ≡ doors → doors ≡ outcome.doors
    → (IsMatched now → IsSoundWorld (handled_world world (record { host = host; lines = lines }) doors)
    → Fits now (handled_world world (record { host = host; lines = lines }) doors))
    → EventFits state world (engine_event world.lines.engine) (EngineDone place)
event-done state now world place host lines doors outcome fits stepped does rings same fit =
    let event : Event = engine_event world.lines.engine in
    let state_is : (shared_step state EventStep).0 ≡ now = ap (λ (s : Shared × Outcome). s.0) stepped in
    record {
      matched = ap (λ (after : Sides × Handled). after.1) does;
      doors = rings ∙ same ∙ ap (λ (s : Shared × Outcome). s.1.doors) (sym stepped);
      fits = subst (λ (rung : List ℕ). IsSoundWorld (handled_world world (handled (event_sides world) world.frames (engine_event world.lines.engine)).0 rung)
          → Fits (shared_step state EventStep).0 (handled_world world (handled (event_sides world) world.frames (engine_event world.lines.engine)).0 rung))
          (sym rings)
          (subst (λ (after : Sides). IsSoundWorld (handled_world world after doors) → Fits (shared_step state EventStep).0 (handled_world world after doors))
          (sym (ap (λ (after : Sides × Handled). after.0) does))
          (λ sound. subst (λ s. Fits s (handled_world world (record { host = host; lines = lines }) doors)) (sym state_is)
          (fit (subst IsMatched state_is (shared_step-matched state EventStep fits.matched)) sound)));
    }

-- STOP ENDPOINT IS DONE

move-same : (lines : LinesState) (engine : ItemRing) (events : Events) (pipe : Pipe) (tag : ℕ)
    → move_trb (record lines { engine = engine; events = events }) pipe tag ≡ move_trb lines pipe tag
move-same lines engine events Command tag = refl
move-same lines engine events Status tag = refl
move-same lines engine events DataIn tag = refl
move-same lines engine events DataOut tag = refl

-- Set TR Dequeue Pointer follows it
abbrev stopped_to : ℕ → World → Pipe → Place → LinesState
stopped_to tags world pipe place = with_engine_command (freed_lines world) (move_trb (without_event world.lines) pipe (tag_of tags place))

abbrev asked_world : ℕ → World → Pipe → Place → World
asked_world tags world pipe place = handled_world world
    (record { host = with_retirement world.host (record { pipe = pipe; place = place; stage = Moving }); lines = stopped_to tags world pipe place }) (0 ∷ [])

abbrev asked_state : Shared → Pipe → Place → List Completion → Shared
asked_state state pipe place rest = record state { events = rest; retirement = Some (under_way pipe place MoveAsked) }

asked-fits : (state : Shared) (world : World) (pipe : Pipe) (place : Place) (rest : List Completion)
    → IsEngineFirst state world pipe place StopAnswered rest (stop_trb pipe) → Fits state world
    → IsMatched (asked_state state pipe place rest) → IsSoundWorld (asked_world state.tags world pipe place)
    → Fits (asked_state state pipe place rest) (asked_world state.tags world pipe place)
asked-fits state world pipe place rest first fits matched sound =
    let after : World = asked_world state.tags world pipe place in
    let trb : Trb = move_trb (without_event world.lines) pipe (tag_of state.tags place) in
    let named : move_trb (without_event world.lines) pipe (tag_of state.tags place) ≡ move_trb (stopped_to state.tags world pipe place) pipe (tag_of state.tags place) =
    move-same world.lines world.lines.engine (without_event world.lines).events pipe (tag_of state.tags place)
    ∙ sym (move-same world.lines (stopped_to state.tags world pipe place).engine (without_event world.lines).events pipe (tag_of state.tags place)) in
    kept-fits state (asked_state state pipe place rest) world after fits
    (record { number = refl; hosts = refl; device = refl; frames = refl; status = refl; data_in = refl; data_out = refl }) refl refl
    (record { status = fits.status; data_in = fits.data_in; data_out = fits.data_out })
    (engine-queues state (asked_state state pipe place rest) world after place rest fits refl first.is refl refl refl refl
    (record { none = first.alone; command_base = refl; moved = λ other some. refl; sent = λ other some. refl }))
    (record {
      retirement = refl;
      commands = (
        ap (λ (ts : List Item). drop 1 ts ++ known (move_trb (without_event world.lines) pipe (tag_of state.tags place)) ∷ []) first.holds.0
            ∙ ap (λ t. known t ∷ []) named,
        ap (λ taken. taken - 1) first.holds.1,
      );
    }) matched sound

pub stop-seen : (state : Shared) (world : World) (pipe : Pipe) (place : Place) (rest : List Completion) → Fits state world
    → IsEngineFirst state world pipe place StopAnswered rest (stop_trb pipe)
    → EventFits state world (engine_event world.lines.engine) (EngineDone place)
stop-seen state world pipe place rest fits first =
    event-done state (asked_state state pipe place rest) world place (with_retirement world.host (record { pipe = pipe; place = place; stage = Moving }))
    (stopped_to state.tags world pipe place) (0 ∷ []) (ringing place.client (0 ∷ [])) fits
    (event-stepped state world pipe place StopAnswered rest (stop_trb pipe) first)
    (handled-is state world pipe place StopAnswered rest (stop_trb pipe) first
    ∙ ap (λ t. (
      record {
        host = with_retirement world.host (record { pipe = pipe; place = place; stage = Moving });
        lines = stopped_lines t (without_event world.lines) (engine_pointer world) (host_retirement (under_way pipe place StopAnswered));
      },
      Engine,
    )) fits.tags
    ∙ ap (λ lines. (
      record {
        host = with_retirement world.host (record { pipe = pipe; place = place; stage = Moving });
        lines = with_engine_command lines (move_trb (without_event world.lines) pipe (tag_of state.tags place));
      },
      Engine,
    )) (engine-freed world))
    (doors-are state world pipe place StopAnswered rest (stop_trb pipe) fits.tags first) refl
    (λ matched sound. asked-fits state world pipe place rest first fits matched sound)
