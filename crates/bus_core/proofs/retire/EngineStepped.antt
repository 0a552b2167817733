-- The steps of a retirement by the calls of host and controller, due or not: the world after each reads as the shared machine's state
-- after its step, and the outcome is the shared machine's. The answers of the bus's steps cite them.
use Rattle.std.proofs.Common.{◌≡◌, ℕ, zero, suc, ◌+◌, ◌≤◌, Bool, true, false, cond, List, [], ◌∷◌, ◌++◌, length, map, Option, Some, None, option_map, refl}
use Rattle.std.proofs.Common.{arith, ap, sym, subst, ◌∙◌}
use Rattle.std.specs.Prelude.{MatchOption, filter}
use Rattle.std.specs.List.{range_with_len}
use Rattle.std.specs.Option.{option_map_or}
use Rattle.std.proofs.lemmas.Bool.{false≢true}
use Rattle.arrayvec.specs.ArrayVec.{ArrayVec}
use Rattle.uas_profile.specs.declared.Pipe.{Pipe}
use Rattle.stream_array.specs.Rings.{IsLines, LinesState}
use Rattle.uas_profile.specs.declared.TheConstants.{STREAMS}
use Rattle.event_ring.specs.declared.Event.{Event}
use Rattle.event_ring.specs.declared.Event.TheVariants.{Transfer, Command as CommandCompletion}
use Rattle.uas_host.specs.declared.Retirement.{Retirement as HostRetirement}
use Rattle.uas_host.specs.declared.Handled.{Handled}
use Rattle.uas_host.specs.declared.Handled.TheVariants.{Matched}
use Rattle.uas_host.specs.declared.RetirementStage.TheVariants.{Moving}
use Rattle.uas_profile.specs.Doors.{door}
use Rattle.uas_profile.specs.Pipes.{target_of}
use Rattle.uas_host.specs.Events.{Sides as EventSides, engine_doors, event_doors, handled, handled_engine, is_engine_done, stage_doors}
use Rattle.frame_store.specs.declared.TagBuffers.{TagBuffers}
use Rattle.uas_host.specs.Retirement.{moved_lines, retirement_for, stop_trb, with_engine_command, with_retirement}
use Rattle.uas_host.specs.State.{HostState, IsHost}
use Rattle.xhci_ctl.specs.declared.Acted.{Acted}
use Rattle.xhci_ctl.specs.Engine.{engine_acted}
use Rattle.xhci_ctl.specs.Pipes.{ControllerState}
use Rattle.shared_machine.specs.declared.Outcome.{Outcome}
use Rattle.shared_machine.specs.declared.Retirement.{Retirement}
use Rattle.shared_machine.specs.declared.Step.TheVariants.{Engine, Retire}
use Rattle.shared_machine.specs.Shared.{Shared, due, idle, is_asked, ringing, shared_step}
use Rattle.bus_core.specs.World.{World, world_of}
use Rattle.bus_core.specs.Fits.{Fits, IsSoundWorld, host_retirement}
use Rattle.bus_core.specs.WorldSteps.{EngineFits, RetireFits, engine_world, retire_world, rung_all}
use Rattle.shared_machine.specs.Doorbells.{IsResumed, resumed_by}
use Rattle.bus_core.specs.Owners.{engine_of, executed_as, handled_as, owner_of}
use Rattle.bus_core.proofs.retire.EngineFits.{engine-is-idle, engines-fit}
use Rattle.bus_core.proofs.common.OutcomeMarks.{engine-marked, retire-marked}
use Rattle.bus_core.proofs.retire.RetireFits.{retire-is-idle, retirements-fit}
use Rattle.bus_core.proofs.common.Stepped.{place-named, stepped}
use Rattle.bus_core.proofs.common.Taken.{IsTaken, due-taken, idle-taken}
use Rattle.stream_array.specs.Rings.{ring_of}
use Rattle.uas_host.specs.Retirement.{has_pending, resumed_doors}

-- the doorbells that a host rings once a pipe is held no more are such doorbells
pub resumed_doors-rung : (lines : LinesState) (pipe : Pipe) → IsResumed pipe (resumed_doors lines pipe)
unfolding resumed_doors resumed_by
resumed_doors-rung lines pipe = (λ stream. has_pending (ring_of lines pipe stream), refl)

-- ENGINE

-- what the controller did is the retirement's
told-by : (state : Shared) (world : World) (retirement : Option Retirement) → Fits state world → due state Engine ≡ true → state.retirement ≡ retirement
    → option_map_or (λ (r : Retirement). is_asked r.stage) retirement false ≡ true → (shared_step state Engine).1 ≡ engine_of world.host.retirement
told-by state world None fits acts is asked = absurd (false≢true asked)
told-by state world (Some retirement) fits acts is asked =
    engine-marked state retirement fits.matched is acts ∙ sym (ap engine_of (fits.engine.retirement ∙ ap (option_map host_retirement) is))

abbrev controlled : World → (ControllerState × LinesState) × Acted → World
controlled world did = world_of world.host did.0.0 world.device did.0.1 world.frames

pub engine-taken : (state : Shared) (world : World) (controller : ControllerState) (lines : LinesState) (acted : Acted) → Fits state world
    → engine_acted (world.controller, world.lines) ≡ ((controller, lines), acted) → IsLines lines
    → IsTaken state Engine (world_of world.host controller world.device lines world.frames) (executed_as world.host.retirement acted)
engine-taken state world controller lines acted fits is standing =
    elim (due state Engine) as (λ b. due state Engine ≡ b
    → IsTaken state Engine (world_of world.host controller world.device lines world.frames) (executed_as world.host.retirement acted)) [
      | true ↦ λ acts.
          let fit : EngineFits state world = engines-fit state world fits acts in
          let after : engine_world world ≡ world_of world.host controller world.device lines world.frames = ap (controlled world) is in
          let sound : IsSoundWorld (engine_world world) = subst IsSoundWorld (sym after)
          (record { host = fits.sound.host; lines = standing; frames = fits.sound.frames; tags = fits.sound.tags }) in
          due-taken state Engine _ _ acts
          (stepped state (world_of world.host controller world.device lines world.frames) Engine (executed_as world.host.retirement acted) acts
          (subst (λ w. Fits (shared_step state Engine).0 w) after (fit.fits sound))
          (told-by state world state.retirement fits acts refl acts
          ∙ ap (executed_as world.host.retirement) (sym fit.acted ∙ ap (λ (a : (ControllerState × LinesState) × Acted). a.1) is)))
      | false ↦ λ rests.
          subst (λ a. IsTaken state Engine (controlled world a) (executed_as world.host.retirement a.1)) (sym (engine-is-idle state world fits rests) ∙ is)
          (idle-taken state Engine world rests fits)
    ] refl

-- RETIRE

-- what the host did where it may begin this retirement, or none
abbrev pub Begins : World → Pipe → HostState → LinesState → List ℕ → Bool → Option HostRetirement → Type 0
Begins world pipe host lines doors began retirement =
    MatchOption retirement ((began ≡ false) × (host ≡ world.host) × (lines ≡ world.lines) × (doors ≡ []))
    (λ r. (began ≡ true) × (host ≡ with_retirement world.host r) × (lines ≡ with_engine_command world.lines (stop_trb pipe)) × (doors ≡ 0 ∷ []))

-- it rings the controller's own doorbell, or none
pub begun-cleared : (world : World) (pipe : Pipe) (host : HostState) (lines : LinesState) (old new : ArrayVec ℕ) (began : Bool)
    (retirement : Option HostRetirement)
    → old.items ≡ []
    → MatchOption retirement ((began ≡ false) × (host ≡ world.host) × (lines ≡ world.lines) × (new ≡ old))
    (λ r. (began ≡ true) × (host ≡ with_retirement world.host r) × (lines ≡ with_engine_command world.lines (stop_trb pipe))
    × (new.items ≡ old.items ++ 0 ∷ []))
    → Begins world pipe host lines new.items began retirement
begun-cleared world pipe host lines old new began None empty it = (it.0, it.1, it.2, ap (λ (doors : ArrayVec ℕ). doors.items) it.3 ∙ empty)
begun-cleared world pipe host lines old new began (Some r) empty it = (it.0, it.1, it.2, it.3 ∙ ap (λ doors. doors ++ 0 ∷ []) empty)

pub few-begun : (world : World) (pipe : Pipe) (host : HostState) (lines : LinesState) (doors : List ℕ) (began : Bool) (retirement : Option HostRetirement)
    → Begins world pipe host lines doors began retirement → length doors ≤ 3
few-begun world pipe host lines doors began None it = omega (arith, ap length it.3)
few-begun world pipe host lines doors began (Some r) it = omega (arith, ap length it.3)

-- the outcome of a retirement that began, or of none
abbrev pub begun_as : ℕ → ℕ → List ℕ → Bool → Outcome
begun_as tags tag doors began = cond began (ringing (owner_of tags tag) doors) idle

begins-taken : (state : Shared) (world : World) (pipe : Pipe) (tag : ℕ) (host : HostState) (lines : LinesState) (doors : List ℕ) (began : Bool)
    → Fits state world → Begins world pipe host lines doors began (retirement_for world.host pipe tag) → IsHost host → IsLines lines
    → due state (Retire pipe tag) ≡ true
    → IsTaken state (Retire pipe tag) (world_of host (rung_all world.controller doors) world.device lines world.frames) (begun_as state.tags tag doors began)
begins-taken state world pipe tag host lines doors began fits it hosting standing acts =
    let fit : RetireFits state world pipe tag = retirements-fit state world pipe tag fits acts in
    let does = subst (Begins world pipe host lines doors began) fit.begins it in
    let host_is = does.1 in
    let lines_is = does.2 in
    let doors_is = does.3 in
    let after : world_of host (rung_all world.controller doors) world.device lines world.frames ≡ retire_world world pipe fit.place =
    λ i. world_of (host_is i) (rung_all world.controller (doors_is i)) world.device (lines_is i) world.frames in
    let sound : IsSoundWorld (retire_world world pipe fit.place) =
    record { host = subst IsHost host_is hosting; lines = subst IsLines lines_is standing; frames = fits.sound.frames; tags = fits.sound.tags } in
    due-taken state (Retire pipe tag) _ _ acts
    (stepped state (world_of host (rung_all world.controller doors) world.device lines world.frames) (Retire pipe tag) (begun_as state.tags tag doors began) acts
    (subst (λ w. Fits (shared_step state (Retire pipe tag)).0 w) (sym after) (fit.fits sound))
    (retire-marked state pipe tag fit.place fit.named acts
    ∙ ap (λ client. ringing client (0 ∷ [])) (place-named state.tags (length state.parts) tag fit.place fit.named).0
    ∙ ap (λ ds. ringing (owner_of state.tags tag) ds) (sym doors_is)
    ∙ ap (begun_as state.tags tag doors) (sym does.0)))

rests-taken : (state : Shared) (world : World) (pipe : Pipe) (tag : ℕ) (host : HostState) (lines : LinesState) (doors : List ℕ) (began : Bool)
    → Fits state world → Begins world pipe host lines doors began (retirement_for world.host pipe tag)
    → due state (Retire pipe tag) ≡ false
    → IsTaken state (Retire pipe tag) (world_of host (rung_all world.controller doors) world.device lines world.frames) (begun_as state.tags tag doors began)
rests-taken state world pipe tag host lines doors began fits it rests =
    let does = subst (Begins world pipe host lines doors began) (retire-is-idle state world pipe tag fits rests) it in
    let began_is = does.0 in
    let host_is = does.1 in
    let lines_is = does.2 in
    let doors_is = does.3 in
    let after : world_of host (rung_all world.controller doors) world.device lines world.frames ≡ world =
    λ i. world_of (host_is i) (rung_all world.controller (doors_is i)) world.device (lines_is i) world.frames in
    subst (λ w. IsTaken state (Retire pipe tag) w (begun_as state.tags tag doors began)) (sym after)
    (subst (λ b. IsTaken state (Retire pipe tag) world (begun_as state.tags tag doors b)) (sym began_is) (idle-taken state (Retire pipe tag) world rests fits))

pub retire-taken : (state : Shared) (world : World) (pipe : Pipe) (tag : ℕ) (host : HostState) (lines : LinesState) (doors : List ℕ) (began : Bool)
    → Fits state world → Begins world pipe host lines doors began (retirement_for world.host pipe tag) → IsHost host → IsLines lines
    → IsTaken state (Retire pipe tag) (world_of host (rung_all world.controller doors) world.device lines world.frames) (begun_as state.tags tag doors began)
retire-taken state world pipe tag host lines doors began fits it hosting standing =
    elim (due state (Retire pipe tag)) as (λ b. due state (Retire pipe tag) ≡ b
    → IsTaken state (Retire pipe tag) (world_of host (rung_all world.controller doors) world.device lines world.frames) (begun_as state.tags tag doors began)) [
      | true ↦ λ acts. begins-taken state world pipe tag host lines doors began fits it hosting standing acts
      | false ↦ λ rests. rests-taken state world pipe tag host lines doors began fits it rests
    ] refl

-- EVENT

-- nothing passes a test that nothing passes
none-passes : (first count : ℕ) → [] ≡ filter (λ (stream : ℕ). false) (range_with_len first count)
none-passes first zero = refl
none-passes first (suc count) = none-passes (first + 1) count

no-doors : (pipe : Pipe) → IsResumed pipe []
unfolding resumed_by
no-doors pipe = (λ stream. false, ap (map (door (target_of pipe))) (none-passes 1 STREAMS))

engine-resumed : (tags : ℕ) (lines : LinesState) (pointer : ℕ) (done : Bool) (retirement : HostRetirement) → retirement.stage ≡ Moving
    → IsResumed retirement.pipe (engine_doors tags lines pointer done (Some retirement))
engine-resumed tags lines pointer false retirement moves = no-doors retirement.pipe
engine-resumed tags lines pointer true retirement moves =
    subst (λ stage. IsResumed retirement.pipe (stage_doors tags lines pointer retirement stage)) (sym moves)
    (resumed_doors-rung (moved_lines tags lines pointer retirement) retirement.pipe)

-- the doorbells of an event, while Set TR Dequeue Pointer is under way, are of streams of its pipe, by rising stream
pub event-resumed : (sides : EventSides) (event : Event) (retirement : HostRetirement) (doors : List ℕ) → sides.host.retirement ≡ Some retirement
    → retirement.stage ≡ Moving → doors ≡ event_doors sides event → IsResumed retirement.pipe doors
event-resumed sides (Transfer pointer residual code endpoint slot) retirement doors under_way moves is =
    subst (IsResumed retirement.pipe) (sym is) (no-doors retirement.pipe)
event-resumed sides (CommandCompletion pointer code slot) retirement doors under_way moves is =
    subst (IsResumed retirement.pipe)
    (sym (is ∙ ap (engine_doors sides.host.tags sides.lines pointer (is_engine_done sides.lines pointer code)) under_way))
    (engine-resumed sides.host.tags sides.lines pointer (is_engine_done sides.lines pointer code) retirement moves)

-- a completion of the controller's own command ring is of no TD
not-matched : (sides : EventSides) (pointer : ℕ) (done : Bool) (retirement : Option HostRetirement) (tag : ℕ)
    → (handled_engine sides pointer done retirement).1 ≡ Matched tag → ⊥
not-matched sides pointer false retirement tag is = absurd (cc)
not-matched sides pointer true None tag is = absurd (cc)
not-matched sides pointer true (Some retirement) tag is = absurd (cc)

-- so what is told of an event of a TD has no doorbell
pub td-told : (tags : ℕ) (sides : EventSides) (frames : List TagBuffers) (event : Event) (after : EventSides) (tag : ℕ) (handled_it : Handled)
    (retirement : Option HostRetirement) (rung doors : List ℕ) → handled sides frames event ≡ (after, handled_it) → handled_it ≡ Matched tag
    → event_doors sides event ≡ rung → doors ≡ [] → handled_as tags retirement rung handled_it ≡ ringing (owner_of tags tag) doors
td-told tags sides frames (Transfer pointer residual code endpoint slot) after tag handled_it retirement rung doors so is rang none =
    ap (handled_as tags retirement rung) is ∙ ap (ringing (owner_of tags tag)) (sym rang ∙ sym none)
td-told tags sides frames (CommandCompletion pointer code slot) after tag handled_it retirement rung doors so is rang none =
    absurd (not-matched sides pointer (is_engine_done sides.lines pointer code) sides.host.retirement tag (ap (λ did. did.1) so ∙ is))

-- a step whose outcome is told so
pub with-outcome : (step : Shared × Outcome) (after : Shared) (outcome told : Outcome) → step ≡ (after, outcome) → told ≡ outcome → step ≡ (after, told)
with-outcome step after outcome told is same = is ∙ ap (λ (o : Outcome). (after, o)) (sym same)

-- the doorbells were cleared before
pub doors-cleared : (old new doors : List ℕ) → old ≡ [] → new ≡ old ++ doors → new ≡ doors
doors-cleared old new doors empty is = is ∙ ap (λ before. before ++ doors) empty
