-- The outcome of a step that is due in a matched state, by the place that it acts on.
use Rattle.std.proofs.Common.{◌≡◌, ℕ, suc, ◌≤◌, Bool, cond, length, Some, arith, ap, sym, subst, ◌∙◌, true, false, List, [], ◌∷◌, None, refl}
use Rattle.std.specs.Prelude.{option_and_then, slice_get}
use Rattle.scsi_cmd.specs.declared.Op.{Op}
use Rattle.scsi_cmd.specs.declared.Request.TheVariants.{Execute}
use Rattle.solo_model.specs.TaggedTask.{moved_from, moved_request, sent_from}
use Rattle.uas_profile.specs.declared.Place.{Place}
use Rattle.uas_profile.specs.Tags.{place_of}
use Rattle.shared_machine.specs.declared.Mark.{Mark}
use Rattle.shared_machine.specs.declared.Mark.TheVariants.{Move, Send, Quiet}
use Rattle.shared_machine.specs.declared.Step.TheVariants.{Event}
use Rattle.shared_machine.specs.Part.{Act, Part, move_act, moved_slot, moved_entry, send_act, sent_slot, sent_entry, seen_by, seen_entry, event_act, event_place}
use Rattle.shared_machine.specs.Part.{stop_act, pass_act, passed_slot, retire_act}
use Rattle.shared_machine.specs.Shared.{Shared, idle, is_some_of, acted_on, routed_to, routed_by_tag, carry_step, event_step, shared_step, is_moving, is_ended}
use Rattle.shared_machine.specs.Shared.{data_is_due, status_is_due, ringing, routed, with_pipe, at_stage, is_asked, engine_did, engine_step, retire_step, resumed}
use Rattle.shared_machine.specs.Shared.{stage_seen, engine_seen, place_fact}
use Rattle.machine_invariant.specs.Matched.{times, IsOwnMessage, retired_places, is_td_event, IsOwnTdEvent, IsMatched}
use Rattle.bus_core.specs.WorldDue.{marked, CommandsAreMarked, DataAreMarked, StatusesAreMarked, EventsAreQuiet, EnginesAreMarked, RetirementsAreMarked}
use Rattle.machine_invariant.proofs.MatchedPlaces.{one_self}
use Rattle.machine_invariant.proofs.MatchedEntries.{HasSeen, event-seen}
use Rattle.machine_invariant.proofs.MatchedTasks.{moving_op}
use Rattle.machine_invariant.proofs.MatchedSteps.{IsHeld, matched-held, times_alike, times_alike-first, IsDueAt, place_fact-due}
use Rattle.machine_invariant.proofs.MatchedMoves.{IsMovingBy, carry_step-is}
use Rattle.machine_invariant.proofs.MatchedSteps.{event_seen-td}
use Rattle.machine_invariant.proofs.MatchedMoves.{IsEndedBy, ended_phase, moving_phase}
use Rattle.machine_invariant.proofs.MatchedNext.{own-message, own-td_event, same_named}
use Rattle.std.specs.Option.{option_map_or}
use Rattle.std.proofs.lemmas.Bool.{false≢true, and_parts}
use Rattle.uas_profile.specs.PipeStates.{stopped_pipe}
use Rattle.shared_machine.specs.declared.Completion.{Completion}
use Rattle.shared_machine.specs.declared.Completion.TheVariants.{CommandDone, DataDone, StatusDone, EngineDone}
use Rattle.shared_machine.specs.declared.Outcome.{Outcome}
use Rattle.shared_machine.specs.declared.Retirement.{Retirement}
use Rattle.shared_machine.specs.declared.RetirementStage.{RetirementStage}
use Rattle.shared_machine.specs.declared.RetirementStage.TheVariants.{StopAsked, StopAnswered, MoveAsked, MoveAnswered}
use Rattle.shared_machine.specs.Td.{Entry, with_td_on, retired_td}
use Rattle.machine_invariant.proofs.MatchedRetirement.{IsAnswered, first-engine_event, retiring-of}
use Rattle.machine_invariant.proofs.MatchedEngine.{retired-step}
use Rattle.machine_invariant.proofs.MatchedCommands.{HasLeft, IsPiped, has-left, with_pipe-is}

-- a message
pub carry-marked : CommandsAreMarked
carry-marked state place rest all is =
    let own : IsOwnMessage state.tags state.parts place = own-message state place all (subst (λ ms. 1 ≤ times place ms) (sym is) (omega (arith, one_self place))) in
    let at : IsHeld state place own.entry = matched-held state place own.entry all own.held in
    ap (λ ms. (cond (is_some_of ms) (carry_step state ms) (state, idle)).1) is
    ∙ ap (λ after. after.1) (carry_step-is state place rest at.found.part own.entry at.found.there at.found.held own.queued)

-- the doorbells that a quiet step rang are those of its outcome
quiet-doors : (outcome : Outcome) (client : ℕ) (doors : List ℕ) → outcome ≡ ringing client doors → outcome ≡ ringing client outcome.doors
quiet-doors outcome client doors is = is ∙ ap (λ (o : Outcome). ringing client o.doors) (sym is)

-- an event of a TD
td_event-marked : (state : Shared) (event : Completion) (rest : List Completion) → is_td_event event ≡ true → IsMatched state → state.events ≡ event ∷ rest →
    (event_step state (event ∷ rest)).1 ≡ ringing (event_place event).client []
td_event-marked state event rest of_td all is =
    let own : IsOwnTdEvent state.tags state.parts event =
    own-td_event state event all of_td (subst (λ es. 1 ≤ times_alike event es) (sym is) (times_alike-first event rest)) in
    let at : IsHeld state (event_place event) own.entry = matched-held state (event_place event) own.entry all own.held in
    let seen : HasSeen state.tags event own.entry = event-seen event own.entry own.awaits at.here.sound in
    let popped : Shared = record state { events = rest } in
    let client : ℕ = (event_place event).client in
    ap (λ after. after.1) (event_seen-td popped event of_td)
    ∙ ap (λ found. (routed_to popped client (event_act event) found).1) at.found.there
    ∙ ap (λ found. (acted_on popped client (seen_entry event at.found.part (event_place event).slot (option_and_then (seen_by event) found))).1) at.found.held
    ∙ ap (λ after. (acted_on popped client (seen_entry event at.found.part (event_place event).slot after)).1) seen.step.seen

-- an event of the controller's own commands: after Stop Endpoint its doorbell is rung, after Set TR Dequeue Pointer those of the pipe
pub record IsQuietEvent (outcome : Outcome) (client : ℕ) : Type 0 where
  pub doors : List ℕ
  pub is : outcome ≡ ringing client doors

engine_event-marked : (state : Shared) (place : Place) (rest : List Completion) → IsMatched state → state.events ≡ EngineDone place ∷ rest →
    IsQuietEvent (event_step state (EngineDone place ∷ rest)).1 place.client
engine_event-marked state place rest all first =
    let popped : Shared = record state { events = rest } in
    let own : IsAnswered state.retirement place (retired_places rest) = first-engine_event state place rest all first in
    subst (λ found. IsQuietEvent (engine_seen popped place found).1 place.client) (sym own.is)
    (subst (λ (p : Place). IsQuietEvent (stage_seen popped own.retirement own.retirement.stage).1 p.client) own.place_same
    (at own.retirement own.is own.retirement.stage own.answered))
  where
    at : (r : Retirement) → state.retirement ≡ Some r → (stage : RetirementStage) → is_asked stage ≡ false →
        IsQuietEvent (stage_seen (record state { events = rest }) r stage).1 r.place.client
    at r is StopAsked answered = absurd (false≢true (sym answered))
    at r is StopAnswered answered = record { doors = 0 ∷ []; is = refl }
    at r is MoveAsked answered = absurd (false≢true (sym answered))
    at r is MoveAnswered answered =
        let held : HasLeft state r = has-left state r (retiring-of state r all is) in
        let base : Shared = record state { events = rest; retirement = None } in
        let done : Shared × Outcome = acted_on base r.place.client
        (seen_entry (EngineDone r.place) held.found.part r.place.slot (Some (with_td_on retired_td r.pipe held.entry))) in
        record {
          doors = (resumed r.pipe done).1.doors;
          is = ap (λ after. record ((routed base r.place.client (retire_act r.pipe r.place)).1) { doors = (resumed r.pipe after).1.doors })
              (retired-step state r rest held.found.part held.entry held.found.there held.found.held held.left)
              ∙ ap (λ after. record after.1 { doors = (resumed r.pipe done).1.doors })
              (retired-step state r rest held.found.part held.entry held.found.there held.found.held held.left);
        }

pub event-marked : EventsAreQuiet
event-marked state event rest all is =
    let step : (shared_step state Event).1 ≡ (event_step state (event ∷ rest)).1 =
    ap (λ es. (cond (is_some_of es) (event_step state es) (state, idle)).1) is in
    let quiet : IsQuietEvent (event_step state (event ∷ rest)).1 (event_place event).client = at event is in
    quiet-doors (shared_step state Event).1 (event_place event).client quiet.doors (step ∙ quiet.is)
  where
    at : (event : Completion) → state.events ≡ event ∷ rest → IsQuietEvent (event_step state (event ∷ rest)).1 (event_place event).client
    at (CommandDone place) first = record { doors = []; is = td_event-marked state (CommandDone place) rest refl all first }
    at (DataDone place) first = record { doors = []; is = td_event-marked state (DataDone place) rest refl all first }
    at (StatusDone place) first = record { doors = []; is = td_event-marked state (StatusDone place) rest refl all first }
    at (EngineDone place) first = engine_event-marked state place rest all first

-- a command of the controller's own command ring
pub engine-marked : EnginesAreMarked
engine-marked state r all is is_due =
    let asked : is_asked r.stage ≡ true = sym (ap (λ found. option_map_or (λ (retirement : Retirement). is_asked retirement.stage) found false) is) ∙ is_due in
    ap (λ b. (cond b (engine_step state state.retirement) (state, idle)).1) is_due
    ∙ ap (λ found. (engine_step state found).1) is
    ∙ at r.stage asked
  where
    held : HasLeft state r
    held = has-left state r (retiring-of state r all is)

    at : (stage : RetirementStage) → is_asked stage ≡ true → (engine_did state r stage).1 ≡ marked r.place.client Quiet
    at StopAsked asked =
        let piped : Shared = with_pipe state r.pipe stopped_pipe in
        let facts : IsPiped state piped r.pipe stopped_pipe = with_pipe-is state r.pipe stopped_pipe in
        ap (λ found. (routed_to (at_stage piped r StopAnswered) r.place.client (stop_act r.place) found).1)
        (ap (λ parts. slice_get parts r.place.client) facts.parts ∙ held.found.there)
    at StopAnswered asked = absurd (false≢true asked)
    at MoveAsked asked =
        ap (λ found. (routed_to (at_stage state r MoveAnswered) r.place.client (pass_act r.pipe r.place) found).1) held.found.there
        ∙ ap (λ found. (acted_on (at_stage state r MoveAnswered) r.place.client (passed_slot r.pipe held.found.part r.place found)).1) held.found.held
    at MoveAnswered asked = absurd (false≢true asked)

-- a retirement that begins
pub retire-marked : RetirementsAreMarked
retire-marked state pipe tag place named is_due =
    ap (λ b. (cond b (retire_step state pipe (place_of state.tags (length state.parts) tag)) (state, idle)).1) is_due
    ∙ ap (λ found. (retire_step state pipe found).1) named

-- the place of a tag, of which a fact is so
by_tag-marked : (state : Shared) (tag : ℕ) (place : Place) (fact : Entry → Bool) (act : Place → Part → Act) (mark : ℕ → Mark) → IsMatched state
    → place_of state.tags (length state.parts) tag ≡ Some place → place_fact state tag fact ≡ true
    → ((at : Place) (entry : Entry) → (held : IsHeld state at entry) → fact entry ≡ true
    → (acted_on state at.client (act at held.found.part)).1 ≡ marked at.client (mark (suc at.slot)))
    → (routed_by_tag state act (place_of state.tags (length state.parts) tag)).1 ≡ marked place.client (mark (suc place.slot))
by_tag-marked state tag place fact act mark all named so each =
    let at : IsDueAt state tag fact = place_fact-due state tag fact so in
    let held : IsHeld state at.place at.entry = matched-held state at.place at.entry all at.held in
    subst (λ (p : Place). (routed_by_tag state act (place_of state.tags (length state.parts) tag)).1 ≡ marked p.client (mark (suc p.slot)))
    (same_named (place_of state.tags (length state.parts) tag) at.place place at.named named)
    (ap (λ p. (routed_by_tag state act p).1) at.named
    ∙ ap (λ found. (routed_to state at.place.client (act at.place) found).1) held.found.there
    ∙ each at.place at.entry held at.so)

-- a chunk
pub move-marked : DataAreMarked
move-marked state tag place all named is_due =
    ap (λ b. (cond b (routed_by_tag state move_act (place_of state.tags (length state.parts) tag)) (state, idle)).1) is_due
    ∙ by_tag-marked state tag place (data_is_due state tag) move_act Move all named is_due (λ at entry held so.
    let moving : IsMovingBy entry.task.phase = moving_phase entry.task.phase (and_parts (is_moving entry.task.phase) _ so).0 in
    let part : Part = held.found.part in
    let asks : (op : Op) × (entry.task.request ≡ Execute op) =
    moving_op entry.task.request entry.task.phase moving.chunk moving.is held.here.sound.answers in
    ap (λ found. (acted_on state at.client (moved_slot part at.slot at found)).1) held.found.held
    ∙ ap (λ phase. (acted_on state at.client (moved_entry part at.slot at entry (moved_from part.unit entry.task phase))).1) moving.is
    ∙ ap (λ r. (acted_on state at.client (moved_entry part at.slot at entry (moved_request part.unit entry.task moving.chunk r))).1) asks.1)

-- an answer
pub send-marked : StatusesAreMarked
send-marked state tag place all named is_due =
    ap (λ b. (cond b (routed_by_tag state send_act (place_of state.tags (length state.parts) tag)) (state, idle)).1) is_due
    ∙ by_tag-marked state tag place (status_is_due state tag) send_act Send all named is_due (λ at entry held so.
    let ended : IsEndedBy entry.task.phase = ended_phase entry.task.phase (and_parts (is_ended entry.task.phase) _ so).0 in
    ap (λ found. (acted_on state at.client (sent_slot held.found.part at.slot at found)).1) held.found.held
    ∙ ap (λ phase. (acted_on state at.client (sent_entry held.found.part at.slot at entry (sent_from entry.task phase))).1) ended.is)
