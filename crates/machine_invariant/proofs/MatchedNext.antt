-- What waits in a matched state is of an entry that waits for it.
use Rattle.std.proofs.Common.{◌≡◌, ℕ, zero, suc, ◌+◌, ◌-◌, ◌/◌, ◌<◌, ◌≤◌, true, false, cond, List, [], ◌∷◌, ◌++◌, length, Option, Some, None, IfSome, refl, arith, ◌*◌}
use Rattle.std.proofs.Common.{ap, sym, subst, ◌∙◌}
use Rattle.std.specs.Prelude.{nat_lt, slice_get, slice_set, is_some}
use Rattle.std.proofs.lemmas.Bool.{ltb-true, ltb-false, and_parts}
use Rattle.std.proofs.lemmas.List.{append-nil, get_or-set_same}
use Rattle.std.proofs.lemmas.Option.{none-some}
use Rattle.uas_profile.specs.declared.TheConstants.{CHUNK_BYTES, WINDOW_BYTES, MOST_DATA_TRBS}
use Rattle.block_unit.specs.BlockMaps.{BlockMaps}
use Rattle.scsi_cmd.specs.Laws.{moved-short}
use Rattle.scsi_cmd.specs.Op.{moved_bytes}
use Rattle.scsi_cmd.specs.declared.Request.{Request}
use Rattle.scsi_cmd.specs.declared.Request.TheVariants.{Execute, Manage}
use Rattle.solo_model.specs.declared.Phase.{Phase}
use Rattle.solo_model.specs.declared.Phase.TheVariants.{Queued, Begun, Sent, Gone}
use Rattle.uas_profile.specs.declared.Place.{Place}
use Rattle.uas_profile.specs.Tags.{place_of}
use Rattle.shared_machine.specs.declared.Completion.{Completion}
use Rattle.shared_machine.specs.declared.Completion.TheVariants.{CommandDone, DataDone, StatusDone, EngineDone}
use Rattle.shared_machine.specs.declared.Step.{Step}
use Rattle.shared_machine.specs.declared.Step.TheVariants.{Event}
use Rattle.shared_machine.specs.declared.Td.{Td}
use Rattle.shared_machine.specs.Td.{Entry, pushed, has_trb, is_awaited, data_trbs}
use Rattle.shared_machine.specs.Part.{Part, event_place, seen_by}
use Rattle.scsi_cmd.specs.Held.{held_at}
use Rattle.shared_machine.specs.Shared.{Shared, idle, is_some_of, opening, carry_step, event_step, shared_step, is_moving, is_ended, data_is_due, status_is_due, greatest_tag}
use Rattle.shared_machine.specs.Replay.{replay, replayed}
use Rattle.shared_machine.specs.Soundness.{one_if}
use Rattle.machine_invariant.specs.Matched.{pipe_places, carried_places, waiting_command, IsPendingCommand, ArePendingCommands, HaveCommandTrbs, EventFreesFirst}
use Rattle.machine_invariant.specs.Matched.{AcceptedFits, times, under, command_events, data_events, status_events, request_bytes, IsCommandTd, IsStatusTd, IsMovingTd}
use Rattle.machine_invariant.specs.Matched.{retired_places, is_td_event, IsOwnTdEvent, IsDataTd, IsMatchedEntry, IsMatched, IsOwnMessage, IsOwnEvent, HasNoStray}
use Rattle.machine_invariant.specs.Matched.{HasDataTrbs, HaveDataTrbs, CarryActs, EventActs, NoDataEventWaits, NoStatusEventWaits}
use Rattle.shared_machine.proofs.NumberOfClients.{length-parts}
use Rattle.shared_machine.proofs.Opening.{length-new_parts}
use Rattle.machine_invariant.proofs.MatchedPlaces.{retired_places-append, times-append, command_events-append, data_events-append, status_events-append, one_self}
use Rattle.machine_invariant.proofs.MatchedPlaces.{held-within}
use Rattle.machine_invariant.proofs.MatchedActs.{under-there}
use Rattle.shared_machine.proofs.Standing.{slice_get-slice_set_same}
use Rattle.machine_invariant.proofs.MatchedRetirement.{own-engine_event}
use Rattle.machine_invariant.proofs.MatchedEntries.{awaited-pends, taken-none, HasSeen, event-seen}
use Rattle.machine_invariant.proofs.MatchedTasks.{has_trb-queued}
use Rattle.machine_invariant.proofs.MatchedEnds.{unfaulted, moving-unawaited}
use Rattle.machine_invariant.proofs.MatchedBounds.{held-place, times_pipe, matched-once}
use Rattle.machine_invariant.proofs.MatchedSteps.{IsHeld, matched-held, HasAwaiting, times_alike, times_alike-first}
use Rattle.machine_invariant.proofs.MatchedMoves.{HasWaiting, message-waiting, carry_step-is}
use Rattle.machine_invariant.proofs.MatchedSteps.{event-awaited, event_step-held, told_part, told_state, told-own, IsDueAt, place_fact-due}
use Rattle.machine_invariant.proofs.MatchedMoves.{IsMovingBy, moving_phase}
use Rattle.machine_invariant.proofs.MatchedMoves.{IsEndedBy, ended_phase}
use Rattle.shared_machine.proofs.NumberOfTags.{kept-tags}

-- MESSAGES

-- what is in a list is named there
pub times-member : (places : List Place) (at : ℕ) (place : Place) → slice_get places at ≡ Some place → 1 ≤ times place places
times-member [] at place is = absurd (none-some place is)
times-member (first ∷ rest) zero place is = let same : first ≡ place = cc in subst (λ p. 1 ≤ times p (first ∷ rest)) same (omega (arith, one_self first))
times-member (first ∷ rest) (suc at) place is = omega (arith, times-member rest at place is)

pub own-message : (state : Shared) (place : Place) → IsMatched state → 1 ≤ times place state.messages → IsOwnMessage state.tags state.parts place
own-message state place all some =
    let waiting : HasWaiting (under state.parts place) = message-waiting state place all some in
    let at : IsHeld state place waiting.entry = matched-held state place waiting.entry all waiting.is in
    let queued : waiting.entry.task.phase ≡ Queued = has_trb-queued waiting.entry.task.phase waiting.entry.command_td at.here.sound.command waiting.waits in
    record {
      entry = waiting.entry;
      held = waiting.is;
      there = held-place state place waiting.entry all waiting.is;
      queued = queued;
      pushed = subst (λ p. IsCommandTd p waiting.entry.command_td) queued at.here.sound.command;
    }

-- EVENTS

times_alike-rest : (event first : Completion) (rest : List Completion) → times_alike event rest ≤ times_alike event (first ∷ rest)
times_alike-rest (CommandDone place) first rest = omega (arith, command_events-append place (first ∷ []) rest)
times_alike-rest (DataDone place) first rest = omega (arith, data_events-append place (first ∷ []) rest)
times_alike-rest (StatusDone place) first rest = omega (arith, status_events-append place (first ∷ []) rest)
times_alike-rest (EngineDone place) first rest =
    omega (arith, ap (times place) (retired_places-append (first ∷ []) rest), times-append place (retired_places (first ∷ [])) (retired_places rest))

pub times_alike-member : (events : List Completion) (at : ℕ) (event : Completion) → slice_get events at ≡ Some event → 1 ≤ times_alike event events
times_alike-member [] at event is = absurd (none-some event is)
times_alike-member (first ∷ rest) zero event is =
    let same : first ≡ event = cc in subst (λ e. 1 ≤ times_alike e (first ∷ rest)) same (times_alike-first first rest)
times_alike-member (first ∷ rest) (suc at) event is = omega (arith, times_alike-member rest at event is, times_alike-rest event first rest)

pub own-td_event : (state : Shared) (event : Completion) → IsMatched state → is_td_event event ≡ true → 1 ≤ times_alike event state.events →
    IsOwnTdEvent state.tags state.parts event
own-td_event state event all of_td some =
    let awaiting : HasAwaiting event (under state.parts (event_place event)) = event-awaited state event all of_td some in
    let at : IsHeld state (event_place event) awaiting.entry = matched-held state (event_place event) awaiting.entry all awaiting.is in
    let seen : HasSeen state.tags event awaiting.entry = event-seen event awaiting.entry awaiting.awaits at.here.sound in
    record {
      entry = awaiting.entry;
      held = awaiting.is;
      there = held-place state (event_place event) awaiting.entry all awaiting.is;
      awaits = awaiting.awaits;
      seen = ap (λ (e : Option Entry). is_some e) seen.step.seen;
    }

pub own-event : (state : Shared) (event : Completion) → IsMatched state → 1 ≤ times_alike event state.events → IsOwnEvent state event
own-event state (CommandDone place) all some = own-td_event state (CommandDone place) all refl some
own-event state (DataDone place) all some = own-td_event state (DataDone place) all refl some
own-event state (StatusDone place) all some = own-td_event state (StatusDone place) all refl some
own-event state (EngineDone place) all some = own-engine_event state place all some

pub matched-no_stray : (state : Shared) → IsMatched state → HasNoStray state
matched-no_stray state all = record {
  messages = λ at place is. own-message state place all (times-member state.messages at place is);
  events = λ at event is. own-event state event all (times_alike-member state.events at event is);
}

-- THE COMMAND PIPE'S RING

-- a command event or a message: either TD is pending
pending-command : (state : Shared) (place : Place) → IsMatched state → 1 ≤ times place (pipe_places state) → IsPendingCommand state.parts place
pending-command state place all some =
    elim (nat_lt 0 (times place state.messages)) as (λ b. nat_lt 0 (times place state.messages) ≡ b → IsPendingCommand state.parts place) [
      | true ↦ λ is. let own : IsOwnMessage state.tags state.parts place = own-message state place all (omega (arith, ltb-true 0 (times place state.messages) is)) in
          record { entry = own.entry; held = own.held; pending = ap (λ (td : Td). td.state) own.pushed }
      | false ↦ λ is. let own : IsOwnTdEvent state.tags state.parts (CommandDone place) =
          own-td_event state (CommandDone place) all refl (omega (arith, some, times_pipe state place, ltb-false 0 (times place state.messages) is)) in
          record { entry = own.entry; held = own.held; pending = awaited-pends own.entry.command_td 1 own.awaits }
    ] refl

pub matched-pending : (state : Shared) → IsMatched state → ArePendingCommands state
matched-pending state all at place is = pending-command state place all (times-member (pipe_places state) at place is)

-- a command TD is pushed, or one of its one TRB was taken
command-counted : (phase : Phase) (td : Td) (named : ℕ) → IsCommandTd phase td → named ≡ one_if (has_trb td 1) → td.consumed + named ≡ 1
command-counted Queued td named is counted = omega (arith, ap (λ (t : Td). t.consumed) is, counted, ap (λ t. one_if (has_trb t 1)) is)
command-counted (Begun progress) td named is counted = omega (arith, is, counted, taken-none td is)
command-counted (Sent answer) td named is counted = omega (arith, is, counted, taken-none td is)
command-counted Gone td named is counted = omega (arith, is, counted, taken-none td is)

held-counted : (tags : ℕ) (slot : ℕ) (held : Option Entry) (named : ℕ) → IfSome held (IsMatchedEntry tags slot) → named ≡ waiting_command held →
    IfSome held (λ entry. entry.command_td.consumed + named ≡ 1)
held-counted tags slot None named sound counted = tt
held-counted tags slot (Some entry) named sound counted = command-counted entry.task.phase entry.command_td named sound.command counted

pub matched-counted : (state : Shared) → IsMatched state → HaveCommandTrbs state
matched-counted state all place =
    held-counted _ place.slot (under state.parts place) (times place state.messages) (all.places place).sound (all.places place).messages

-- THE STEPS THAT TAKE THEM

pub matched-carries : (state : Shared) → IsMatched state → CarryActs state
matched-carries state all place rest is =
    let own : IsOwnMessage state.tags state.parts place = own-message state place all (subst (λ ms. 1 ≤ times place ms) (sym is) (omega (arith, one_self place))) in
    let at : IsHeld state place own.entry = matched-held state place own.entry all own.held in
    ap (λ ms. (cond (is_some_of ms) (carry_step state ms) (state, idle)).1.mark) is
    ∙ ap (λ after. after.1.mark) (carry_step-is state place rest at.found.part own.entry at.found.there at.found.held own.queued)

-- the state once the first event, which is of a TD, was taken
event-stepped : (state : Shared) (event : Completion) (rest : List Completion) (part : Part) (old new : Entry) → is_td_event event ≡ true →
    state.events ≡ event ∷ rest → slice_get state.parts (event_place event).client ≡ Some part → held_at part.entries (event_place event).slot ≡ Some old →
    seen_by event old ≡ Some new → (shared_step state Event).0 ≡ told_state state event part new rest
event-stepped state event rest part old new of_td is there held seen =
    ap (λ es. (cond (is_some_of es) (event_step state es) (state, idle)).0) is
    ∙ event_step-held state event rest part old new of_td there held seen

pub matched-sees : (state : Shared) → IsMatched state → EventActs state
matched-sees state all event rest is of_td =
    let own : IsOwnTdEvent state.tags state.parts event =
    own-td_event state event all of_td (subst (λ es. 1 ≤ times_alike event es) (sym is) (times_alike-first event rest)) in
    let place : Place = event_place event in
    let at : IsHeld state place own.entry = matched-held state place own.entry all own.held in
    let seen : HasSeen state.tags event own.entry = event-seen event own.entry own.awaits at.here.sound in
    let part : Part = at.found.part in
    let now : Shared = told_state state event part seen.new rest in
    let stepped : (shared_step state Event).0 ≡ now =
    event-stepped state event rest part own.entry seen.new of_td is at.found.there at.found.held seen.step.seen in
    let wrote : under now.parts place ≡ Some seen.new = under-there now.parts place (told_part event part place.slot seen.new) (Some seen.new)
    (slice_get-slice_set_same state.parts place.client part (told_part event part place.slot seen.new) at.found.there)
    (told-own event seen.new.task.request (slice_set part.entries place.slot (Some seen.new)) place.slot seen.new refl
    (get_or-set_same part.entries place.slot (Some seen.new) None (held-within part.entries place.slot own.entry at.found.held))) in
    (own.entry, seen.new, own.held, seen.step.seen, ap (λ (s : Shared). under s.parts (event_place event)) stepped ∙ wrote)

-- the places in the command pipe's ring once a command event was taken of what stands there
freed_by : (state : Shared) (place : Place) (rest : List Completion) (part : Part) (old new : Entry) → state.events ≡ CommandDone place ∷ rest →
    slice_get state.parts place.client ≡ Some part → held_at part.entries place.slot ≡ Some old → seen_by (CommandDone place) old ≡ Some new →
    pipe_places (shared_step state Event).0 ≡ carried_places rest ++ state.messages
freed_by state place rest part old new is there held seen =
    ap (λ (s : Shared). pipe_places s) (event-stepped state (CommandDone place) rest part old new refl is there held seen)
    ∙ ap (λ es. carried_places es ++ state.messages) (append-nil rest)

-- the same in a matched state
freed_places : (state : Shared) (place : Place) (rest : List Completion) → IsMatched state → state.events ≡ CommandDone place ∷ rest →
    pipe_places (shared_step state Event).0 ≡ carried_places rest ++ state.messages
freed_places state place rest all is =
    let own : IsOwnTdEvent state.tags state.parts (CommandDone place) =
    own-td_event state (CommandDone place) all refl (subst (λ es. 1 ≤ command_events place es) (sym is) (omega (arith, one_self place))) in
    let at : IsHeld state place own.entry = matched-held state place own.entry all own.held in
    let seen : HasSeen state.tags (CommandDone place) own.entry = event-seen (CommandDone place) own.entry own.awaits at.here.sound in
    freed_by state place rest at.found.part own.entry seen.new is at.found.there at.found.held seen.step.seen

pub matched-frees : (state : Shared) → IsMatched state → EventFreesFirst state
matched-frees state all place rest is =
    let left : pipe_places (shared_step state Event).0 ≡ carried_places rest ++ state.messages = freed_places state place rest all is in
    let first : pipe_places state ≡ place ∷ (carried_places rest ++ state.messages) = ap (λ es. carried_places es ++ state.messages) is in
    let once : times place (pipe_places state) ≤ 1 = (matched-once state all place).command in
    (first ∙ ap (λ places. place ∷ places) (sym left), omega (arith, once, ap (times place) first, ap (times place) left, one_self place))

-- WHERE A STEP IS DUE NO EVENT OF ITS TD WAITS

pub same_named : (found : Option Place) (one other : Place) → found ≡ Some one → found ≡ Some other → one ≡ other
same_named found one other is so = cc

pub matched-no_data_event : (state : Shared) → IsMatched state → NoDataEventWaits state
matched-no_data_event state all tag place named is_due =
    let at : IsDueAt state tag (data_is_due state tag) = place_fact-due state tag (data_is_due state tag) is_due in
    let held : IsHeld state at.place at.entry = matched-held state at.place at.entry all at.held in
    let moving : IsMovingBy at.entry.task.phase = moving_phase at.entry.task.phase (and_parts (is_moving at.entry.task.phase) _ at.so).0 in
    let chunks : IsMovingTd (data_trbs at.entry.task.request) moving.chunk at.entry.data_td =
    subst (λ p. IsDataTd (data_trbs at.entry.task.request) p at.entry.data_td) moving.is held.here.sound.chunks in
    subst (λ p. data_events p state.events ≡ 0) (same_named (place_of state.tags (length state.parts) tag) at.place place at.named named)
    (held.here.moved ∙ moving-unawaited (data_trbs at.entry.task.request) moving.chunk at.entry.data_td chunks)

pub matched-no_status_event : (state : Shared) → IsMatched state → NoStatusEventWaits state
matched-no_status_event state all tag place named is_due =
    let at : IsDueAt state tag (status_is_due state tag) = place_fact-due state tag (status_is_due state tag) is_due in
    let held : IsHeld state at.place at.entry = matched-held state at.place at.entry all at.held in
    let ended : IsEndedBy at.entry.task.phase = ended_phase at.entry.task.phase (and_parts (is_ended at.entry.task.phase) _ at.so).0 in
    let status : at.entry.status_td ≡ pushed = subst (λ p. IsStatusTd p at.entry.status_td) ended.is held.here.sound.status in
    subst (λ p. status_events p state.events ≡ 0) (same_named (place_of state.tags (length state.parts) tag) at.place place at.named named)
    (held.here.sent ∙ ap (λ td. one_if (is_awaited td 1)) status)

-- DATA TDS

both_some : (one other : ℕ) → (0 < one → 0 < other) → (0 < other → 0 < one) → nat_lt 0 one ≡ nat_lt 0 other
both_some one other there back =
    elim (nat_lt 0 one) as (λ b. nat_lt 0 one ≡ b → b ≡ nat_lt 0 other) [
      | true ↦ λ is. elim (nat_lt 0 other) as (λ b. nat_lt 0 other ≡ b → true ≡ b) [
        | true ↦ λ so. refl
        | false ↦ λ so. absurd (omega (arith, there (ltb-true 0 one is), ltb-false 0 other so))
      ] refl
      | false ↦ λ is. elim (nat_lt 0 other) as (λ b. nat_lt 0 other ≡ b → false ≡ b) [
        | true ↦ λ so. absurd (omega (arith, back (ltb-true 0 other so), ltb-false 0 one is))
        | false ↦ λ so. refl
      ] refl
    ] refl

trbs-most : (request : Request) → request_bytes request ≤ WINDOW_BYTES → data_trbs request ≤ MOST_DATA_TRBS
trbs-most (Execute op) small = omega arith
trbs-most (Manage what noted) small = omega arith

trbs-some : (request : Request) → nat_lt 0 (request_bytes request) ≡ nat_lt 0 (data_trbs request)
trbs-some (Execute op) = both_some (moved_bytes op) ((moved_bytes op + (CHUNK_BYTES - 1)) / CHUNK_BYTES) (λ some. omega arith) (λ some. omega arith)
trbs-some (Manage what noted) = refl

data-trbs : (tags : ℕ) (slot : ℕ) (held : Option Entry) → IfSome held (IsMatchedEntry tags slot) → IfSome held HasDataTrbs
data-trbs tags slot None sound = tt
data-trbs tags slot (Some entry) sound = record { most = trbs-most entry.task.request sound.small; there = sound.moves ∙ trbs-some entry.task.request }

pub accepted-trbs : AcceptedFits
accepted-trbs in_use least ticket command none = trbs-most (Execute command.op) (moved-short command.op (unfaulted in_use least ticket command none).short)

pub matched-data_trbs : (state : Shared) → IsMatched state → HaveDataTrbs state
matched-data_trbs state all place = data-trbs _ place.slot (under state.parts place) (all.places place).sound

-- REPLAYS

replayed-parts : (state : Shared) (steps : List Step) → length (replayed state steps).0.parts ≡ length state.parts
replayed-parts state [] = refl
replayed-parts state (step ∷ steps) = replayed-parts (shared_step state step).0 steps ∙ length-parts state step

replayed-tags : (state : Shared) (steps : List Step) → (replayed state steps).0.tags ≡ state.tags
replayed-tags state [] = refl
replayed-tags state (step ∷ steps) = replayed-tags (shared_step state step).0 steps ∙ kept-tags state step

pub replay-parts : (tags : ℕ) (units : List BlockMaps) (steps : List Step) → length (replay tags units steps).0.parts ≡ length units
replay-parts tags units steps = replayed-parts (opening tags units) steps ∙ length-new_parts 0 units

pub replay-greatest : (tags : ℕ) (units : List BlockMaps) (steps : List Step) → greatest_tag (replay tags units steps).0 ≡ length units * tags
replay-greatest tags units steps =
    rw (replay-parts tags units steps, replayed-tags (opening tags units) steps) refl
