-- Each step keeps what waits matched: cited by queue_laws, and wherever a step's fit carries IsMatched on.
use Rattle.std.proofs.Common.{◌≡◌, ℕ, ◌<◌, ◌≤◌, true, false, cond, List, [], ◌∷◌, ◌++◌, length, Option, Some, None, refl, arith, ap, sym}
use Rattle.std.proofs.Common.{subst, ◌∙◌, option_map}
use Rattle.std.specs.Prelude.{slice_get, slice_set, option_and_then, ◌&&◌, if◌then◌else◌}
use Rattle.std.specs.Option.{option_map_or}
use Rattle.std.proofs.lemmas.Bool.{and_left, false≢true}
use Rattle.std.proofs.lemmas.List.{append-nil, get_or-set_other, set-set}
use Rattle.arrayvec.specs.ArrayVec.{ArrayVec}
use Rattle.uas_profile.specs.declared.Pipe.{Pipe}
use Rattle.scsi_cmd.specs.Request.{ended_by, is_command}
use Rattle.scsi_cmd.specs.declared.Task.{Task}
use Rattle.uas_profile.specs.Tags.{task_slot}
use Rattle.scsi_cmd.specs.declared.Reply.{Reply}
use Rattle.scsi_cmd.specs.declared.Request.{Request}
use Rattle.scsi_cmd.specs.declared.Request.TheVariants.{Execute, Manage}
use Rattle.scsi_cmd.specs.Held.{held_at}
use Rattle.solo_model.specs.TaggedTask.{is_noted}
use Rattle.solo_model.specs.TaggedTask.{reply_of}
use Rattle.shared_machine.specs.Tests.{is_pending}
use Rattle.uas_profile.specs.declared.Place.{Place}
use Rattle.uas_profile.specs.Tags.{command_slot}
use Rattle.shared_machine.specs.declared.Completion.{Completion}
use Rattle.shared_machine.specs.declared.Outcome.{Outcome}
use Rattle.shared_machine.specs.declared.Step.{Step}
use Rattle.shared_machine.specs.declared.Td.{Td}
use Rattle.shared_machine.specs.declared.Completion.TheVariants.{CommandDone, DataDone, StatusDone, EngineDone}
use Rattle.shared_machine.specs.declared.Step.TheVariants.{Submit, Task as TaskStep, CommandPipe, Data, Status, Engine, Event, Retire, Take}
use Rattle.shared_machine.specs.Td.{Entry, is_awaited, is_ready, data_trbs, has_trb_on, is_left_over_on, left_over_data, left_over_td}
use Rattle.shared_machine.specs.Part.{Part}
use Rattle.shared_machine.specs.Part.{event_act, event_place, seen_by, seen_entry, after_answer}
use Rattle.shared_machine.specs.Part.{after_event, doomed, ready_after, take_act, taken, settled, entry_reply, slot_tag}
use Rattle.shared_machine.specs.Replay.{replayed}
use Rattle.shared_machine.specs.Shared.{Shared, idle, shared_step, acted_on, routed_to, due_step, due, has_ready, is_some_of, routed}
use Rattle.shared_machine.specs.Shared.{event_step, event_seen}
use Rattle.shared_machine.specs.Soundness.{awaited_data, readied_of, times_in}
use Rattle.machine_invariant.specs.Matched.{times, held_in, under, command_events, data_events, status_events, awaited_command}
use Rattle.machine_invariant.specs.Matched.{awaited_status, awaited_data_of, awaits_data, awaits_event, IsRequestIn, IsMatchedAt, IsMatched, retired_places}
use Rattle.machine_invariant.specs.Matched.{is_td_event, is_whole_on}
use Rattle.machine_invariant.proofs.MatchedPlaces.{one_self, one_if-true, one_if-most, one_equal, one_apart, command_events-append, data_events-append}
use Rattle.machine_invariant.proofs.MatchedPlaces.{status_events-append, held-within, IsWritten, times_ready-written, AreMatched-written, clients-written, IsCounted}
use Rattle.machine_invariant.proofs.MatchedPlaces.{counted-of, matched-of}
use Rattle.machine_invariant.proofs.MatchedEntries.{HasSeen, IsSeenAs, event-seen}
use Rattle.machine_invariant.proofs.MatchedEnds.{IsQuiet, ready-quiet, HasReply, done-reply, ready-left}
use Rattle.shared_machine.proofs.Standing.{slice_get-slice_set_same}
use Rattle.machine_invariant.proofs.MatchedTds.{none-goes}
use Rattle.machine_invariant.proofs.MatchedFlows.{pipes-same, HeldGoesOn, written-goes, goes-on, IsCounted-kept}
pub use Rattle.machine_invariant.proofs.MatchedActs.{IsHeld, matched-held, times_ready-there, IsDueAt, place_fact-due, seen_part, seen_state, seen-written}
use Rattle.machine_invariant.proofs.MatchedActs.{under-there, seen-matched}
use Rattle.machine_invariant.proofs.MatchedOthers.{AreAlike, changed_part, changed_state, alike-counted, doomed-alike}
use Rattle.machine_invariant.proofs.MatchedSubmissions.{submitted_under-matched, task_step-matched}
use Rattle.machine_invariant.proofs.MatchedEngine.{retire_step-matched, engine_event-matched}
use Rattle.machine_invariant.proofs.MatchedCommands.{engine_step-matched}
use Rattle.machine_invariant.proofs.OrderedManaged.{of_client, noted-as_seen}
use Rattle.machine_invariant.proofs.Ordered.{shared_step-ordered}
use Rattle.machine_invariant.proofs.OrderedEntries.{held-changed}
use Rattle.machine_invariant.proofs.MatchedMoves.{other-sound, command-slot}
use Rattle.machine_invariant.proofs.MatchedMoves.{carry_step-matched, move_step-matched}
use Rattle.machine_invariant.proofs.MatchedMoves.{send_step-matched}

-- EVENT

-- how many events as this one wait
abbrev pub times_alike : Completion → List Completion → ℕ
times_alike (CommandDone place) events = command_events place events
times_alike (DataDone place) events = data_events place events
times_alike (StatusDone place) events = status_events place events
times_alike (EngineDone place) events = times place (retired_places events)

-- a place that an event names has an entry that awaits it
pub record HasAwaiting (event : Completion) (held : Option Entry) : Type 0 where
  pub entry : Entry
  pub is : held ≡ Some entry
  pub awaits : awaits_event event entry ≡ true

command-awaited : (place : Place) (held : Option Entry) → 1 ≤ awaited_command held → HasAwaiting (CommandDone place) held
command-awaited place None some = absurd (omega (arith, some))
command-awaited place (Some entry) some = record { entry = entry; is = refl; awaits = one_if-true (is_awaited entry.command_td 1) some }

data_td-awaited : (trbs : ℕ) (td : Option Td) → 1 ≤ awaited_data trbs td → awaits_data trbs td ≡ true
data_td-awaited trbs None some = absurd (omega (arith, some))
data_td-awaited trbs (Some td) some = one_if-true (is_awaited td trbs) some

data-awaited : (place : Place) (held : Option Entry) → 1 ≤ awaited_data_of held → HasAwaiting (DataDone place) held
data-awaited place None some = absurd (omega (arith, some))
data-awaited place (Some entry) some = record { entry = entry; is = refl; awaits = data_td-awaited (data_trbs entry.task.request) entry.data_td some }

status-awaited : (place : Place) (held : Option Entry) → 1 ≤ awaited_status held → HasAwaiting (StatusDone place) held
status-awaited place None some = absurd (omega (arith, some))
status-awaited place (Some entry) some = record { entry = entry; is = refl; awaits = one_if-true (is_awaited entry.status_td 1) some }

pub event-awaited : (state : Shared) (event : Completion) → IsMatched state → is_td_event event ≡ true → 1 ≤ times_alike event state.events
    → HasAwaiting event (under state.parts (event_place event))
event-awaited state (CommandDone place) all of_td some =
    command-awaited place (under state.parts place) (omega (arith, some, (all.places place).carried))
event-awaited state (DataDone place) all of_td some = data-awaited place (under state.parts place) (omega (arith, some, (all.places place).moved))
event-awaited state (StatusDone place) all of_td some = status-awaited place (under state.parts place) (omega (arith, some, (all.places place).sent))
event-awaited state (EngineDone place) all of_td some = absurd (false≢true of_td)

-- the event that is next is one of those that wait
pub times_alike-first : (event : Completion) (rest : List Completion) → 1 ≤ times_alike event (event ∷ rest)
times_alike-first (CommandDone place) rest = omega (arith, one_self place)
times_alike-first (DataDone place) rest = omega (arith, one_self place)
times_alike-first (StatusDone place) rest = omega (arith, one_self place)
times_alike-first (EngineDone place) rest = omega (arith, one_self place)

-- the host takes an event of a TD as an act of its client
pub event_seen-td : (state : Shared) (event : Completion) → is_td_event event ≡ true →
    event_seen state event ≡ routed state (event_place event).client (event_act event)
event_seen-td state (CommandDone place) of_td = refl
event_seen-td state (DataDone place) of_td = refl
event_seen-td state (StatusDone place) of_td = refl
event_seen-td state (EngineDone place) of_td = absurd (false≢true of_td)

-- the part after an event was seen: the response of a task management leaves over what it ended
abbrev pub told_part : Completion → Part → ℕ → Entry → Part
told_part event part slot entry = record part {
  entries = after_event event entry.task.request (slice_set part.entries slot (Some entry));
  ready = ready_after part.ready slot entry;
}

-- the state after it
abbrev pub told_state : Shared → Completion → Part → Entry → List Completion → Shared
told_state state event part entry rest = record state {
  parts = slice_set state.parts (event_place event).client (told_part event part (event_place event).slot entry);
  events = rest ++ [];
}

pub event_step-held : (state : Shared) (event : Completion) (rest : List Completion) (part : Part) (old new : Entry) → is_td_event event ≡ true →
    slice_get state.parts (event_place event).client ≡ Some part → held_at part.entries (event_place event).slot ≡ Some old → seen_by event old ≡ Some new
    → (event_step state (event ∷ rest)).0 ≡ told_state state event part new rest
event_step-held state event rest part old new of_td there held seen =
    let popped : Shared = record state { events = rest } in
    let place : Place = event_place event in
    ap (λ (after : Shared × Outcome). after.0) (event_seen-td popped event of_td)
    ∙ ap (λ found. (routed_to popped place.client (event_act event) found).0) there
    ∙ ap (λ found. (acted_on popped place.client (seen_entry event part place.slot (option_and_then (seen_by event) found))).0) held
    ∙ ap (λ after. (acted_on popped place.client (seen_entry event part place.slot after)).0) seen

-- an event that is no response changes nothing of the client's other entries
pub told-alone : (state : Shared) (event : Completion) (rest : List Completion) (part : Part) (new : Entry) →
    ((entries : List (Option Entry)) → after_event event new.task.request entries ≡ entries) →
    told_state state event part new rest ≡ seen_state state (event_place event) part new rest
told-alone state event rest part new alone =
    ap (λ entries. record state {
      parts = slice_set state.parts (event_place event).client
          (record part { entries = entries; ready = ready_after part.ready (event_place event).slot new });
      events = rest ++ [];
    }) (alone (slice_set part.entries (event_place event).slot (Some new)))

-- THE RESPONSE OF A TASK MANAGEMENT

-- it leaves itself as it is
undoomed-same : (noted : List ℕ) (entry : Entry) → is_command entry.task.request ≡ false → doomed noted entry ≡ entry
undoomed-same noted entry is =
    ap (λ b. if b then record entry { status_td = left_over_td entry.status_td; data_td = left_over_data entry.data_td } else entry)
    (and_left (is_command entry.task.request) (is_pending entry.status_td.state && is_noted noted entry.task.ticket) is)

-- what stands where the event is of
pub told-own : (event : Completion) (request : Request) (entries : List (Option Entry)) (slot : ℕ) (new : Entry) → new.task.request ≡ request →
    held_at entries slot ≡ Some new → held_at (after_event event request entries) slot ≡ Some new
told-own (CommandDone place) request entries slot new asks held = held
told-own (DataDone place) request entries slot new asks held = held
told-own (StatusDone place) (Execute op) entries slot new asks held = held
told-own (StatusDone place) (Manage what noted) entries slot new asks held =
    held-changed (doomed (ended_by what noted).items) entries slot ∙ ap (option_map (doomed (ended_by what noted).items)) held
    ∙ ap Some (undoomed-same (ended_by what noted).items new (ap (λ r. is_command r) asks))
told-own (EngineDone place) request entries slot new asks held = held

response-seen : (state : Shared) (place : Place) (rest : List Completion) (part : Part) (old new : Entry) (what : Task) (noted : ArrayVec ℕ) →
    state.events ≡ StatusDone place ∷ rest → slice_get state.parts place.client ≡ Some part → held_at part.entries place.slot ≡ Some old →
    old.task.request ≡ Manage what noted → IsSeenAs state.tags (StatusDone place) old new → IsMatchedAt state place (Some old) → IsMatched state →
    IsCounted (told_state state (StatusDone place) part new rest)
response-seen state place rest part old new what noted is there held asks seen here all =
    let event : Completion = StatusDone place in
    let change : Entry → Entry = doomed (ended_by what noted).items in
    let base : Shared = seen_state state place part new rest in
    let now_part : Part = seen_part part place.slot new in
    let bases : IsCounted base = seen-matched state event rest part old new refl is there held seen here (counted-of state all) in
    let base_there : slice_get base.parts place.client ≡ Some now_part = slice_get-slice_set_same state.parts place.client part now_part there in
    let slot : place.slot ≡ (task_slot state.tags) = subst (λ r. IsRequestIn state.tags place.slot r) asks here.sound.asks in
    let step : told_state state event part new rest ≡ changed_state base place.client change now_part =
    ap (λ entries. record state {
      parts = slice_set state.parts place.client (record part { entries = entries; ready = ready_after part.ready place.slot new });
      events = rest ++ [];
    }) (ap (λ r. after_answer r (slice_set part.entries place.slot (Some new))) (seen.tds.request ∙ asks))
    ∙ ap (λ parts. record state { parts = parts; events = rest ++ [] }) (sym (set-set state.parts place.client now_part (changed_part change now_part))) in
    subst IsCounted (sym step)
    (alike-counted base place.client change now_part base_there (each base bases now_part base_there refl slot refl) bases)
  where
    each : (base : Shared) → IsCounted base → (now_part : Part) → slice_get base.parts place.client ≡ Some now_part → base.tags ≡ state.tags →
        place.slot ≡ (task_slot state.tags) → now_part.entries ≡ slice_set part.entries place.slot (Some new) → AreAlike base.tags (doomed (ended_by what noted).items) now_part.entries
    each base bases now_part base_there tags last entries slot other is_other =
        let at : IsMatchedAt base (of_client place slot) (Some other) = other-sound base place now_part slot other base_there is_other bases in
        doomed-alike (ended_by what noted).items slot other
        (λ command noted_is pends.
        let within : slot < (task_slot state.tags) =
        subst (λ count. slot < task_slot count) tags (command-slot _ slot other.task.request command at.sound.asks) in
        let was : held_at part.entries slot ≡ Some other =
        sym (get_or-set_other part.entries place.slot slot (Some new) None (λ same. omega (arith, same, last, within)))
        ∙ sym (ap (λ es. held_at es slot) entries) ∙ is_other in
        let found : under state.parts (of_client place slot) ≡ Some other = under-there state.parts (of_client place slot) part (Some other) there was in
        let given = noted-as_seen state place rest old what noted all is (under-there state.parts place part (Some old) there held) asks slot other within found
        noted_is pends in
        let before : IsMatchedAt state (of_client place slot) (Some other) = other-sound state place part slot other there was (counted-of state all) in
        record {
          gone = given.gone;
          unawaited = sym before.moved ∙ ap (data_events (of_client place slot)) is ∙ given.data_none;
        })
        at.sound

status-seen_matched : (state : Shared) (place : Place) (rest : List Completion) (part : Part) (old new : Entry) (request : Request) →
    old.task.request ≡ request → state.events ≡ StatusDone place ∷ rest → slice_get state.parts place.client ≡ Some part →
    held_at part.entries place.slot ≡ Some old → IsSeenAs state.tags (StatusDone place) old new → IsMatchedAt state place (Some old) → IsMatched state →
    IsCounted (told_state state (StatusDone place) part new rest)
status-seen_matched state place rest part old new (Execute op) asks is there held seen here all =
    subst IsCounted (sym (told-alone state (StatusDone place) rest part new (λ entries. ap (λ r. after_answer r entries) (seen.tds.request ∙ asks))))
    (seen-matched state (StatusDone place) rest part old new refl is there held seen here (counted-of state all))
status-seen_matched state place rest part old new (Manage what noted) asks is there held seen here all =
    response-seen state place rest part old new what noted is there held asks seen here all

-- an event of a TD, by its kind
told-matched : (state : Shared) (event : Completion) (rest : List Completion) (part : Part) (old new : Entry) → is_td_event event ≡ true →
    state.events ≡ event ∷ rest → slice_get state.parts (event_place event).client ≡ Some part → held_at part.entries (event_place event).slot ≡ Some old →
    IsSeenAs state.tags event old new → IsMatchedAt state (event_place event) (Some old) → IsMatched state → IsCounted (told_state state event part new rest)
told-matched state (CommandDone place) rest part old new of_td is there held seen here all =
    seen-matched state (CommandDone place) rest part old new refl is there held seen here (counted-of state all)
told-matched state (DataDone place) rest part old new of_td is there held seen here all =
    seen-matched state (DataDone place) rest part old new refl is there held seen here (counted-of state all)
told-matched state (StatusDone place) rest part old new of_td is there held seen here all =
    status-seen_matched state place rest part old new old.task.request refl is there held seen here all
told-matched state (EngineDone place) rest part old new of_td is there held seen here all = absurd (false≢true of_td)

td_event_step-matched : (state : Shared) (event : Completion) (rest : List Completion) → is_td_event event ≡ true → state.events ≡ event ∷ rest →
    IsMatched state → IsCounted (event_step state (event ∷ rest)).0
td_event_step-matched state event rest of_td is all =
    let some : 1 ≤ times_alike event state.events = subst (λ es. 1 ≤ times_alike event es) (sym is) (times_alike-first event rest) in
    let awaiting : HasAwaiting event (under state.parts (event_place event)) = event-awaited state event all of_td some in
    let held : IsHeld state (event_place event) awaiting.entry = matched-held state (event_place event) awaiting.entry all awaiting.is in
    let seen : HasSeen state.tags event awaiting.entry = event-seen event awaiting.entry awaiting.awaits held.here.sound in
    subst IsCounted (sym (event_step-held state event rest held.found.part awaiting.entry seen.new of_td held.found.there held.found.held seen.step.seen))
    (told-matched state event rest held.found.part awaiting.entry seen.new of_td is held.found.there held.found.held seen.step held.here all)

pub event_step-matched : (state : Shared) (events : List Completion) → state.events ≡ events → IsMatched state → IsCounted (event_step state events).0
event_step-matched state [] is all = counted-of state all
event_step-matched state (CommandDone place ∷ rest) is all = td_event_step-matched state (CommandDone place) rest refl is all
event_step-matched state (DataDone place ∷ rest) is all = td_event_step-matched state (DataDone place) rest refl is all
event_step-matched state (StatusDone place ∷ rest) is all = td_event_step-matched state (StatusDone place) rest refl is all
event_step-matched state (EngineDone place ∷ rest) is all = engine_event-matched state place rest is all

-- TAKE

-- a slot that is first in its client's queue of ready slots has an entry that is ready, and isn't in the rest of the queue
pub record IsFirstReady (held : Option Entry) (slot : ℕ) (rest : List ℕ) : Type 0 where
  pub entry : Entry
  pub is : held ≡ Some entry
  pub ready : is_ready entry ≡ true
  pub once : times_in slot rest ≡ 0

pub first-ready : (held : Option Entry) (slot : ℕ) (rest : List ℕ) → times_in slot (slot ∷ rest) ≡ readied_of held → IsFirstReady held slot rest
first-ready None slot rest counted = absurd (omega (arith, counted, one_equal slot))
first-ready (Some entry) slot rest counted = record {
  entry = entry;
  is = refl;
  ready = one_if-true (is_ready entry) (omega (arith, counted, one_equal slot));
  once = omega (arith, counted, one_equal slot, one_if-most (is_ready entry));
}

abbrev pub settled_part : Part → ℕ → List ℕ → Part
settled_part part slot rest = record part { entries = slice_set part.entries slot None; ready = rest }

abbrev pub settled_state : Shared → Place → Part → List ℕ → Shared
settled_state state place part rest = record state
    { parts = slice_set state.parts place.client (settled_part part place.slot rest); events = state.events ++ [] }

pub take_step-held : (state : Shared) (client slot : ℕ) (rest : List ℕ) (part : Part) (entry : Entry) (reply : Reply)
    → slice_get state.parts client ≡ Some part →
    part.ready ≡ slot ∷ rest → held_at part.entries slot ≡ Some entry → reply_of (slot_tag state.tags client slot) entry.task ≡ Some reply →
    (routed state client (take_act state.tags client)).0 ≡ settled_state state (record { client = client; slot = slot }) part rest
take_step-held state client slot rest part entry reply there queue held replies =
    ap (λ found. (routed_to state client (take_act state.tags client) found).0) there
    ∙ ap (λ ready. (acted_on state client (taken state.tags client part ready)).0) queue
    ∙ ap (λ found. (acted_on state client (settled part slot rest (option_and_then (entry_reply (slot_tag state.tags client slot)) found))).0) held
    ∙ ap (λ found. (acted_on state client (settled part slot rest found)).0) replies

settled-written : (state : Shared) (place : Place) (part : Part) (rest : List ℕ) (entry : Entry) → slice_get state.parts place.client ≡ Some part →
    part.ready ≡ place.slot ∷ rest → held_at part.entries place.slot ≡ Some entry → IsWritten state (settled_state state place part rest) place None
settled-written state place part rest entry there queue held = record {
  part = part;
  now = settled_part part place.slot rest;
  there = there;
  within = held-within part.entries place.slot entry held;
  tags = refl;
  parts = refl;
  entries = refl;
  queue = λ slot apart. omega (arith, ap (times_in slot) queue, one_apart place.slot slot apart);
  others = λ other apart. record {
    messages = refl;
    carried = omega (arith, command_events-append other state.events []);
    moved = omega (arith, data_events-append other state.events []);
    sent = omega (arith, status_events-append other state.events []);
  };
}

-- no TD of an entry that is ready is left over, and none of a place where nothing stands
ready-goes : (pipe : Pipe) (entry : Entry) → is_ready entry ≡ true → HeldGoesOn pipe (Some entry) None
ready-goes pipe entry ready =
    none-goes (is_left_over_on pipe entry) (has_trb_on pipe entry) (is_whole_on pipe entry) false false false (ready-left pipe entry ready) refl
    (λ has. absurd (false≢true has))

settled-matched : (state : Shared) (place : Place) (part : Part) (rest : List ℕ) (entry : Entry) → slice_get state.parts place.client ≡ Some part →
    part.ready ≡ place.slot ∷ rest → held_at part.entries place.slot ≡ Some entry → times_in place.slot rest ≡ 0 → is_ready entry ≡ true → IsQuiet entry
    → IsMatchedAt state place (Some entry) → IsCounted state →
    IsCounted (settled_state state place part rest)
unfolding settled-written
settled-matched state place part rest entry there queue held once ready quiet here all =
    let now : Shared = settled_state state place part rest in
    let written = settled-written state place part rest entry there queue held in
    IsCounted-kept state now
    (goes-on state now (clients-written state now place None written) refl (pipes-same state now refl refl refl)
    (written-goes state now place None written
    (λ pipe. subst (λ was. HeldGoesOn pipe was None) (sym (under-there state.parts place part (Some entry) there held)) (ready-goes pipe entry ready))))
    (AreMatched-written state now place None written (record {
      messages = here.messages ∙ quiet.messages;
      carried = omega (arith, command_events-append place state.events [], here.carried, quiet.carried);
      moved = omega (arith, data_events-append place state.events [], here.moved, quiet.moved);
      sent = omega (arith, status_events-append place state.events [], here.sent, quiet.sent);
      ready = times_ready-written state now place None written ∙ once;
      sound = tt;
    }) all.matched)
    (ap (λ events. retired_places events) (append-nil state.events))
    all

take_queue : (state : Shared) (client : ℕ) (part : Part) (queue : List ℕ) → slice_get state.parts client ≡ Some part → part.ready ≡ queue
    → is_some_of queue ≡ true → IsMatched state →
    IsCounted (routed state client (take_act state.tags client)).0
take_queue state client part [] there is some all = absurd (false≢true some)
take_queue state client part (slot ∷ rest) there is some all =
    let place : Place = record { client = client; slot = slot } in
    let counted : times_in slot (slot ∷ rest) ≡ readied_of (under state.parts place) =
    sym (ap (times_in slot) is) ∙ sym (times_ready-there state.parts place part there) ∙ (all.places place).ready in
    let first : IsFirstReady (under state.parts place) slot rest = first-ready (under state.parts place) slot rest counted in
    let held : IsHeld state place first.entry = matched-held state place first.entry all first.is in
    let at : held_at part.entries slot ≡ Some first.entry = sym (ap (λ found. option_map_or (held_in place) found None) there) ∙ first.is in
    let quiet : IsQuiet first.entry = ready-quiet slot first.entry first.ready held.here.sound in
    let reply : HasReply (slot_tag state.tags client slot) first.entry.task = done-reply (slot_tag state.tags client slot) first.entry.task quiet.done in
    subst IsCounted (sym (take_step-held state client slot rest part first.entry reply.reply there is at reply.is))
    (settled-matched state place part rest first.entry there is at first.once first.ready quiet held.here (counted-of state all))

take_step-matched : (state : Shared) (client : ℕ) → due state (Take client) ≡ true → IsMatched state → IsCounted (routed state client (take_act state.tags client)).0
take_step-matched state client is_due all =
    elim (slice_get state.parts client) as
    (λ found. slice_get state.parts client ≡ found → option_map_or has_ready found false ≡ true → IsCounted (routed state client (take_act state.tags client)).0) [
      | None ↦ λ there some. absurd (false≢true some)
      | Some part ↦ λ there some. take_queue state client part part.ready there refl some all
    ] refl is_due

-- EVERY STEP

due_step-counted : (state : Shared) (step : Step) → due state step ≡ true → IsMatched state → IsCounted (due_step state step).0
due_step-counted state (Submit client tag ticket command) is all =
    submitted_under-matched state client tag ticket command (command_slot state.tags (length state.parts) client tag) refl all
due_step-counted state (TaskStep client ticket task) is all = task_step-matched state client ticket task all
due_step-counted state CommandPipe is all = carry_step-matched state state.messages refl all
due_step-counted state (Data tag) is all = move_step-matched state tag is all
due_step-counted state (Status tag) is all = send_step-matched state tag is all
due_step-counted state Engine is all = engine_step-matched state state.retirement refl all
due_step-counted state (Retire pipe tag) is all = retire_step-matched state pipe tag is all
due_step-counted state Event is all = event_step-matched state state.events refl all
due_step-counted state (Take client) is all = take_step-matched state client is all

shared_step-counted : (state : Shared) (step : Step) → IsMatched state → IsCounted (shared_step state step).0
shared_step-counted state step all =
    elim (due state step) as (λ b. due state step ≡ b → IsCounted (cond b (due_step state step) (state, idle)).0) [
      | true ↦ λ is. due_step-counted state step is all
      | false ↦ λ is. counted-of state all
    ] refl

-- a step keeps what waits matched; one that isn't due changes nothing
pub shared_step-matched : (state : Shared) (step : Step) → IsMatched state → IsMatched (shared_step state step).0
shared_step-matched state step all = matched-of (shared_step state step).0 (shared_step-counted state step all) (shared_step-ordered state step all)

-- so does a list of steps
pub replayed-matched : (state : Shared) (steps : List Step) → IsMatched state → IsMatched (replayed state steps).0
replayed-matched state [] all = all
replayed-matched state (step ∷ steps) all = replayed-matched (shared_step state step).0 steps (shared_step-matched state step all)
