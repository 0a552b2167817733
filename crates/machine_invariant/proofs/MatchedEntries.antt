-- What the device's and the host's steps make of one entry, counted exactly: cited by MatchedActs, MatchedSteps and MatchedLeftOver.
use Rattle.std.proofs.Common.{◌≡◌, ℕ, ◌+◌, ◌<◌, ◌≤◌, Bool, true, false, ◌&&◌, cond, [], ◌∷◌, Option, Some, None, refl, arith, ap, sym, subst, ◌∙◌}
use Rattle.std.specs.Prelude.{◌==◌, nat_lt, is_some}
use Rattle.std.proofs.lemmas.Bool.{eqb-true, false≢true, and_parts}
use Rattle.scsi_cmd.specs.declared.Request.{Request}
use Rattle.scsi_cmd.specs.declared.Request.TheVariants.{Execute, Manage}
use Rattle.solo_model.specs.declared.TaskAnswer.{TaskAnswer}
use Rattle.solo_model.specs.declared.TaskAnswer.TheVariants.{WithStatus, WithResponse}
use Rattle.device_server.specs.declared.Answer.TheVariants.{Good, Check}
use Rattle.solo_model.specs.declared.TaskProgress.TheVariants.{Moving, Ended}
use Rattle.solo_model.specs.declared.Phase.{Phase}
use Rattle.solo_model.specs.declared.Phase.TheVariants.{Queued, Begun, Sent, Gone}
use Rattle.shared_machine.specs.Tests.{is_over, is_pending, is_seen}
use Rattle.uas_profile.specs.declared.Place.{Place}
use Rattle.uas_profile.specs.declared.TdState.{TdState}
use Rattle.uas_profile.specs.declared.TdState.TheVariants.{Pending, Seen, LeftOver, Retired}
use Rattle.shared_machine.specs.declared.Td.{Td}
use Rattle.shared_machine.specs.declared.Completion.{Completion}
use Rattle.shared_machine.specs.declared.Completion.TheVariants.{CommandDone, DataDone, StatusDone, EngineDone}
use Rattle.shared_machine.specs.Td.{is_in_ring, Entry, pushed, is_data_over, has_trb, is_awaited, is_ready, data_trbs, with_trb_taken}
use Rattle.shared_machine.specs.Td.{with_event_seen, left_over_td, left_over_data, data_after_answer, data_after_status}
use Rattle.shared_machine.specs.Part.{event_place, seen_by, seen_data_td}
use Rattle.shared_machine.specs.Soundness.{one_if, awaited_data}
use Rattle.machine_invariant.specs.Matched.{command_events, data_events, status_events, waiting_command, awaited_command, awaited_status}
use Rattle.machine_invariant.specs.Matched.{awaited_data_of, IsCommandTd, IsStatusTd, IsShortTd, IsWithinTd, IsAnsweredTd, IsDataTd}
use Rattle.machine_invariant.specs.Matched.{IsMatchedEntry, IsPhaseOf, IsAwaitedOrSeen, IsGivenUp, awaits_data, awaits_event}
use Rattle.machine_invariant.proofs.MatchedPlaces.{one_self}
use Rattle.machine_invariant.proofs.MatchedTds.{TdGoesOn, TdsGoOn, td-same, td-taken, td-seen, td-left}
use Rattle.machine_invariant.proofs.MatchedTasks.{IsStepped}

-- SEND

-- an entry whose answer was handed over
abbrev pub sent_to : Entry → TaskAnswer → Entry
sent_to entry answer = record entry { task = record entry.task { phase = Sent answer }; status_td = with_trb_taken entry.status_td }

-- an answer that is handed over is one that the request may have
pub sent-answers : (request : Request) (answer : TaskAnswer) → IsPhaseOf request (Begun (Ended answer)) → IsPhaseOf request (Sent answer)
sent-answers (Execute op) answer is = is
sent-answers (Manage what noted) answer is = is

pub send-stepped : {tags : ℕ} (place : Place) (entry : Entry) (answer : TaskAnswer) → entry.task.phase ≡ Begun (Ended answer) → IsMatchedEntry tags place.slot entry →
    IsStepped tags place [] (StatusDone place ∷ []) entry (sent_to entry answer)
send-stepped {tags} place entry answer ended sound =
    let command : entry.command_td.consumed ≡ 1 = subst (λ p. IsCommandTd p entry.command_td) ended sound.command in
    let status : entry.status_td ≡ pushed = subst (λ p. IsStatusTd p entry.status_td) ended sound.status in
    let before : one_if (is_awaited entry.status_td 1) ≡ 0 = ap (λ td. one_if (is_awaited td 1)) status in
    let after : one_if (is_awaited (with_trb_taken entry.status_td) 1) ≡ 1 = ap (λ td. one_if (is_awaited (with_trb_taken td) 1)) status in
    record {
      messages = omega arith;
      carried = omega arith;
      moved = omega arith;
      sent = omega (arith, one_self place, before, after);
      ready = refl;
      sound = record {
        asks = sound.asks;
        answers = sent-answers entry.task.request answer (subst (λ p. IsPhaseOf entry.task.request p) ended sound.answers);
        command = command;
        status = (ap (λ (td : Td). td.consumed + 1) status, subst (λ (td : Td). IsAwaitedOrSeen td.state) (sym status) tt);
        chunks = subst (λ p. IsDataTd (data_trbs entry.task.request) p entry.data_td) ended sound.chunks;
        moves = sound.moves;
        small = sound.small;
      };
    }

-- the status TD alone changes, which was pending
pub send-tds : {tags : ℕ} (slot : ℕ) (entry : Entry) (answer : TaskAnswer) → entry.task.phase ≡ Begun (Ended answer) → IsMatchedEntry tags slot entry
    → TdsGoOn entry (sent_to entry answer)
send-tds {tags} slot entry answer ended sound = record {
  request = refl;
  status = td-taken 1 entry.status_td (ap (λ (td : Td). td.state) (subst (λ p. IsStatusTd p entry.status_td) ended sound.status));
  data_tds = td-same (data_trbs entry.task.request) entry.data_td;
}

-- EVENT

-- an entry of which an event was taken: as much less is awaited, and it wasn't ready
pub record IsCountedOut (tags : ℕ) (event : Completion) (old new : Entry) : Type 0 where
  pub messages : waiting_command (Some old) ≡ waiting_command (Some new)
  pub carried : awaited_command (Some old) ≡ command_events (event_place event) (event ∷ []) + awaited_command (Some new)
  pub moved : awaited_data_of (Some old) ≡ data_events (event_place event) (event ∷ []) + awaited_data_of (Some new)
  pub sent : awaited_status (Some old) ≡ status_events (event_place event) (event ∷ []) + awaited_status (Some new)
  pub ready : one_if (is_ready old) ≡ 0
  pub sound : IsMatchedEntry tags (event_place event).slot new

-- an entry whose event the host has seen
pub record IsSeenAs (tags : ℕ) (event : Completion) (old new : Entry) : Type 0 where
  pub seen : seen_by event old ≡ Some new
  pub counts : IsCountedOut tags event old new
  pub tds : TdsGoOn old new

-- a TD that is awaited is pending, and has no TRB left
pub awaited-spent : (td : Td) (trbs : ℕ) → is_awaited td trbs ≡ true → td.consumed ≡ trbs
awaited-spent td trbs is = eqb-true td.consumed trbs (and_parts (is_pending td.state) (td.consumed == trbs) is).1

-- a TD whose one TRB was taken has none left
pub taken-none : (td : Td) → td.consumed ≡ 1 → one_if (has_trb td 1) ≡ 0
taken-none td is =
    ap (λ n. one_if (is_in_ring td.state && nat_lt n 1)) is ∙ elim (is_in_ring td.state) as (λ b. one_if (b && false) ≡ 0) [
      | true ↦ refl
      | false ↦ refl
    ]

pub pending-is : (state : TdState) → is_pending state ≡ true → state ≡ Pending
pending-is Pending is = refl
pending-is Seen is = absurd (false≢true is)
pending-is LeftOver is = absurd (false≢true is)
pending-is Retired is = absurd (false≢true is)

pub awaited-pends : (td : Td) (trbs : ℕ) → is_awaited td trbs ≡ true → td.state ≡ Pending
awaited-pends td trbs is = pending-is td.state (and_parts (is_pending td.state) (td.consumed == trbs) is).0

-- a TD as it is pushed isn't awaited
pushed-unawaited : (td : Td) → td ≡ pushed → is_awaited td 1 ≡ true → ⊥
pushed-unawaited td is awaited = false≢true (sym (ap (λ t. is_awaited t 1) is) ∙ awaited)

-- no TRB of it is in the ring
pub awaited-taken : (td : Td) → is_awaited td 1 ≡ true → one_if (has_trb td 1) ≡ 0
awaited-taken td awaited =
    ap (λ state. one_if (has_trb (record td { state = state }) 1)) (awaited-pends td 1 awaited)
    ∙ ap (λ n. one_if (nat_lt n 1)) (awaited-spent td 1 awaited)

command-seen_td : (phase : Phase) (td : Td) → is_awaited td 1 ≡ true → IsCommandTd phase td → IsCommandTd phase (with_event_seen td)
command-seen_td Queued td awaited is = absurd (pushed-unawaited td is awaited)
command-seen_td (Begun (Moving chunk)) td awaited is = is
command-seen_td (Begun (Ended answer)) td awaited is = is
command-seen_td (Sent answer) td awaited is = is
command-seen_td Gone td awaited is = is

command-seen : {tags : ℕ} (place : Place) (entry : Entry) → is_awaited entry.command_td 1 ≡ true → IsMatchedEntry tags place.slot entry →
    IsSeenAs tags (CommandDone place) entry (record entry { command_td = with_event_seen entry.command_td })
command-seen {tags} place entry awaited sound =
    let pends : entry.command_td.state ≡ Pending = awaited-pends entry.command_td 1 awaited in
    record {
      seen = ap (λ b. cond b (Some (record entry { command_td = with_event_seen entry.command_td })) None) awaited;
      counts = record {
        messages = awaited-taken entry.command_td awaited;
        carried = omega (arith, one_self place, ap one_if awaited);
        moved = omega arith;
        sent = omega arith;
        ready = ap (λ state. one_if (is_seen state && (is_over entry.status_td.state && is_data_over entry.data_td))) pends;
        sound = record {
          asks = sound.asks;
          answers = sound.answers;
          command = command-seen_td entry.task.phase entry.command_td awaited sound.command;
          status = sound.status;
          chunks = sound.chunks;
          moves = sound.moves;
          small = sound.small;
        };
      };
      tds = record { request = refl; status = td-same 1 (Some entry.status_td); data_tds = td-same (data_trbs entry.task.request) entry.data_td };
    }

-- a data TD that is awaited has been moved whole
data-seen_answered : (trbs : ℕ) (answer : TaskAnswer) (td : Td) → IsAnsweredTd trbs answer (Some td) → IsAnsweredTd trbs answer (Some (with_event_seen td))
data-seen_answered trbs (WithStatus Good) td is = is
data-seen_answered trbs (WithStatus (Check sense)) td is = ((λ pends. absurd (false≢true pends)), is.1)
data-seen_answered trbs (WithResponse code) td is = is

data-seen_td : (trbs : ℕ) (phase : Phase) (td : Td) → td.consumed ≡ trbs → IsDataTd trbs phase (Some td) → IsDataTd trbs phase (Some (with_event_seen td))
data-seen_td trbs Queued td spent is = absurd (omega (arith, spent, is.1, is.2))
data-seen_td trbs (Begun (Moving chunk)) td spent is = absurd (omega (arith, spent, is.1, is.2))
data-seen_td trbs (Begun (Ended answer)) td spent is = data-seen_answered trbs answer td is
data-seen_td trbs (Sent answer) td spent is = data-seen_answered trbs answer td is
data-seen_td trbs Gone td spent is = is

pub last_false : (a b : Bool) → one_if (a && (b && false)) ≡ 0
last_false true true = refl
last_false true false = refl
last_false false b = refl

pub middle_false : (a b : Bool) → one_if (a && (false && b)) ≡ 0
middle_false true b = refl
middle_false false b = refl

data-seen : {tags : ℕ} (place : Place) (entry : Entry) (td : Td) → entry.data_td ≡ Some td → is_awaited td (data_trbs entry.task.request) ≡ true
    → IsMatchedEntry tags place.slot entry →
    IsSeenAs tags (DataDone place) entry (record entry { data_td = Some (with_event_seen td) })
data-seen {tags} place entry td is awaited sound =
    let trbs : ℕ = data_trbs entry.task.request in
    let pends : td.state ≡ Pending = awaited-pends td trbs awaited in
    record {
      seen = ap (λ t. seen_data_td entry t) is ∙ ap (λ b. cond b (Some (record entry { data_td = Some (with_event_seen td) })) None) awaited;
      counts = record {
        messages = refl;
        carried = omega arith;
        moved = omega (arith, one_self place, ap (λ t. awaited_data (data_trbs entry.task.request) t) is, ap one_if awaited);
        sent = omega arith;
        ready = ap (λ t. one_if (is_seen entry.command_td.state && (is_over entry.status_td.state && is_data_over t))) is
            ∙ ap (λ state. one_if (is_seen entry.command_td.state && (is_over entry.status_td.state && is_over state))) pends
            ∙ last_false (is_seen entry.command_td.state) (is_over entry.status_td.state);
        sound = record {
          asks = sound.asks;
          answers = sound.answers;
          command = sound.command;
          status = sound.status;
          chunks = data-seen_td trbs entry.task.phase td (awaited-spent td trbs awaited)
              (subst (λ t. IsDataTd (data_trbs entry.task.request) entry.task.phase t) is sound.chunks);
          moves = sym (ap (λ (t : Option Td). is_some t) is) ∙ sound.moves;
          small = sound.small;
        };
      };
      tds = record {
        request = refl;
        status = td-same 1 (Some entry.status_td);
        data_tds = subst (λ t. TdGoesOn (data_trbs entry.task.request) t (Some (with_event_seen td))) (sym is) (td-seen trbs td pends);
      };
    }

status-seen_td : (phase : Phase) (td : Td) → is_awaited td 1 ≡ true → IsStatusTd phase td → IsStatusTd phase (with_event_seen td)
status-seen_td Queued td awaited is = absurd (pushed-unawaited td is awaited)
status-seen_td (Begun (Moving chunk)) td awaited is = absurd (pushed-unawaited td is awaited)
status-seen_td (Begun (Ended answer)) td awaited is = absurd (pushed-unawaited td is awaited)
status-seen_td (Sent answer) td awaited is = (is.0, tt)
status-seen_td Gone td awaited is =
    let none : td.consumed ≡ 0 = subst (λ state. IsGivenUp td.consumed state) (awaited-pends td 1 awaited) is in
    absurd (omega (arith, none, awaited-spent td 1 awaited))

-- a TD that may be left over: it isn't pending then
left-short : (trbs : ℕ) (td : Td) → IsShortTd trbs (Some (left_over_td td))
left-short trbs td =
    elim (is_pending td.state) as (λ b. is_pending td.state ≡ b → is_pending (cond b (record td { state = LeftOver }) td).state ≡ true
    → (cond b (record td { state = LeftOver }) td).consumed < trbs) [
      | true ↦ λ is pends. absurd (false≢true pends)
      | false ↦ λ is pends. absurd (false≢true (sym is ∙ pends))
    ] refl

left-unawaited : (trbs : ℕ) (td : Td) → one_if (is_awaited (left_over_td td) trbs) ≡ 0
left-unawaited trbs td =
    elim (is_pending td.state) as (λ b. is_pending td.state ≡ b → one_if (is_awaited (cond b (record td { state = LeftOver }) td) trbs) ≡ 0) [
      | true ↦ λ is. refl
      | false ↦ λ is. ap (λ b. one_if (b && (td.consumed == trbs))) is
    ] refl

short-unawaited : (trbs : ℕ) (td : Td) → IsShortTd trbs (Some td) → one_if (is_awaited td trbs) ≡ 0
short-unawaited trbs td is =
    elim (is_awaited td trbs) as (λ b. is_awaited td trbs ≡ b → one_if b ≡ 0) [
      | true ↦ λ awaited. absurd (omega (arith, awaited-spent td trbs awaited, is (and_parts (is_pending td.state) (td.consumed == trbs) awaited).0))
      | false ↦ λ awaited. refl
    ] refl

check-left : (trbs : ℕ) (td : Option Td) → IsShortTd trbs (left_over_data td)
check-left trbs None = tt
check-left trbs (Some td) = left-short trbs td

-- as many TRBs of it are taken
left-consumed : (td : Td) → (left_over_td td).consumed ≡ td.consumed
left-consumed td = elim (is_pending td.state) as (λ b. (cond b (record td { state = LeftOver }) td).consumed ≡ td.consumed) [
  | true ↦ refl
  | false ↦ refl
]

pub left-within : (trbs : ℕ) (td : Option Td) → IsWithinTd trbs td → IsWithinTd trbs (left_over_data td)
left-within trbs None is = tt
left-within trbs (Some td) is = subst (λ n. n ≤ trbs) (sym (left-consumed td)) is

-- what CHECK CONDITION leaves over wasn't awaited
pub check-awaited : (trbs : ℕ) (td : Option Td) → IsShortTd trbs td → awaited_data trbs (left_over_data td) ≡ awaited_data trbs td
check-awaited trbs None is = refl
check-awaited trbs (Some td) is = left-unawaited trbs td ∙ sym (short-unawaited trbs td is)

pub check-there : (td : Option Td) → is_some (left_over_data td) ≡ is_some td
check-there None = refl
check-there (Some td) = refl

-- the data TD once it may be left over, was passed or was retired
pub record IsLeft (trbs : ℕ) (phase : Phase) (old new : Option Td) : Type 0 where
  pub chunks : IsDataTd trbs phase new
  pub awaited : awaited_data trbs new ≡ awaited_data trbs old
  pub there : is_some new ≡ is_some old

-- it may be left over then, where it is short
answer-td : (trbs : ℕ) (answer : TaskAnswer) (td : Option Td) → IsAnsweredTd trbs answer td → TdGoesOn trbs td (data_after_answer answer td)
answer-td trbs (WithStatus Good) td is = td-same trbs td
answer-td trbs (WithStatus (Check sense)) None is = td-same trbs None
answer-td trbs (WithStatus (Check sense)) (Some td) is = td-left trbs td is.0
answer-td trbs (WithResponse code) td is = td-same trbs td

status-td : (trbs : ℕ) (phase : Phase) (td : Option Td) → IsDataTd trbs phase td → TdGoesOn trbs td (data_after_status phase td)
status-td trbs Queued td is = td-same trbs td
status-td trbs (Begun progress) td is = td-same trbs td
status-td trbs (Sent answer) td is = answer-td trbs answer td is
status-td trbs Gone td is = td-same trbs td

answer-left : (trbs : ℕ) (answer : TaskAnswer) (td : Option Td) → IsAnsweredTd trbs answer td → IsLeft trbs (Sent answer) td (data_after_answer answer td)
answer-left trbs (WithStatus Good) td is = record { chunks = is; awaited = refl; there = refl }
answer-left trbs (WithStatus (Check sense)) td is =
    record { chunks = (check-left trbs td, left-within trbs td is.1); awaited = check-awaited trbs td is.0; there = check-there td }
answer-left trbs (WithResponse code) td is = record { chunks = is; awaited = refl; there = refl }

status-left : (trbs : ℕ) (phase : Phase) (td : Option Td) → IsDataTd trbs phase td → IsLeft trbs phase td (data_after_status phase td)
status-left trbs Queued td is = record { chunks = is; awaited = refl; there = refl }
status-left trbs (Begun (Moving chunk)) td is = record { chunks = is; awaited = refl; there = refl }
status-left trbs (Begun (Ended answer)) td is = record { chunks = is; awaited = refl; there = refl }
status-left trbs (Sent answer) td is = answer-left trbs answer td is
status-left trbs Gone td is = record { chunks = is; awaited = refl; there = refl }

abbrev status_seen : Entry → Entry
status_seen entry = record entry { status_td = with_event_seen entry.status_td; data_td = data_after_status entry.task.phase entry.data_td }

status-seen : {tags : ℕ} (place : Place) (entry : Entry) → is_awaited entry.status_td 1 ≡ true → IsMatchedEntry tags place.slot entry
    → IsSeenAs tags (StatusDone place) entry (status_seen entry)
status-seen {tags} place entry awaited sound =
    let pends : entry.status_td.state ≡ Pending = awaited-pends entry.status_td 1 awaited in
    let left : IsLeft (data_trbs entry.task.request) entry.task.phase entry.data_td (data_after_status entry.task.phase entry.data_td) =
    status-left (data_trbs entry.task.request) entry.task.phase entry.data_td sound.chunks in
    record {
      seen = ap (λ b. cond b (Some (status_seen entry)) None) awaited;
      counts = record {
        messages = refl;
        carried = omega arith;
        moved = omega (arith, left.awaited);
        sent = omega (arith, one_self place, ap one_if awaited);
        ready = ap (λ state. one_if (is_seen entry.command_td.state && (is_over state && is_data_over entry.data_td))) pends
            ∙ middle_false (is_seen entry.command_td.state) (is_data_over entry.data_td);
        sound = record {
          asks = sound.asks;
          answers = sound.answers;
          command = sound.command;
          status = status-seen_td entry.task.phase entry.status_td awaited sound.status;
          chunks = left.chunks;
          moves = left.there ∙ sound.moves;
          small = sound.small;
        };
      };
      tds = record {
        request = refl;
        status = td-seen 1 entry.status_td pends;
        data_tds = status-td (data_trbs entry.task.request) entry.task.phase entry.data_td sound.chunks;
      };
    }

-- the entry that awaits an event, once the host has seen it
pub record HasSeen (tags : ℕ) (event : Completion) (old : Entry) : Type 0 where
  pub new : Entry
  pub step : IsSeenAs tags event old new

data-awaits : {tags : ℕ} (place : Place) (entry : Entry) (td : Option Td) → entry.data_td ≡ td → awaits_data (data_trbs entry.task.request) td ≡ true
    → IsMatchedEntry tags place.slot entry → HasSeen tags (DataDone place) entry
data-awaits {tags} place entry None is awaits sound = absurd (false≢true awaits)
data-awaits {tags} place entry (Some td) is awaits sound = record
    { new = record entry { data_td = Some (with_event_seen td) }; step = data-seen place entry td is awaits sound }

pub event-seen : {tags : ℕ} (event : Completion) (entry : Entry) → awaits_event event entry ≡ true → IsMatchedEntry tags (event_place event).slot entry → HasSeen tags event entry
event-seen {tags} (CommandDone place) entry awaits sound =
    record { new = record entry { command_td = with_event_seen entry.command_td }; step = command-seen place entry awaits sound }
event-seen {tags} (DataDone place) entry awaits sound = data-awaits place entry entry.data_td refl awaits sound
event-seen {tags} (StatusDone place) entry awaits sound = record { new = status_seen entry; step = status-seen place entry awaits sound }
event-seen {tags} (EngineDone place) entry awaits sound = absurd (false≢true awaits)
