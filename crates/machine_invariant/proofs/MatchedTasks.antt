-- An entry whose unit is received, or whose chunk is moved, stays matched. Cited by MatchedEntries.
use Rattle.std.proofs.Common.{◌≡◌, ℕ, ◌+◌, ◌-◌, ◌/◌, ◌<◌, ◌≤◌, Bool, true, false, ◌&&◌, cond, List, [], ◌∷◌, Option, Some, None, refl, arith, ap, sym, subst, ◌∙◌}
use Rattle.std.specs.Prelude.{◌==◌, nat_lt, option_to_list, is_some}
use Rattle.std.proofs.lemmas.Bool.{ltb-true, ne_eqb, false≢true, and_parts}
use Rattle.uas_profile.specs.declared.TheConstants.{CHUNK_BYTES}
use Rattle.block_unit.specs.BlockMaps.{BlockMaps}
use Rattle.scsi_cmd.specs.Request.{is_command}
use Rattle.scsi_cmd.specs.declared.Op.{Op}
use Rattle.scsi_cmd.specs.Op.{moved_bytes}
use Rattle.scsi_cmd.specs.declared.Request.{Request}
use Rattle.scsi_cmd.specs.declared.Task.{Task}
use Rattle.scsi_cmd.specs.declared.Task.TheVariants.{Abort, Reset, Query}
use Rattle.scsi_cmd.specs.declared.Request.TheVariants.{Execute, Manage}
use Rattle.scsi_cmd.specs.Work.{reports_attention}
use Rattle.device_server.specs.declared.Answer.TheVariants.{Good, Check}
use Rattle.solo_model.specs.declared.TaskAnswer.TheVariants.{WithStatus, WithResponse}
use Rattle.solo_model.specs.declared.TaskProgress.{TaskProgress}
use Rattle.solo_model.specs.declared.TaskProgress.TheVariants.{Moving, Ended}
use Rattle.device_server.specs.Laws.{after_chunk, begun_progress}
use Rattle.solo_model.specs.declared.Phase.{Phase}
use Rattle.solo_model.specs.declared.Phase.TheVariants.{Queued, Begun, Sent, Gone}
use Rattle.solo_model.specs.TaggedTask.{TaggedTask, buffer_after, carried_request, of_command, progress_left, response_to}
use Rattle.shared_machine.specs.Tests.{is_over, is_pending, is_seen}
use Rattle.uas_profile.specs.declared.Place.{Place}
use Rattle.shared_machine.specs.declared.Td.{Td}
use Rattle.shared_machine.specs.declared.Completion.{Completion}
use Rattle.shared_machine.specs.declared.Completion.TheVariants.{CommandDone, DataDone}
use Rattle.shared_machine.specs.Td.{Entry, pushed, is_data_over, has_trb, is_awaited, is_ready, data_trbs, with_trb_taken}
use Rattle.shared_machine.specs.Part.{data_td_after, entries_after, took_trb, is_last_trb}
use Rattle.shared_machine.specs.Soundness.{one_if, awaited_data}
use Rattle.machine_invariant.specs.Matched.{same_place, times, command_events, data_events, status_events, waiting_command, awaited_command, awaited_status}
use Rattle.machine_invariant.specs.Matched.{awaited_data_of, IsCommandTd, IsStatusTd, IsMovingTd, IsWholeTd, IsShortTd, IsWithinTd, IsDataTd}
use Rattle.machine_invariant.specs.Matched.{IsMatchedEntry, IsCommandPhase, IsManagedPhase, IsPhaseOf, IsResponseTo, retired_places}
use Rattle.machine_invariant.proofs.MatchedPlaces.{one_self}
use Rattle.machine_invariant.proofs.MatchedTds.{TdGoesOn, TdsGoOn, td-same, td-taken}

-- an entry that became another one: the messages popped and the events posted for its place
pub record IsStepped (tags : ℕ) (place : Place) (popped : List Place) (posted : List Completion) (old new : Entry) : Type 0 where
  pub messages : waiting_command (Some old) ≡ times place popped + waiting_command (Some new)
  pub carried : awaited_command (Some old) + command_events place posted ≡ awaited_command (Some new)
  pub moved : awaited_data_of (Some old) + data_events place posted ≡ awaited_data_of (Some new)
  pub sent : awaited_status (Some old) + status_events place posted ≡ awaited_status (Some new)
  pub ready : is_ready new ≡ is_ready old
  pub sound : IsMatchedEntry tags place.slot new

-- the operation of a command
pub asked_op : (request : Request) → is_command request ≡ true → (op : Op) × (request ≡ Execute op)
asked_op (Execute op) command = (op, refl)
asked_op (Manage what noted) command = absurd (false≢true command)

-- what moves data is a command
pub moving_op : (request : Request) (phase : Phase) (chunk : ℕ) → phase ≡ Begun (Moving chunk) → IsPhaseOf request phase → (op : Op) × (request ≡ Execute op)
moving_op (Execute op) phase chunk moving answers = (op, refl)
moving_op (Manage what noted) phase chunk moving answers = absurd (subst (λ p. IsManagedPhase what p) moving answers)

-- a command may be at any phase, but for one with a response
pub command-answers : (request : Request) (op : Op) (phase : Phase) → request ≡ Execute op → IsCommandPhase phase → IsPhaseOf request phase
command-answers request op phase is fine = subst (λ r. IsPhaseOf r phase) (sym is) fine

-- CARRY

-- a command changes nothing of the client's others
pub entries_after-command : (request : Request) (entries : List (Option Entry)) → is_command request ≡ true → entries_after request entries ≡ entries
entries_after-command (Execute op) entries command = refl
entries_after-command (Manage what noted) entries command = absurd (false≢true command)

-- a command TD whose TRB is in the ring is one of a queued command
pub has_trb-queued : (phase : Phase) (td : Td) → IsCommandTd phase td → has_trb td 1 ≡ true → phase ≡ Queued
has_trb-queued Queued td is has = refl
has_trb-queued (Begun (Moving chunk)) td is has = absurd (omega (arith, is, ltb-true td.consumed 1 (and_parts _ (nat_lt td.consumed 1) has).1))
has_trb-queued (Begun (Ended answer)) td is has = absurd (omega (arith, is, ltb-true td.consumed 1 (and_parts _ (nat_lt td.consumed 1) has).1))
has_trb-queued (Sent answer) td is has = absurd (omega (arith, is, ltb-true td.consumed 1 (and_parts _ (nat_lt td.consumed 1) has).1))
has_trb-queued Gone td is has = absurd (omega (arith, is, ltb-true td.consumed 1 (and_parts _ (nat_lt td.consumed 1) has).1))

-- a TD that lacks a TRB is short
pub moving-short : (trbs chunk : ℕ) (td : Option Td) → IsMovingTd trbs chunk td → IsShortTd trbs td
moving-short trbs chunk None is = tt
moving-short trbs chunk (Some td) is = λ pends. omega (arith, is.1, is.2)

-- of a TD that is moved no more TRBs were taken than there are
pub moving-within : (trbs chunk : ℕ) (td : Option Td) → IsMovingTd trbs chunk td → IsWithinTd trbs td
moving-within trbs chunk None is = tt
moving-within trbs chunk (Some td) is = omega (arith, is.1, is.2)

-- a TD of no TRB isn't there
pub moving-none : (bytes chunk : ℕ) (td : Option Td) → bytes ≡ 0 → IsMovingTd ((bytes + (CHUNK_BYTES - 1)) / CHUNK_BYTES) chunk td → IsWholeTd ((bytes + (CHUNK_BYTES - 1)) / CHUNK_BYTES) td
moving-none bytes chunk None none is = tt
moving-none bytes chunk (Some td) none is = absurd (omega (arith, none, is.2))

pub moving-nothing : (trbs chunk : ℕ) (td : Option Td) → trbs ≡ 0 → IsMovingTd trbs chunk td → IsWholeTd trbs td
moving-nothing trbs chunk None none is = tt
moving-nothing trbs chunk (Some td) none is = absurd (omega (arith, none, is.2))

-- an entry whose request the device received
abbrev pub carried_to : Entry → TaggedTask → Entry
carried_to entry task = record entry { task = task; command_td = with_trb_taken entry.command_td }

-- its response
pub response-fits : (what : Task) (found : Bool) → IsResponseTo what (response_to what found)
response-fits (Abort tag) found = tt
response-fits Reset found = tt
response-fits (Query tag) true = refl
response-fits (Query tag) false = tt

pub received : {tags : ℕ} (unit : BlockMaps) (found : Bool) (slot : ℕ) (entry : Entry) (request : Request) → entry.task.request ≡ request → entry.command_td ≡ pushed
    → entry.status_td ≡ pushed → IsMovingTd (data_trbs entry.task.request) 0 entry.data_td → IsMatchedEntry tags slot entry
    → IsMatchedEntry tags slot (carried_to entry (carried_request unit found entry.task request).1)
received {tags} unit found slot entry (Execute op) is command status chunks sound =
    let one : (with_trb_taken entry.command_td).consumed ≡ 1 = ap (λ (td : Td). td.consumed + 1) command in
    let answers : (phase : Phase) → IsCommandPhase phase → IsPhaseOf entry.task.request phase =
    λ phase fine. command-answers entry.task.request op phase is fine in
    let trbs : data_trbs entry.task.request ≡ (moved_bytes op + (CHUNK_BYTES - 1)) / CHUNK_BYTES = ap data_trbs is in
    begun_progress (λ progress. IsMatchedEntry tags slot (carried_to entry (record entry.task { phase = Begun (of_command progress) }))) unit (reports_attention op) op
    (λ sense. record {
      asks = sound.asks;
      answers = answers (Begun (Ended (WithStatus (Check sense)))) tt;
      command = one;
      status = status;
      chunks = (moving-short (data_trbs entry.task.request) 0 entry.data_td chunks, moving-within (data_trbs entry.task.request) 0 entry.data_td chunks);
      moves = sound.moves;
      small = sound.small;
    })
    (λ none. record {
      asks = sound.asks;
      answers = answers (Begun (Ended (WithStatus Good))) tt;
      command = one;
      status = status;
      chunks = subst (λ n. IsWholeTd n entry.data_td) (sym trbs)
          (moving-none (moved_bytes op) 0 entry.data_td none (subst (λ n. IsMovingTd n 0 entry.data_td) trbs chunks));
      moves = sound.moves;
      small = sound.small;
    })
    (λ some none. record {
      asks = sound.asks;
      answers = answers (Begun (Moving 0)) tt;
      command = one;
      status = status;
      chunks = chunks;
      moves = sound.moves;
      small = sound.small;
    })
received {tags} unit found slot entry (Manage what noted) is command status chunks sound = record {
  asks = sound.asks;
  answers = subst (λ r. IsPhaseOf r (Begun (Ended (WithResponse (response_to what found))))) (sym is) (response-fits what found);
  command = ap (λ (td : Td). td.consumed + 1) command;
  status = status;
  chunks = moving-nothing (data_trbs entry.task.request) 0 entry.data_td (ap data_trbs is) chunks;
  moves = sound.moves;
  small = sound.small;
}

-- the device receives the request
pub carry-stepped : {tags : ℕ} (unit : BlockMaps) (found : Bool) (place : Place) (entry : Entry) → entry.task.phase ≡ Queued → IsMatchedEntry tags place.slot entry →
    IsStepped tags place (place ∷ []) (CommandDone place ∷ []) entry
    (carried_to entry (carried_request unit found entry.task entry.task.request).1)
carry-stepped {tags} unit found place entry queued sound =
    let command : entry.command_td ≡ pushed = subst (λ p. IsCommandTd p entry.command_td) queued sound.command in
    let status : entry.status_td ≡ pushed = subst (λ p. IsStatusTd p entry.status_td) queued sound.status in
    let chunks : IsMovingTd (data_trbs entry.task.request) 0 entry.data_td = subst
    (λ p. IsDataTd (data_trbs entry.task.request) p entry.data_td) queued sound.chunks in
    let self = one_self place in
    let waited : one_if (has_trb entry.command_td 1) ≡ 1 = ap (λ td. one_if (has_trb td 1)) command in
    let waits : one_if (has_trb (with_trb_taken entry.command_td) 1) ≡ 0 = ap (λ td. one_if (has_trb (with_trb_taken td) 1)) command in
    let before : one_if (is_awaited entry.command_td 1) ≡ 0 = ap (λ td. one_if (is_awaited td 1)) command in
    let after : one_if (is_awaited (with_trb_taken entry.command_td) 1) ≡ 1 = ap (λ td. one_if (is_awaited (with_trb_taken td) 1)) command in
    record {
      messages = omega (arith, self, waited, waits);
      carried = omega (arith, self, before, after);
      moved = omega arith;
      sent = omega arith;
      ready = refl;
      sound = received unit found place.slot entry entry.task.request refl command status chunks sound;
    }

-- no TD but the command's changes
pub carried_request-asked : (unit : BlockMaps) (found : Bool) (task : TaggedTask) (request : Request)
    → (carried_request unit found task request).1.request ≡ task.request
carried_request-asked unit found task (Execute op) = refl
carried_request-asked unit found task (Manage what noted) = refl

pub carry-tds : (unit : BlockMaps) (found : Bool) (entry : Entry)
    → TdsGoOn entry (carried_to entry (carried_request unit found entry.task entry.task.request).1)
carry-tds unit found entry = record {
  request = carried_request-asked unit found entry.task entry.task.request;
  status = td-same 1 (Some entry.status_td);
  data_tds = td-same (data_trbs entry.task.request) entry.data_td;
}

-- MOVE

-- a data TD is there or isn't, whatever is taken of it
pub td-there : (took : Bool) (td : Option Td) → is_some (data_td_after took td) ≡ is_some td
td-there took None = refl
td-there took (Some td) = refl

pub td-over : (took : Bool) (td : Option Td) → is_data_over (data_td_after took td) ≡ is_data_over td
td-over took None = refl
td-over true (Some td) = refl
td-over false (Some td) = refl

-- a TD with a TRB left isn't awaited
pub unawaited : (td : Td) (trbs : ℕ) → (td.consumed ≡ trbs → ⊥) → one_if (is_awaited td trbs) ≡ 0
unawaited td trbs apart =
    ap (λ b. one_if (is_pending td.state && b)) (ne_eqb td.consumed trbs apart)
    ∙ elim (is_pending td.state) as (λ b. one_if (b && false) ≡ 0) [
      | true ↦ refl
      | false ↦ refl
    ]

-- the event is posted with the TRB after which it is awaited
pub chunk-counted : (trbs chunk : ℕ) (took : Bool) (td : Option Td) → IsMovingTd trbs chunk td →
    awaited_data trbs td + one_if (is_last_trb took trbs td) ≡ awaited_data trbs (data_td_after took td)
chunk-counted trbs chunk took None is = omega arith
chunk-counted trbs chunk false (Some td) is = omega arith
chunk-counted trbs chunk true (Some td) is =
    let before : one_if (is_awaited td trbs) ≡ 0 = unawaited td trbs (λ same. omega (arith, is.1, is.2)) in
    let after : one_if (is_pending td.state && (td.consumed + 1 == trbs)) ≡ one_if (td.consumed + 1 == trbs) = ap
    (λ state. one_if (is_pending state && (td.consumed + 1 == trbs))) is.0 in
    omega (arith, before, after)

pub chunk-next : (trbs chunk : ℕ) (td : Option Td) → IsMovingTd trbs chunk td → chunk + 1 < trbs → IsMovingTd trbs (chunk + 1) (data_td_after true td)
chunk-next trbs chunk None is more = tt
chunk-next trbs chunk (Some td) is more = (is.0, ap (λ n. n + 1) is.1, more)

pub chunk-whole : (trbs chunk : ℕ) (td : Option Td) → IsMovingTd trbs chunk td → trbs ≤ chunk + 1 → IsWholeTd trbs (data_td_after true td)
chunk-whole trbs chunk None is last = tt
chunk-whole trbs chunk (Some td) is last = omega (arith, is.1, is.2, last)

pub chunk-short : (trbs chunk : ℕ) (td : Option Td) → IsMovingTd trbs chunk td → IsShortTd trbs (data_td_after false td) × IsWithinTd trbs (data_td_after false td)
chunk-short trbs chunk None is = (tt, tt)
chunk-short trbs chunk (Some td) is = ((λ pends. omega (arith, is.1, is.2)), omega (arith, is.1, is.2))

-- the event of a data TD, where its last TRB was taken
abbrev pub data_event_if : Bool → Place → List Completion
data_event_if last place = option_to_list (cond {A = Option Completion} last (Some (DataDone place)) None)

pub data_event-own : (last : Bool) (place : Place) → data_events place (data_event_if last place) ≡ one_if last
data_event-own true place = omega (arith, one_self place)
data_event-own false place = refl

pub data_event-no_command : (last : Bool) (place other : Place) → command_events other (data_event_if last place) ≡ 0
data_event-no_command true place other = refl
data_event-no_command false place other = refl

pub data_event-no_status : (last : Bool) (place other : Place) → status_events other (data_event_if last place) ≡ 0
data_event-no_status true place other = refl
data_event-no_status false place other = refl

pub data_event-alone : (last : Bool) (place other : Place) → same_place place other ≡ false → data_events other (data_event_if last place) ≡ 0
data_event-alone true place other apart = omega (arith, ap one_if apart)
data_event-alone false place other apart = refl

-- the events of a data TD name its place alone
pub record IsDataEvent (place : Place) (posted : List Completion) : Type 0 where
  pub carried : (other : Place) → same_place place other ≡ false → command_events other posted ≡ 0
  pub moved : (other : Place) → same_place place other ≡ false → data_events other posted ≡ 0
  pub sent : (other : Place) → same_place place other ≡ false → status_events other posted ≡ 0
  pub retired : retired_places posted ≡ []

pub data_event-no_engine : (last : Bool) (place : Place) → retired_places (data_event_if last place) ≡ []
data_event-no_engine true place = refl
data_event-no_engine false place = refl

pub data_event-is : (last : Bool) (place : Place) → IsDataEvent place (data_event_if last place)
data_event-is last place = record {
  carried = λ other apart. data_event-no_command last place other;
  moved = λ other apart. data_event-alone last place other apart;
  sent = λ other apart. data_event-no_status last place other;
  retired = data_event-no_engine last place;
}

-- an entry whose task moved a chunk
abbrev pub moved_to : Entry → TaggedTask → Entry
moved_to entry task = record entry { task = task; data_td = data_td_after (took_trb task.phase) entry.data_td }

abbrev pub moved_events : Entry → TaggedTask → Place → List Completion
moved_events entry task place = data_event_if (is_last_trb (took_trb task.phase) (data_trbs entry.task.request) entry.data_td) place

-- a step that changes the phase and takes what it takes of the data TD
pub chunk-stepped : {tags : ℕ} (place : Place) (entry : Entry) (chunk : ℕ) (buffer : List ℕ) (phase : Phase) → IsMovingTd (data_trbs entry.task.request) chunk entry.data_td →
    IsMatchedEntry tags place.slot (moved_to entry (record entry.task { buffer = buffer; phase = phase })) →
    IsStepped tags place [] (moved_events entry (record entry.task { buffer = buffer; phase = phase }) place) entry
    (moved_to entry (record entry.task { buffer = buffer; phase = phase }))
chunk-stepped {tags} place entry chunk buffer phase chunks sound =
    let took : Bool = took_trb phase in
    let trbs : ℕ = data_trbs entry.task.request in
    let last : Bool = is_last_trb took trbs entry.data_td in
    record {
      messages = omega arith;
      carried = omega (arith, data_event-no_command last place place);
      moved = omega (arith, data_event-own last place, chunk-counted trbs chunk took entry.data_td chunks);
      sent = omega (arith, data_event-no_status last place place);
      ready = ap (λ b. is_seen entry.command_td.state && (is_over entry.status_td.state && b)) (td-over took entry.data_td);
      sound = sound;
    }

-- a task of an operation once it moved a chunk
abbrev pub chunk_task : BlockMaps → TaggedTask → ℕ → Op → TaggedTask
chunk_task unit task chunk op = record task { buffer = buffer_after unit task.buffer chunk op; phase = Begun (progress_left unit chunk op) }

-- the device moves a chunk
pub move-stepped : {tags : ℕ} (unit : BlockMaps) (place : Place) (entry : Entry) (chunk : ℕ) (op : Op) → entry.task.request ≡ Execute op
    → entry.task.phase ≡ Begun (Moving chunk) → IsMatchedEntry tags place.slot entry →
    IsStepped tags place [] (moved_events entry (chunk_task unit entry.task chunk op) place) entry (moved_to entry (chunk_task unit entry.task chunk op))
move-stepped {tags} unit place entry chunk op is moving sound =
    let command : entry.command_td.consumed ≡ 1 = subst (λ p. IsCommandTd p entry.command_td) moving sound.command in
    let status : entry.status_td ≡ pushed = subst (λ p. IsStatusTd p entry.status_td) moving sound.status in
    let chunks : IsMovingTd (data_trbs entry.task.request) chunk entry.data_td = subst
    (λ p. IsDataTd (data_trbs entry.task.request) p entry.data_td) moving sound.chunks in
    let trbs : data_trbs entry.task.request ≡ (moved_bytes op + (CHUNK_BYTES - 1)) / CHUNK_BYTES = ap data_trbs is in
    let buffer : List ℕ = buffer_after unit entry.task.buffer chunk op in
    let begun : (progress : TaskProgress) → IsCommandPhase (Begun progress)
    → IsDataTd (data_trbs entry.task.request) (Begun progress) (data_td_after (took_trb (Begun progress)) entry.data_td)
    → IsStepped tags place [] (moved_events entry (record entry.task { buffer = buffer; phase = Begun progress }) place) entry
    (moved_to entry (record entry.task { buffer = buffer; phase = Begun progress })) =
    λ progress fine now. chunk-stepped place entry chunk buffer (Begun progress) chunks (record {
      asks = sound.asks;
      answers = command-answers entry.task.request op (Begun progress) is fine;
      command = command;
      status = status;
      chunks = now;
      moves = td-there (took_trb (Begun progress)) entry.data_td ∙ sound.moves;
      small = sound.small;
    }) in
    after_chunk (λ progress. IsStepped tags place [] (moved_events entry (record entry.task { buffer = buffer; phase = Begun (of_command progress) }) place) entry
    (moved_to entry (record entry.task { buffer = buffer; phase = Begun (of_command progress) }))) unit chunk op unit.count
    (λ more. begun (Moving (chunk + 1)) tt (chunk-next (data_trbs entry.task.request) chunk entry.data_td chunks (omega (arith, trbs, more))))
    (λ last. begun (Ended (WithStatus Good)) tt (chunk-whole (data_trbs entry.task.request) chunk entry.data_td chunks (omega (arith, trbs, last))))
    (λ sense. begun (Ended (WithStatus (Check sense))) tt (chunk-short (data_trbs entry.task.request) chunk entry.data_td chunks))

-- the data TD alone changes, which was pending
pub chunk-td : (trbs chunk : ℕ) (took : Bool) (td : Option Td) → IsMovingTd trbs chunk td → TdGoesOn trbs td (data_td_after took td)
chunk-td trbs chunk took None is = td-same trbs None
chunk-td trbs chunk true (Some td) is = td-taken trbs td is.0
chunk-td trbs chunk false (Some td) is = td-same trbs (Some td)

pub move-tds : {tags : ℕ} (unit : BlockMaps) (slot : ℕ) (entry : Entry) (chunk : ℕ) (op : Op) → entry.task.phase ≡ Begun (Moving chunk) → IsMatchedEntry tags slot entry →
    TdsGoOn entry (moved_to entry (chunk_task unit entry.task chunk op))
move-tds {tags} unit slot entry chunk op moving sound =
    let chunks : IsMovingTd (data_trbs entry.task.request) chunk entry.data_td = subst
    (λ p. IsDataTd (data_trbs entry.task.request) p entry.data_td) moving sound.chunks in
    record {
      request = refl;
      status = td-same 1 (Some entry.status_td);
      data_tds = chunk-td (data_trbs entry.task.request) chunk (took_trb (Begun (progress_left unit chunk op))) entry.data_td chunks;
    }
