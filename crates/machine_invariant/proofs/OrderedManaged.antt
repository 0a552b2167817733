-- What a task management noted, as the device receives it and as its response is seen: of the commands that it names those that the device has received, and
-- none of them goes on; and behind its response waits no event of one. Cited by OrderedActs, OrderedCarry
-- and Ordered, and by CommandFits, MatchedSteps and SeenStreams.
use Rattle.std.proofs.Common.{◌≡◌, ℕ, ◌<◌, ◌≤◌, true, false, List, ◌∷◌, Option, Some, None, refl, arith, ap, sym, subst, ◌∙◌}
use Rattle.std.specs.Prelude.{◌==◌, ◌&&◌, nat_lt, slice_get}
use Rattle.std.specs.Option.{option_map_or}
use Rattle.std.proofs.lemmas.Bool.{and_parts, and_from, and_left, and_right, eqb-true, eq-eqb, ne_eqb, false≢true, lt-ltb, ltb-true, false_from_ne_true}
use Rattle.std.proofs.lemmas.Option.{same_Some}
use Rattle.arrayvec.specs.ArrayVec.{ArrayVec}
use Rattle.scsi_cmd.specs.Held.{held_at}
use Rattle.scsi_cmd.specs.Request.{ended_by}
use Rattle.scsi_cmd.specs.declared.Request.TheVariants.{Manage}
use Rattle.scsi_cmd.specs.declared.Task.{Task}
use Rattle.uas_profile.specs.Tags.{task_slot}
use Rattle.solo_model.specs.TaggedTask.{can_go, is_noted}
use Rattle.solo_model.specs.declared.Phase.{Phase}
use Rattle.solo_model.specs.declared.Phase.TheVariants.{Queued, Begun, Sent, Gone}
use Rattle.shared_machine.specs.Tests.{is_pending}
use Rattle.uas_profile.specs.declared.Place.{Place}
use Rattle.uas_profile.specs.declared.TdState.{TdState}
use Rattle.uas_profile.specs.declared.TdState.TheVariants.{Pending, Seen, LeftOver, Retired}
use Rattle.shared_machine.specs.declared.Td.{Td}
use Rattle.shared_machine.specs.declared.Completion.{Completion}
use Rattle.shared_machine.specs.declared.Completion.TheVariants.{StatusDone}
use Rattle.shared_machine.specs.Td.{Entry, has_trb, is_awaited, pushed}
use Rattle.shared_machine.specs.Part.{Part}
use Rattle.shared_machine.specs.Shared.{Shared}
use Rattle.shared_machine.specs.Soundness.{one_if}
use Rattle.machine_invariant.specs.Ordered.{AreBehind, AreRising, HasNoted, NotedBy, is_ended_by, is_queued, names, ends_ticket, ticket_at, under}
use Rattle.machine_invariant.specs.Matched.{same_place, times, data_events, status_events, IsCommandTd, IsGivenUp, IsMatched, IsMatchedAt, IsRequestIn, IsStatusTd}
use Rattle.machine_invariant.proofs.MatchedEntries.{taken-none}
use Rattle.machine_invariant.proofs.MatchedPlaces.{one_self, under-found, one_if-true}
use Rattle.machine_invariant.proofs.OrderedMessages.{later-behind, under-there}
use Rattle.machine_invariant.proofs.OrderedEvents.{unnoted-none}

-- WHAT STANDS AT A PLACE

-- what is so of it
pub here : (state : Shared) (place : Place) (entry : Entry) → IsMatched state → under state.parts place ≡ Some entry → IsMatchedAt state place (Some entry)
here state place entry all is = subst (λ held. IsMatchedAt state place held) is (all.places place)

pub ticket-here : (parts : List Part) (place : Place) (entry : Entry) → under parts place ≡ Some entry → ticket_at parts place ≡ entry.task.ticket
ticket-here parts place entry is = ap (λ held. option_map_or (λ (e : Entry). e.task.ticket) held 0) is

-- places of other slots aren't the same
pub apart-place : (place other : Place) → (place.slot ≡ other.slot → ⊥) → one_if (same_place place other) ≡ 0
apart-place place other apart = ap one_if (and_right (place.client == other.client) (place.slot == other.slot) (ne_eqb place.slot other.slot apart))

-- MESSAGES ARE OF WHAT IS QUEUED

queued-waits : (phase : Phase) (td : Td) → IsCommandTd phase td → is_queued phase ≡ true → one_if (has_trb td 1) ≡ 1
queued-waits Queued td is queued = ap (λ (t : Td). one_if (has_trb t 1)) is
queued-waits (Begun progress) td is queued = absurd (false≢true queued)
queued-waits (Sent answer) td is queued = absurd (false≢true queued)
queued-waits Gone td is queued = absurd (false≢true queued)

pub queued-message : (state : Shared) (place : Place) (entry : Entry) → IsMatched state → under state.parts place ≡ Some entry
    → is_queued entry.task.phase ≡ true → times place state.messages ≡ 1
queued-message state place entry all is queued =
    let at = here state place entry all is in
    at.messages ∙ queued-waits entry.task.phase entry.command_td at.sound.command queued

waits-queued : (phase : Phase) (td : Td) → IsCommandTd phase td → 1 ≤ one_if (has_trb td 1) → is_queued phase ≡ true
waits-queued Queued td is waits = refl
waits-queued (Begun progress) td is waits = absurd (omega (arith, waits, taken-none td is))
waits-queued (Sent answer) td is waits = absurd (omega (arith, waits, taken-none td is))
waits-queued Gone td is waits = absurd (omega (arith, waits, taken-none td is))

-- an entry that a message is of
pub record HasMessage (state : Shared) (place : Place) : Type 0 where
  pub entry : Entry
  pub is : under state.parts place ≡ Some entry
  pub queued : is_queued entry.task.phase ≡ true

waiting-there : (state : Shared) (place : Place) (held : Option Entry) → under state.parts place ≡ held → IsMatchedAt state place held
    → 1 ≤ times place state.messages
    → HasMessage state place
waiting-there state place None is at named = absurd (omega (arith, at.messages, named))
waiting-there state place (Some entry) is at named =
    record { entry = entry; is = is; queued = waits-queued entry.task.phase entry.command_td at.sound.command (omega (arith, at.messages, named)) }

pub message-there : (state : Shared) (place : Place) → IsMatched state → 1 ≤ times place state.messages → HasMessage state place
message-there state place all named = waiting-there state place (under state.parts place) refl (all.places place) named

-- the first message is of the earliest request that is queued
pub message-first : (state : Shared) (place : Place) (rest : List Place) (first : Entry) (other : Place) (second : Entry) → IsMatched state
    → state.messages ≡ place ∷ rest → under state.parts place ≡ Some first → under state.parts other ≡ Some second → is_queued second.task.phase ≡ true
    → place.client ≡ other.client → (place.slot ≡ other.slot → ⊥) → first.task.ticket < second.task.ticket
message-first state place rest first other second all is held_first held_second queued client apart =
    let one : times other state.messages ≡ 1 = queued-message state other second all held_second queued in
    let behind : 1 ≤ times other rest = omega (arith, one, ap (times other) is, apart-place place other apart) in
    let rising : AreRising state.parts (place ∷ rest) = subst (λ messages. AreRising state.parts messages) is all.ordered.messages in
    omega (
      arith,
      later-behind state.parts place rest other rising.0 behind client,
      ticket-here state.parts place first held_first,
      ticket-here state.parts other second held_second,
    )

-- STATUS EVENTS ARE OF WHAT WAS HANDED OVER

given-up : (consumed : ℕ) (state : TdState) → IsGivenUp consumed state → (is_pending state && (consumed == 1)) ≡ true → ⊥
given-up consumed Pending is awaited = let one : consumed ≡ 1 = eqb-true consumed 1 awaited in omega (arith, one, is)
given-up consumed Seen is awaited = false≢true awaited
given-up consumed LeftOver is awaited = false≢true awaited
given-up consumed Retired is awaited = false≢true awaited

pushed-idle : (td : Td) → td ≡ pushed → one_if (is_awaited td 1) ≡ 0
pushed-idle td is = ap (λ (t : Td). one_if (is_awaited t 1)) is

-- the device has handed over the answer
pub record IsHandedOver (phase : Phase) : Type 0 where
  pub received : is_queued phase ≡ false
  pub ended : can_go phase ≡ false

awaited-sent : (phase : Phase) (td : Td) → IsStatusTd phase td → 1 ≤ one_if (is_awaited td 1) → IsHandedOver phase
awaited-sent Queued td is awaited = absurd (omega (arith, awaited, pushed-idle td is))
awaited-sent (Begun progress) td is awaited = absurd (omega (arith, awaited, pushed-idle td is))
awaited-sent (Sent answer) td is awaited = record { received = refl; ended = refl }
awaited-sent Gone td is awaited = absurd (given-up td.consumed td.state is (one_if-true (is_awaited td 1) awaited))

-- an entry whose status event waits
pub record HasStatusEvent (state : Shared) (place : Place) : Type 0 where
  pub entry : Entry
  pub is : under state.parts place ≡ Some entry
  pub over : IsHandedOver entry.task.phase

sent-there : (state : Shared) (place : Place) (held : Option Entry) → under state.parts place ≡ held → IsMatchedAt state place held
    → 1 ≤ status_events place state.events → HasStatusEvent state place
sent-there state place None is at named = absurd (omega (arith, at.sent, named))
sent-there state place (Some entry) is at named =
    record { entry = entry; is = is; over = awaited-sent entry.task.phase entry.status_td at.sound.status (omega (arith, at.sent, named)) }

pub status-there : (state : Shared) (place : Place) → IsMatched state → 1 ≤ status_events place state.events → HasStatusEvent state place
status-there state place all named = sent-there state place (under state.parts place) refl (all.places place) named

-- A TASK MANAGEMENT

-- where it stands, and what it noted
pub record IsManagementAt (state : Shared) (place : Place) (management : Entry) (what : Task) (noted : ArrayVec ℕ) : Type 0 where
  pub part : Part
  pub there : slice_get state.parts place.client ≡ Some part
  pub held : held_at part.entries place.slot ≡ Some management
  pub slot : place.slot ≡ (task_slot state.tags)
  pub has : HasNoted state.tags place.client part management what noted

pub management-at : (state : Shared) (place : Place) (management : Entry) (what : Task) (noted : ArrayVec ℕ) → IsMatched state
    → under state.parts place ≡ Some management → management.task.request ≡ Manage what noted → IsManagementAt state place management what noted
management-at state place management what noted all is asks =
    let found = under-found state.parts place management is in
    record {
      part = found.part;
      there = found.there;
      held = found.held;
      slot = subst (λ request. IsRequestIn state.tags place.slot request) asks (here state place management all is).sound.asks;
      has = subst (λ request. NotedBy state.tags place.client found.part management request) asks
          ((all.ordered.parts place.client found.part found.there).noted place.slot management found.held);
    }

-- a place of the same client
abbrev pub of_client : Place → ℕ → Place
of_client place slot = record { client = place.client; slot = slot }

of-part : (state : Shared) (place : Place) (management : Entry) (what : Task) (noted : ArrayVec ℕ) (slot : ℕ) (entry : Entry)
    (at : IsManagementAt state place management what noted) → under state.parts (of_client place slot) ≡ Some entry → held_at at.part.entries slot ≡ Some entry
of-part state place management what noted slot entry at is = sym (under-there state.parts (of_client place slot) at.part at.there) ∙ is

-- AS IT IS RECEIVED

-- A command of the client, as a task management is received: what it noted was received, and of what it names just that is what it noted.
pub record IsNotedAsReceived (tags client slot : ℕ) (what : Task) (noted : ArrayVec ℕ) (entry : Entry) : Type 0 where
  pub received : is_noted noted.items entry.task.ticket ≡ true → is_queued entry.task.phase ≡ false
  pub named : is_queued entry.task.phase ≡ false → names tags client slot what ≡ true → is_noted noted.items entry.task.ticket ≡ true
  pub unnamed : names tags client slot what ≡ false → is_noted noted.items entry.task.ticket ≡ false

pub noted-as_received : (state : Shared) (place : Place) (rest : List Place) (management : Entry) (what : Task) (noted : ArrayVec ℕ) → IsMatched state
    → state.messages ≡ place ∷ rest → under state.parts place ≡ Some management → management.task.request ≡ Manage what noted
    → (slot : ℕ) (entry : Entry) → slot < (task_slot state.tags) → under state.parts (of_client place slot) ≡ Some entry
    → IsNotedAsReceived state.tags place.client slot what noted entry
noted-as_received state place rest management what noted all is held asks slot entry within there =
    let at = management-at state place management what noted all held asks in
    let in_part : held_at at.part.entries slot ≡ Some entry = of-part state place management what noted slot entry at there in
    let exact = at.has.exact slot entry within in_part in
    let apart : place.slot ≡ slot → ⊥ = λ same. omega (arith, same, at.slot, within) in
    let waits = message-there state place all (omega (arith, ap (times place) is, one_self place)) in
    let queued : is_queued management.task.phase ≡ true =
    subst (λ (e : Entry). is_queued e.task.phase ≡ true) (same_Some waits.entry management (sym waits.is ∙ held)) waits.queued in
    record {
      received = λ noted_is. false_from_ne_true (is_queued entry.task.phase) (λ entry_queued.
          let later : management.task.ticket < entry.task.ticket =
          message-first state place rest management (of_client place slot) entry all is held there entry_queued refl apart in
          let earlier : entry.task.ticket < management.task.ticket =
          ltb-true _ _ (and_parts (names state.tags place.client slot what) (nat_lt entry.task.ticket management.task.ticket) (sym exact ∙ noted_is)).1 in
          omega (arith, later, earlier));
      named = λ entry_received named.
          let earlier : entry.task.ticket < management.task.ticket = (all.ordered.parts place.client at.part at.there).received slot place.slot entry management
          in_part at.held entry_received queued in
          exact ∙ and_from (names state.tags place.client slot what) (nat_lt entry.task.ticket management.task.ticket) named (lt-ltb _ _ earlier);
      unnamed = λ unnamed. exact ∙ and_left (names state.tags place.client slot what) (nat_lt entry.task.ticket management.task.ticket) unnamed;
    }

-- WHILE ITS RESPONSE WAITS

-- what it ends is done with
pub noted-ended : (state : Shared) (place : Place) (management : Entry) (what : Task) (noted : ArrayVec ℕ) → IsMatched state
    → 1 ≤ status_events place state.events → under state.parts place ≡ Some management → management.task.request ≡ Manage what noted
    → (slot : ℕ) (entry : Entry) → slot < (task_slot state.tags) → under state.parts (of_client place slot) ≡ Some entry
    → is_noted (ended_by what noted).items entry.task.ticket ≡ true → can_go entry.task.phase ≡ false
noted-ended state place management what noted all named held asks slot entry within there noted_is =
    let at = management-at state place management what noted all held asks in
    let sent = status-there state place all named in
    let received : is_queued management.task.phase ≡ false =
    subst (λ (e : Entry). is_queued e.task.phase ≡ false) (same_Some sent.entry management (sym sent.is ∙ held)) sent.over.received in
    at.has.ended received slot entry within (of-part state place management what noted slot entry at there) noted_is

-- AS ITS RESPONSE IS SEEN

-- what doesn't go on is gone, or its status TD's TRB was taken
ended-gone : (phase : Phase) (td : Td) → can_go phase ≡ false → IsStatusTd phase td → is_pending td.state ≡ true → one_if (is_awaited td 1) ≡ 0 → phase ≡ Gone
ended-gone Queued td over is pends unawaited = absurd (false≢true (sym over))
ended-gone (Begun progress) td over is pends unawaited = absurd (false≢true (sym over))
ended-gone (Sent answer) td over is pends unawaited =
    let awaited : is_awaited td 1 ≡ true = and_from (is_pending td.state) (td.consumed == 1) pends (eq-eqb td.consumed 1 is.0) in
    absurd (omega (arith, unawaited, ap one_if awaited))
ended-gone Gone td over is pends unawaited = refl

-- A command that it ends and whose status the host waits for, as the response is seen: it is gone, and no event of it waits.
pub record IsNotedAsSeen (rest : List Completion) (place : Place) (entry : Entry) : Type 0 where
  pub gone : entry.task.phase ≡ Gone
  pub data_none : data_events place rest ≡ 0
  pub status_none : status_events place rest ≡ 0

pub noted-as_seen : (state : Shared) (place : Place) (rest : List Completion) (management : Entry) (what : Task) (noted : ArrayVec ℕ) → IsMatched state
    → state.events ≡ StatusDone place ∷ rest → under state.parts place ≡ Some management → management.task.request ≡ Manage what noted
    → (slot : ℕ) (entry : Entry) → slot < (task_slot state.tags) → under state.parts (of_client place slot) ≡ Some entry
    → is_noted (ended_by what noted).items entry.task.ticket ≡ true → is_pending entry.status_td.state ≡ true
    → IsNotedAsSeen rest (of_client place slot) entry
noted-as_seen state place rest management what noted all is held asks slot entry within there noted_is pends =
    let other : Place = of_client place slot in
    let at = management-at state place management what noted all held asks in
    let behind : AreBehind state.parts (StatusDone place ∷ rest) = subst (λ events. AreBehind state.parts events) is all.ordered.events in
    let notes : ends_ticket management.task.request (ticket_at state.parts other) ≡ true =
    ap (λ request. ends_ticket request (ticket_at state.parts other)) asks
    ∙ ap (λ ticket. is_noted (ended_by what noted).items ticket) (ticket-here state.parts other entry there) ∙ noted_is in
    let noted_by : is_ended_by state.parts place other ≡ true =
    and_from (place.client == place.client) _ (eq-eqb place.client place.client refl)
    (ap (λ found. option_map_or (λ (e : Entry). ends_ticket e.task.request (ticket_at state.parts other)) found false) held ∙ notes) in
    let none = unnoted-none state.parts place other rest behind.0 noted_by in
    let apart : place.slot ≡ slot → ⊥ = λ same. omega (arith, same, at.slot, within) in
    let entry_at = here state other entry all there in
    let unawaited : one_if (is_awaited entry.status_td 1) ≡ 0 =
    omega (arith, entry_at.sent, ap (status_events other) is, none.1, apart-place place other apart) in
    let over = noted-ended state place management what noted all (omega (arith, ap (status_events place) is, one_self place)) held asks slot entry within
    there noted_is in
    record {
      gone = ended-gone entry.task.phase entry.status_td over entry_at.sound.status pends unawaited;
      data_none = none.0;
      status_none = none.1;
    }
