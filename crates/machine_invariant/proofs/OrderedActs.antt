-- Each act of the device and of the host on a client's part keeps its order facts, and what it posts isn't behind a response that noted it. Cited by
-- OrderedCarry and Ordered.
use Rattle.std.proofs.Common.{◌≡◌, ℕ, ◌<◌, ◌≤◌, Bool, true, false, cond, List, ◌++◌, Option, Some, None, refl, ap, sym, subst, ◌∙◌, append-nil}
use Rattle.std.specs.Prelude.{◌==◌, slice_get, slice_set, option_and_then, option_to_list}
use Rattle.std.specs.Option.{option_map_or}
use Rattle.std.proofs.lemmas.Bool.{and_parts, eqb-true, false≢true, false_from_ne_true}
use Rattle.std.proofs.lemmas.Option.{none-some, same_Some}
use Rattle.block_unit.specs.BlockMaps.{BlockMaps}
use Rattle.scsi_cmd.specs.Held.{held_at}
use Rattle.scsi_cmd.specs.Request.{ended_by}
use Rattle.scsi_cmd.specs.declared.Request.{Request}
use Rattle.scsi_cmd.specs.declared.Request.TheVariants.{Execute, Manage}
use Rattle.uas_profile.specs.Tags.{task_slot}
use Rattle.solo_model.specs.declared.TaskProgress.TheVariants.{Moving, Ended}
use Rattle.solo_model.specs.TaggedTask.{TaggedTask, can_go, moved, moved_from, moved_request, sent, sent_from}
use Rattle.solo_model.specs.declared.Phase.{Phase}
use Rattle.solo_model.specs.declared.Phase.TheVariants.{Queued, Begun, Sent, Gone}
use Rattle.uas_profile.specs.declared.Pipe.{Pipe}
use Rattle.uas_profile.specs.declared.Place.{Place}
use Rattle.shared_machine.specs.declared.Completion.{Completion}
use Rattle.shared_machine.specs.declared.Completion.TheVariants.{CommandDone, DataDone, StatusDone, EngineDone}
use Rattle.shared_machine.specs.Td.{Entry, data_trbs, passed_on, passed_td, retired_on, trbs_on, with_trb_taken}
use Rattle.shared_machine.specs.Part.{Act, Part, after_answer, after_event, data_td_after, doomed, event_act}
use Rattle.shared_machine.specs.Part.{event_place, is_last_trb, move_act, moved_entry, moved_slot, nothing, pass_act, passed_slot, retire_act, seen_by, seen_entry}
use Rattle.shared_machine.specs.Part.{send_act, sent_entry, sent_slot, stop_act, took_trb}
use Rattle.shared_machine.specs.Shared.{Shared}
use Rattle.machine_invariant.specs.Ordered.{AreBehind, IsOrderedPart, IsNotEnded, is_ended_by, is_queued, ends_ticket, ticket_at, under}
use Rattle.machine_invariant.specs.Matched.{IsMatched, IsRequestIn, status_events}
use Rattle.shared_machine.proofs.KeptTasks.{retired_on-task, seen_by-task, with_td_on-task, doomed-task}
use Rattle.machine_invariant.proofs.OrderedEntries.{AreNext, AreNext-changed, AreNext-written, IsNext-self, IsOnward, IsOnward-then, IsStill, kept-still, IsNext-weaker}
use Rattle.machine_invariant.proofs.OrderedEvents.{behind-more}
use Rattle.machine_invariant.proofs.OrderedManaged.{here, management-at, noted-ended, of_client, status-there, ticket-here}
use Rattle.machine_invariant.proofs.OrderedMessages.{notes_at, under-there}
use Rattle.machine_invariant.proofs.OrderedParts.{still-ordered}

-- NEWS

-- an event that is posted is of nothing that a response before it noted
abbrev pub AreNotices : Shared → Option Completion → Type 0
AreNotices state None = Unit {0}
AreNotices state (Some event) = (place : Place) → 1 ≤ status_events place state.events → IsNotEnded state.parts place event

pub notice-behind : (state : Shared) (event : Option Completion) → AreNotices state event → AreBehind state.parts state.events
    → AreBehind state.parts (state.events ++ option_to_list event)
notice-behind state None notice is = subst (λ events. AreBehind state.parts events) (sym (append-nil state.events)) is
notice-behind state (Some event) notice is = behind-more state.parts event state.events notice is

-- an act that takes the client's entries on
pub record IsKeptBy (state : Shared) (client : ℕ) (part : Part) (act : Act) : Type 0 where
  pub onward : AreNext IsOnward part.entries act.part.entries
  pub ordered : IsOrderedPart state.tags client act.part
  pub notice : AreNotices state act.event

-- one in which nothing is received
pub still-kept : (state : Shared) (client : ℕ) (part : Part) (act : Act) → act.part.least_ticket ≡ part.least_ticket
    → AreNext IsStill part.entries act.part.entries
    → AreNotices state act.event → IsOrderedPart state.tags client part → IsKeptBy state client part act
still-kept state client part act least each notice old = record {
  onward = λ slot. IsNext-weaker IsStill IsOnward (λ was now still. still.onward) (held_at part.entries slot) (held_at act.part.entries slot) (each slot);
  ordered = still-ordered client part act.part least each old;
  notice = notice;
}

self-still : (entry : Entry) → IsStill entry entry
self-still entry = kept-still entry entry refl

all-still : (entries : List (Option Entry)) → AreNext IsStill entries entries
all-still entries slot = IsNext-self IsStill self-still (held_at entries slot)

pub nothing-kept : (state : Shared) (client : ℕ) (part : Part) → IsOrderedPart state.tags client part → IsKeptBy state client part (nothing part)
nothing-kept state client part old = still-kept state client part (nothing part) refl (all-still part.entries) tt old

-- WHAT IS TAKEN ON

-- a task that the device had begun, and goes on with
record GoesOn (was now : TaggedTask) : Type 0 where
  ticket : now.ticket ≡ was.ticket
  request : now.request ≡ was.request
  begun : is_queued was.phase ≡ false
  received : is_queued now.phase ≡ false
  goes : can_go was.phase ≡ true

going-still : (was now : Entry) → GoesOn was.task now.task → IsStill was now
going-still was now on = record {
  onward = record {
    ticket = on.ticket;
    request = on.request;
    received = λ is. on.received;
    ended = λ is. absurd (false≢true (sym is ∙ on.goes));
  };
  queued = λ is. absurd (false≢true (sym on.begun ∙ is));
}

goes-moved_request : (unit : BlockMaps) (task : TaggedTask) (chunk : ℕ) (request : Request) (after : BlockMaps × TaggedTask) → is_queued task.phase ≡ false
    → can_go task.phase ≡ true → moved_request unit task chunk request ≡ Some after → GoesOn task after.1
goes-moved_request unit task chunk (Execute op) after begun goes is =
    let same = same_Some _ after is in record {
      ticket = ap (λ (a : BlockMaps × TaggedTask). a.1.ticket) (sym same);
      request = ap (λ (a : BlockMaps × TaggedTask). a.1.request) (sym same);
      begun = begun;
      received = ap (λ (a : BlockMaps × TaggedTask). is_queued a.1.phase) (sym same);
      goes = goes;
    }
goes-moved_request unit task chunk (Manage what noted) after begun goes is = absurd (none-some after is)

goes-moved : (unit : BlockMaps) (task : TaggedTask) (phase : Phase) (after : BlockMaps × TaggedTask) → task.phase ≡ phase
    → moved_from unit task phase ≡ Some after
    → GoesOn task after.1
goes-moved unit task Queued after at is = absurd (none-some after is)
goes-moved unit task (Begun (Moving chunk)) after at is =
    goes-moved_request unit task chunk task.request after (ap (λ p. is_queued p) at) (ap (λ p. can_go p) at) is
goes-moved unit task (Begun (Ended answer)) after at is = absurd (none-some after is)
goes-moved unit task (Sent answer) after at is = absurd (none-some after is)
goes-moved unit task Gone after at is = absurd (none-some after is)

goes-sent : (task : TaggedTask) (phase : Phase) (after : TaggedTask) → task.phase ≡ phase → sent_from task phase ≡ Some after → GoesOn task after
goes-sent task Queued after at is = absurd (none-some after is)
goes-sent task (Begun (Moving chunk)) after at is = absurd (none-some after is)
goes-sent task (Begun (Ended answer)) after at is =
    let same : record task { phase = Sent answer } ≡ after = same_Some (record task { phase = Sent answer }) after is in record {
      ticket = ap (λ (t : TaggedTask). t.ticket) (sym same);
      request = ap (λ (t : TaggedTask). t.request) (sym same);
      begun = ap (λ p. is_queued p) at;
      received = ap (λ (t : TaggedTask). is_queued t.phase) (sym same);
      goes = ap (λ p. can_go p) at;
    }
goes-sent task (Sent answer) after at is = absurd (none-some after is)
goes-sent task Gone after at is = absurd (none-some after is)

-- no response noted a command that goes on
unnoted_by : (state : Shared) (place : Place) (entry : Entry) (sender : Place) (management : Entry) (request asked : Request) → IsMatched state
    → under state.parts place ≡ Some entry → can_go entry.task.phase ≡ true → 1 ≤ status_events sender state.events
    → under state.parts sender ≡ Some management
    → management.task.request ≡ request → entry.task.request ≡ asked → sender.client ≡ place.client
    → ends_ticket request entry.task.ticket ≡ true → ⊥
unnoted_by state place entry sender management (Execute op) asked all held goes named sends is asks client notes = false≢true notes
unnoted_by state place entry sender management (Manage what noted) (Execute op) all held goes named sends is asks client notes =
    let within : place.slot < (task_slot state.tags) = subst (λ request. IsRequestIn state.tags place.slot request) asks (here state place entry all held).sound.asks in
    let there : under state.parts (of_client sender place.slot) ≡ Some entry =
    subst (λ c. under state.parts (record { client = c; slot = place.slot }) ≡ Some entry) (sym client) held in
    false≢true (sym (noted-ended state sender management what noted all named sends is place.slot entry within there notes) ∙ goes)
unnoted_by state place entry sender management (Manage what noted) (Manage other more) all held goes named sends is asks client notes =
    let slot : place.slot ≡ (task_slot state.tags) = subst (λ request. IsRequestIn state.tags place.slot request) asks (here state place entry all held).sound.asks in
    let sender_slot : sender.slot ≡ (task_slot state.tags) = (management-at state sender management what noted all sends is).slot in
    let sent = status-there state sender all named in
    let same_slot : sender.slot ≡ place.slot = sender_slot ∙ sym slot in
    let same_place : sender ≡ place = λ i. record { client = client i; slot = same_slot i } in
    let same : sent.entry ≡ entry = same_Some sent.entry entry (sym sent.is ∙ ap (λ p. under state.parts p) same_place ∙ held) in
    false≢true (sym sent.over.ended ∙ ap (λ (e : Entry). can_go e.task.phase) same ∙ goes)

going-unnoted : (state : Shared) (place : Place) (entry : Entry) → IsMatched state → under state.parts place ≡ Some entry → can_go entry.task.phase ≡ true
    → (sender : Place) → 1 ≤ status_events sender state.events → is_ended_by state.parts sender place ≡ false
going-unnoted state place entry all held goes sender named = false_from_ne_true (is_ended_by state.parts sender place) (λ is.
    let parts = and_parts (sender.client == place.client) (notes_at state.parts sender (ticket_at state.parts place)) is in
    let sent = status-there state sender all named in
    let notes : ends_ticket sent.entry.task.request entry.task.ticket ≡ true =
    ap (λ ticket. ends_ticket sent.entry.task.request ticket) (sym (ticket-here state.parts place entry held))
    ∙ sym (ap (λ held. option_map_or (λ (e : Entry). ends_ticket e.task.request (ticket_at state.parts place)) held false) sent.is) ∙ parts.1 in
    unnoted_by state place entry sender sent.entry sent.entry.task.request entry.task.request all held goes named sent.is refl refl
    (eqb-true sender.client place.client parts.0) notes)

-- MOVE AND SEND

-- one entry is written, its client's others stay
written-still : (entries : List (Option Entry)) (slot : ℕ) (was now : Entry) → held_at entries slot ≡ Some was → IsStill was now
    → AreNext IsStill entries (slice_set entries slot (Some now))
written-still entries slot was now held still = AreNext-written IsStill entries entries slot was now held still (all-still entries)

posted-notice : (state : Shared) (b : Bool) (event : Completion) → AreNotices state (Some event) → AreNotices state (cond b (Some event) None)
posted-notice state true event notice = notice
posted-notice state false event notice = tt

move-kept : (state : Shared) (place : Place) (part : Part) (entry : Entry) (after : Option (BlockMaps × TaggedTask)) → IsMatched state
    → slice_get state.parts place.client ≡ Some part → held_at part.entries place.slot ≡ Some entry → moved part.unit entry.task ≡ after
    → IsKeptBy state place.client part (moved_entry part place.slot place entry after)
move-kept state place part entry None all there held is = nothing-kept state place.client part (all.ordered.parts place.client part there)
move-kept state place part entry (Some after) all there held is =
    let on = goes-moved part.unit entry.task entry.task.phase after refl is in
    let now : Entry = record entry { task = after.1; data_td = data_td_after (took_trb after.1.phase) entry.data_td } in
    let found : under state.parts place ≡ Some entry = under-there state.parts place part there ∙ held in
    still-kept state place.client part (moved_entry part place.slot place entry (Some after)) refl
    (written-still part.entries place.slot entry now held (going-still entry now on))
    (posted-notice state (is_last_trb (took_trb after.1.phase) (data_trbs entry.task.request) entry.data_td) (DataDone place)
    (going-unnoted state place entry all found on.goes))
    (all.ordered.parts place.client part there)

move_slot-kept : (state : Shared) (place : Place) (part : Part) (held : Option Entry) → IsMatched state → slice_get state.parts place.client ≡ Some part
    → held_at part.entries place.slot ≡ held → IsKeptBy state place.client part (moved_slot part place.slot place held)
move_slot-kept state place part None all there is = nothing-kept state place.client part (all.ordered.parts place.client part there)
move_slot-kept state place part (Some entry) all there is = move-kept state place part entry (moved part.unit entry.task) all there is refl

pub move_act-kept : (state : Shared) (place : Place) (part : Part) → IsMatched state → slice_get state.parts place.client ≡ Some part
    → IsKeptBy state place.client part (move_act place part)
move_act-kept state place part all there = move_slot-kept state place part (held_at part.entries place.slot) all there refl

send-kept : (state : Shared) (place : Place) (part : Part) (entry : Entry) (task : Option TaggedTask) → IsMatched state
    → slice_get state.parts place.client ≡ Some part → held_at part.entries place.slot ≡ Some entry → sent entry.task ≡ task
    → IsKeptBy state place.client part (sent_entry part place.slot place entry task)
send-kept state place part entry None all there held is = nothing-kept state place.client part (all.ordered.parts place.client part there)
send-kept state place part entry (Some task) all there held is =
    let on = goes-sent entry.task entry.task.phase task refl is in
    let now : Entry = record entry { task = task; status_td = with_trb_taken entry.status_td } in
    let found : under state.parts place ≡ Some entry = under-there state.parts place part there ∙ held in
    still-kept state place.client part (sent_entry part place.slot place entry (Some task)) refl
    (written-still part.entries place.slot entry now held (going-still entry now on))
    (going-unnoted state place entry all found on.goes)
    (all.ordered.parts place.client part there)

send_slot-kept : (state : Shared) (place : Place) (part : Part) (held : Option Entry) → IsMatched state → slice_get state.parts place.client ≡ Some part
    → held_at part.entries place.slot ≡ held → IsKeptBy state place.client part (sent_slot part place.slot place held)
send_slot-kept state place part None all there is = nothing-kept state place.client part (all.ordered.parts place.client part there)
send_slot-kept state place part (Some entry) all there is = send-kept state place part entry (sent entry.task) all there is refl

pub send_act-kept : (state : Shared) (place : Place) (part : Part) → IsMatched state → slice_get state.parts place.client ≡ Some part
    → IsKeptBy state place.client part (send_act place part)
send_act-kept state place part all there = send_slot-kept state place part (held_at part.entries place.slot) all there refl

-- EVENTS AND RETIREMENT: they keep the tasks

still-then : (was now next : Entry) → IsStill was now → next.task ≡ now.task → IsStill was next
still-then was now next still same =
    let kept = kept-still now next same in
    record { onward = IsOnward-then was now next still.onward kept.onward; queued = λ is. kept.queued (still.queued is) }

answer-still : (request : Request) (entries after : List (Option Entry)) → AreNext IsStill entries after → AreNext IsStill entries (after_answer request after)
answer-still (Execute op) entries after each = each
answer-still (Manage what noted) entries after each =
    AreNext-changed IsStill (doomed (ended_by what noted).items) entries after
    (λ was now still. still-then was now (doomed (ended_by what noted).items now) still (doomed-task (ended_by what noted).items now)) each

event-still : (event : Completion) (request : Request) (entries after : List (Option Entry)) → AreNext IsStill entries after
    → AreNext IsStill entries (after_event event request after)
event-still (CommandDone place) request entries after each = each
event-still (DataDone place) request entries after each = each
event-still (StatusDone place) request entries after each = answer-still request entries after each
event-still (EngineDone place) request entries after each = each

seen-kept : (state : Shared) (client : ℕ) (event : Completion) (part : Part) (slot : ℕ) (was now : Entry) → held_at part.entries slot ≡ Some was
    → now.task ≡ was.task → IsOrderedPart state.tags client part → IsKeptBy state client part (seen_entry event part slot (Some now))
seen-kept state client event part slot was now held same old =
    still-kept state client part (seen_entry event part slot (Some now)) refl
    (event-still event now.task.request part.entries (slice_set part.entries slot (Some now))
    (written-still part.entries slot was now held (kept-still was now same))) tt old

-- an entry that the host changes, its task kept
changed-kept : (state : Shared) (client : ℕ) (event : Completion) (part : Part) (slot : ℕ) (change : Entry → Option Entry) (held after : Option Entry)
    → ((was now : Entry) → change was ≡ Some now → now.task ≡ was.task) → held_at part.entries slot ≡ held → option_and_then change held ≡ after
    → IsOrderedPart state.tags client part → IsKeptBy state client part (seen_entry event part slot after)
changed-kept state client event part slot change held None keeps at is old = nothing-kept state client part old
changed-kept state client event part slot change None (Some now) keeps at is old = absurd (none-some now is)
changed-kept state client event part slot change (Some was) (Some now) keeps at is old =
    seen-kept state client event part slot was now at (keeps was now is) old

pub event_act-kept : (state : Shared) (client : ℕ) (event : Completion) (part : Part) → IsOrderedPart state.tags client part
    → IsKeptBy state client part (event_act event part)
event_act-kept state client event part old =
    changed-kept state client event part (event_place event).slot (seen_by event) (held_at part.entries (event_place event).slot) _
    (seen_by-task event) refl refl old

pub retire_act-kept : (state : Shared) (client : ℕ) (pipe : Pipe) (place : Place) (part : Part) → IsOrderedPart state.tags client part
    → IsKeptBy state client part (retire_act pipe place part)
retire_act-kept state client pipe place part old =
    changed-kept state client (EngineDone place) part place.slot (retired_on pipe) (held_at part.entries place.slot) _ (retired_on-task pipe) refl refl old

pub stop_act-kept : (state : Shared) (client : ℕ) (place : Place) (part : Part) → IsOrderedPart state.tags client part → IsKeptBy state client part (stop_act place part)
stop_act-kept state client place part old = still-kept state client part (stop_act place part) refl (all-still part.entries) (λ other named. tt) old

passed-kept : (state : Shared) (client : ℕ) (pipe : Pipe) (place : Place) (part : Part) (held : Option Entry) → held_at part.entries place.slot ≡ held
    → IsOrderedPart state.tags client part → IsKeptBy state client part (passed_slot pipe part place held)
passed-kept state client pipe place part None is old = nothing-kept state client part old
passed-kept state client pipe place part (Some entry) is old =
    still-kept state client part (passed_slot pipe part place (Some entry)) refl
    (written-still part.entries place.slot entry (passed_on pipe entry) is
    (kept-still entry (passed_on pipe entry) (with_td_on-task (passed_td (trbs_on pipe entry)) pipe entry)))
    (λ other named. tt) old

pub pass_act-kept : (state : Shared) (client : ℕ) (pipe : Pipe) (place : Place) (part : Part) → IsOrderedPart state.tags client part
    → IsKeptBy state client part (pass_act pipe place part)
pass_act-kept state client pipe place part old = passed-kept state client pipe place part (held_at part.entries place.slot) refl old
