-- Each act on a client's part keeps the ticket and the request of what stands in a slot before and after it, and ends nothing but what a task
-- management noted that is received. Cited by OthersStay and GoneByNote.
use Rattle.std.proofs.Common.{◌≡◌, ◌⊎◌, inl, inr, ⊎_elim, ℕ, zero, suc, Bool, true, false, cond, List, [], ◌∷◌, map, Option, Some, None, option_map}
use Rattle.std.proofs.Common.{refl, ap, sym, subst, ◌∙◌}
use Rattle.std.specs.Prelude.{◌&&◌, slice_set, option_and_then}
use Rattle.std.proofs.lemmas.Bool.{and_parts, false≢true}
use Rattle.std.proofs.lemmas.Option.{none-some, same_Some}
use Rattle.arrayvec.specs.ArrayVec.{ArrayVec}
use Rattle.block_unit.specs.BlockMaps.{BlockMaps}
use Rattle.solo_model.specs.declared.TaskProgress.TheVariants.{Moving, Ended}
use Rattle.scsi_cmd.specs.Held.{held_at}
use Rattle.scsi_cmd.specs.declared.Reply.{Reply}
use Rattle.scsi_cmd.specs.declared.Request.{Request}
use Rattle.scsi_cmd.specs.Request.{ended_by}
use Rattle.scsi_cmd.specs.declared.Request.TheVariants.{Execute, Manage}
use Rattle.scsi_cmd.specs.declared.Task.{Task}
use Rattle.solo_model.specs.TaggedTask.{TaggedTask, can_be_ended, carried, carried_from, carried_request, finds, is_noted, moved, moved_from, moved_request, sent}
use Rattle.solo_model.specs.TaggedTask.{sent_from}
use Rattle.solo_model.specs.declared.Phase.{Phase}
use Rattle.solo_model.specs.declared.Phase.TheVariants.{Queued, Begun, Sent, Gone}
use Rattle.uas_profile.specs.declared.Pipe.{Pipe}
use Rattle.uas_profile.specs.declared.Place.{Place}
use Rattle.shared_machine.specs.declared.Completion.{Completion}
use Rattle.shared_machine.specs.declared.Completion.TheVariants.{CommandDone, DataDone, StatusDone, EngineDone}
use Rattle.shared_machine.specs.Td.{Entry, passed_on, passed_td, retired_on, trbs_on, with_trb_taken}
use Rattle.shared_machine.specs.Part.{Part, after_answer, after_event, carried_entry, carried_slot, carry_act, data_td_after, doomed, entries_after, entry_reply}
use Rattle.shared_machine.specs.Part.{event_act, event_place, is_doomed, move_act, moved_entry, moved_slot, noted_entry, pass_act, passed_slot, retire_act}
use Rattle.shared_machine.specs.Part.{tasks_in}
use Rattle.shared_machine.specs.Part.{seen_by, seen_entry, send_act, sent_entry, sent_slot, settled, slot_tag, stop_act, take_act, taken, took_trb}
use Rattle.shared_machine.proofs.KeptTasks.{retired_on-task, seen_by-task, with_td_on-task}
use Rattle.machine_invariant.proofs.OrderedEntries.{held-changed}

-- WHAT STANDS IN A SLOT BEFORE AND AFTER

abbrev pub is_gone : Phase → Bool
is_gone Queued = false
is_gone (Begun progress) = false
is_gone (Sent answer) = false
is_gone Gone = true

-- an entry with what it was: the same ticket and request, and it is gone newly only where its ticket is of these
pub record IsTakenOn (MayEnd : ℕ → Type 0) (was now : Entry) : Type 0 where
  pub ticket : now.task.ticket ≡ was.task.ticket
  pub request : now.task.request ≡ was.task.request
  pub gone : now.task.phase ≡ Gone → (was.task.phase ≡ Gone → ⊥) → MayEnd was.task.ticket

-- so it is where something stands before and after; what comes and what goes doesn't matter
abbrev pub IsKept : (ℕ → Type 0) → Option Entry → Option Entry → Type 0
IsKept MayEnd held after = (was now : Entry) → held ≡ Some was → after ≡ Some now → IsTakenOn MayEnd was now

abbrev pub AreKept : (ℕ → Type 0) → List (Option Entry) → List (Option Entry) → Type 0
AreKept MayEnd entries after = (slot : ℕ) → IsKept MayEnd (held_at entries slot) (held_at after slot)

-- an entry that keeps its task
task-kept : (MayEnd : ℕ → Type 0) (was now : Entry) → now.task ≡ was.task → IsTakenOn MayEnd was now
task-kept MayEnd was now same = record {
  ticket = ap (λ (task : TaggedTask). task.ticket) same;
  request = ap (λ (task : TaggedTask). task.request) same;
  gone = λ is before. absurd (before (sym (ap (λ (task : TaggedTask). task.phase) same) ∙ is));
}

IsKept-self : (MayEnd : ℕ → Type 0) (held : Option Entry) → IsKept MayEnd held held
IsKept-self MayEnd held was now is_was is_now = task-kept MayEnd was now (ap (λ (e : Entry). e.task) (same_Some now was (sym is_now ∙ is_was)))

pub AreKept-self : (MayEnd : ℕ → Type 0) (entries : List (Option Entry)) → AreKept MayEnd entries entries
AreKept-self MayEnd entries slot = IsKept-self MayEnd (held_at entries slot)

-- what stands in a slot once one was written: what was written, or what stood there
written-there : (entries : List (Option Entry)) (slot : ℕ) (now : Option Entry) (other : ℕ) (entry : Entry)
    → held_at (slice_set entries slot now) other ≡ Some entry
    → ((other ≡ slot) × (now ≡ Some entry)) ⊎ (held_at entries other ≡ Some entry)
written-there [] slot now other entry is = inr is
written-there (held ∷ rest) zero now zero entry is = inl (refl, is)
written-there (held ∷ rest) zero now (suc other) entry is = inr is
written-there (held ∷ rest) (suc slot) now zero entry is = inr is
written-there (held ∷ rest) (suc slot) now (suc other) entry is =
    ⊎_elim (λ here. inl (ap suc here.0, here.1)) (λ there. inr there) (written-there rest slot now other entry is)

-- one slot is written, over entries that are kept
pub written-kept : (MayEnd : ℕ → Type 0) (entries after : List (Option Entry)) (slot : ℕ) (now : Option Entry) → AreKept MayEnd entries after
    → IsKept MayEnd (held_at entries slot) now → AreKept MayEnd entries (slice_set after slot now)
written-kept MayEnd entries after slot now each here other was is held_was held_is = ⊎_elim
    (λ there. here was is (ap (λ at. held_at entries at) (sym there.0) ∙ held_was) there.1)
    (λ stays. each other was is held_was stays)
    (written-there after slot now other is held_is)

-- the same, with what stood there
entry-kept : (MayEnd : ℕ → Type 0) (entries after : List (Option Entry)) (slot : ℕ) (was now : Entry) → held_at entries slot ≡ Some was
    → AreKept MayEnd entries after → IsTakenOn MayEnd was now → AreKept MayEnd entries (slice_set after slot (Some now))
entry-kept MayEnd entries after slot was now held each so =
    written-kept MayEnd entries after slot (Some now) each (λ one is held_one is_now.
    subst (λ (e : Entry). IsTakenOn MayEnd e is) (same_Some was one (sym held ∙ held_one))
    (subst (λ (e : Entry). IsTakenOn MayEnd was e) (same_Some now is is_now) so))

-- a slot that held nothing is filled
pub filled-kept : (MayEnd : ℕ → Type 0) (entries : List (Option Entry)) (slot : ℕ) (now : Entry) → held_at entries slot ≡ None
    → AreKept MayEnd entries (slice_set entries slot (Some now))
filled-kept MayEnd entries slot now free =
    written-kept MayEnd entries entries slot (Some now) (AreKept-self MayEnd entries) (λ was is held held_is. absurd (none-some was (sym free ∙ held)))

-- each entry is changed
changed-kept : (MayEnd : ℕ → Type 0) (change : Entry → Entry) (entries after : List (Option Entry)) → AreKept MayEnd entries after
    → ((was now : Entry) → IsTakenOn MayEnd was now → IsTakenOn MayEnd was (change now)) → AreKept MayEnd entries (map (option_map change) after)
changed-kept MayEnd change entries after each then slot was now held_was held_now =
    changed (held_at after slot) refl (sym (held-changed change after slot) ∙ held_now)
  where
    changed : (found : Option Entry) → held_at after slot ≡ found → option_map change found ≡ Some now → IsTakenOn MayEnd was now
    changed None is at = absurd (none-some now at)
    changed (Some one) is at =
        subst (λ (e : Entry). IsTakenOn MayEnd was e) (same_Some (change one) now at) (then was one (each slot was one held_was is))

-- A TASK THAT GOES ON

-- the same ticket and request, and not gone
record GoesOn (was now : TaggedTask) : Type 0 where
  ticket : now.ticket ≡ was.ticket
  request : now.request ≡ was.request
  stays : is_gone now.phase ≡ false

going-kept : (MayEnd : ℕ → Type 0) (was now : Entry) → GoesOn was.task now.task → IsTakenOn MayEnd was now
going-kept MayEnd was now on =
    record { ticket = on.ticket; request = on.request; gone = λ is before. absurd (false≢true (sym on.stays ∙ ap (λ phase. is_gone phase) is)) }

carried-on : (unit : BlockMaps) (found : Bool) (task : TaggedTask) (phase : Phase) (after : BlockMaps × TaggedTask)
    → carried_from unit found task phase ≡ Some after
    → GoesOn task after.1
carried-on unit found task Queued after is =
    let same : carried_request unit found task task.request ≡ after = same_Some (carried_request unit found task task.request) after is in record {
      ticket = ap (λ (a : BlockMaps × TaggedTask). a.1.ticket) (sym same);
      request = ap (λ (a : BlockMaps × TaggedTask). a.1.request) (sym same);
      stays = ap (λ (a : BlockMaps × TaggedTask). is_gone a.1.phase) (sym same);
    }
carried-on unit found task (Begun progress) after is = absurd (none-some after is)
carried-on unit found task (Sent answer) after is = absurd (none-some after is)
carried-on unit found task Gone after is = absurd (none-some after is)

moved_request-on : (unit : BlockMaps) (task : TaggedTask) (chunk : ℕ) (request : Request) (after : BlockMaps × TaggedTask)
    → moved_request unit task chunk request ≡ Some after → GoesOn task after.1
moved_request-on unit task chunk (Execute op) after is =
    let same = same_Some _ after is in record {
      ticket = ap (λ (a : BlockMaps × TaggedTask). a.1.ticket) (sym same);
      request = ap (λ (a : BlockMaps × TaggedTask). a.1.request) (sym same);
      stays = ap (λ (a : BlockMaps × TaggedTask). is_gone a.1.phase) (sym same);
    }
moved_request-on unit task chunk (Manage what noted) after is = absurd (none-some after is)

moved-on : (unit : BlockMaps) (task : TaggedTask) (phase : Phase) (after : BlockMaps × TaggedTask) → moved_from unit task phase ≡ Some after
    → GoesOn task after.1
moved-on unit task Queued after is = absurd (none-some after is)
moved-on unit task (Begun (Moving chunk)) after is = moved_request-on unit task chunk task.request after is
moved-on unit task (Begun (Ended answer)) after is = absurd (none-some after is)
moved-on unit task (Sent answer) after is = absurd (none-some after is)
moved-on unit task Gone after is = absurd (none-some after is)

sent-on : (task : TaggedTask) (phase : Phase) (after : TaggedTask) → sent_from task phase ≡ Some after → GoesOn task after
sent-on task Queued after is = absurd (none-some after is)
sent-on task (Begun (Moving chunk)) after is = absurd (none-some after is)
sent-on task (Begun (Ended answer)) after is =
    let same : record task { phase = Sent answer } ≡ after = same_Some (record task { phase = Sent answer }) after is in record {
      ticket = ap (λ (t : TaggedTask). t.ticket) (sym same);
      request = ap (λ (t : TaggedTask). t.request) (sym same);
      stays = ap (λ (t : TaggedTask). is_gone t.phase) (sym same);
    }
sent-on task (Sent answer) after is = absurd (none-some after is)
sent-on task Gone after is = absurd (none-some after is)

-- CARRY

-- what a task management ends that is under this slot
abbrev pub NotesEnd : (ℕ → Type 0) → Part → ℕ → Type 0
NotesEnd MayEnd part slot =
    (management : Entry) (what : Task) (noted : ArrayVec ℕ) (ticket : ℕ) → held_at part.entries slot ≡ Some management
    → management.task.request ≡ Manage what noted → is_noted (ended_by what noted).items ticket ≡ true → MayEnd ticket

-- an entry that it may end
noted-taken : (MayEnd : ℕ → Type 0) (noted : List ℕ) (entry : Entry) → (is_noted noted entry.task.ticket ≡ true → MayEnd entry.task.ticket)
    → IsTakenOn MayEnd entry (noted_entry noted entry)
noted-taken MayEnd noted entry ends =
    elim (can_be_ended entry.task && is_noted noted entry.task.ticket) as (λ b. (can_be_ended entry.task && is_noted noted entry.task.ticket) ≡ b
    → IsTakenOn MayEnd entry (record entry { task = cond b (record entry.task { phase = Gone }) entry.task })) [
      | true ↦ λ is. record {
        ticket = refl;
        request = refl;
        gone = λ now before. ends (and_parts (can_be_ended entry.task) (is_noted noted entry.task.ticket) is).1;
      }
      | false ↦ λ is. task-kept MayEnd entry entry refl
    ] refl

-- what stands in each slot once the request under one was received
received-kept : (MayEnd : ℕ → Type 0) (request : Request) (entries : List (Option Entry))
    → ((what : Task) (noted : ArrayVec ℕ) (ticket : ℕ) → request ≡ Manage what noted → is_noted (ended_by what noted).items ticket ≡ true → MayEnd ticket)
    → AreKept MayEnd entries (entries_after request entries)
received-kept MayEnd (Execute op) entries ends slot was now held_was held_now = AreKept-self MayEnd entries slot was now held_was held_now
received-kept MayEnd (Manage what noted) entries ends slot was now held_was held_now =
    let ended : List ℕ = (ended_by what noted).items in
    let same : noted_entry (ended_by what noted).items was ≡ now = same_Some (noted_entry ended was) now
    (ap (option_map (noted_entry ended)) (sym held_was) ∙ sym (held-changed (noted_entry ended) entries slot) ∙ held_now) in
    subst (λ (e : Entry). IsTakenOn MayEnd was e) same
    (noted-taken MayEnd ended was (λ is. ends what noted was.task.ticket refl is))

carried_entry-kept : (MayEnd : ℕ → Type 0) (place : Place) (part : Part) (entry : Entry) (after : Option (BlockMaps × TaggedTask))
    → NotesEnd MayEnd part place.slot → held_at part.entries place.slot ≡ Some entry
    → carried part.unit (finds entry.task.request (tasks_in part.entries)) entry.task ≡ after
    → AreKept MayEnd part.entries (carried_entry part place.slot place entry after).part.entries
carried_entry-kept MayEnd place part entry None ends held is = AreKept-self MayEnd part.entries
carried_entry-kept MayEnd place part entry (Some after) ends held is =
    let now : Entry = record entry { task = after.1; command_td = with_trb_taken entry.command_td } in
    entry-kept MayEnd part.entries (entries_after entry.task.request part.entries) place.slot entry now held
    (received-kept MayEnd entry.task.request part.entries (λ what noted ticket asks. ends entry what noted ticket held asks))
    (going-kept MayEnd entry now (carried-on part.unit (finds entry.task.request (tasks_in part.entries)) entry.task entry.task.phase after is))

carried_slot-kept : (MayEnd : ℕ → Type 0) (place : Place) (part : Part) (held : Option Entry) → NotesEnd MayEnd part place.slot
    → held_at part.entries place.slot ≡ held → AreKept MayEnd part.entries (carried_slot part place.slot place held).part.entries
carried_slot-kept MayEnd place part None ends is = AreKept-self MayEnd part.entries
carried_slot-kept MayEnd place part (Some entry) ends is =
    carried_entry-kept MayEnd place part entry (carried part.unit (finds entry.task.request (tasks_in part.entries)) entry.task) ends is refl

-- the device receives a request: what it ends it had noted
pub carry_act-kept : (MayEnd : ℕ → Type 0) (place : Place) (part : Part) → NotesEnd MayEnd part place.slot
    → AreKept MayEnd part.entries (carry_act place part).part.entries
carry_act-kept MayEnd place part ends = carried_slot-kept MayEnd place part (held_at part.entries place.slot) ends refl

-- MOVE AND SEND

moved_entry-kept : (MayEnd : ℕ → Type 0) (place : Place) (part : Part) (entry : Entry) (after : Option (BlockMaps × TaggedTask))
    → held_at part.entries place.slot ≡ Some entry → moved part.unit entry.task ≡ after
    → AreKept MayEnd part.entries (moved_entry part place.slot place entry after).part.entries
moved_entry-kept MayEnd place part entry None held is = AreKept-self MayEnd part.entries
moved_entry-kept MayEnd place part entry (Some after) held is =
    let now : Entry = record entry { task = after.1; data_td = data_td_after (took_trb after.1.phase) entry.data_td } in
    entry-kept MayEnd part.entries part.entries place.slot entry now held (AreKept-self MayEnd part.entries)
    (going-kept MayEnd entry now (moved-on part.unit entry.task entry.task.phase after is))

moved_slot-kept : (MayEnd : ℕ → Type 0) (place : Place) (part : Part) (held : Option Entry) → held_at part.entries place.slot ≡ held
    → AreKept MayEnd part.entries (moved_slot part place.slot place held).part.entries
moved_slot-kept MayEnd place part None is = AreKept-self MayEnd part.entries
moved_slot-kept MayEnd place part (Some entry) is = moved_entry-kept MayEnd place part entry (moved part.unit entry.task) is refl

pub move_act-kept : (MayEnd : ℕ → Type 0) (place : Place) (part : Part) → AreKept MayEnd part.entries (move_act place part).part.entries
move_act-kept MayEnd place part = moved_slot-kept MayEnd place part (held_at part.entries place.slot) refl

sent_entry-kept : (MayEnd : ℕ → Type 0) (place : Place) (part : Part) (entry : Entry) (task : Option TaggedTask)
    → held_at part.entries place.slot ≡ Some entry → sent entry.task ≡ task
    → AreKept MayEnd part.entries (sent_entry part place.slot place entry task).part.entries
sent_entry-kept MayEnd place part entry None held is = AreKept-self MayEnd part.entries
sent_entry-kept MayEnd place part entry (Some task) held is =
    let now : Entry = record entry { task = task; status_td = with_trb_taken entry.status_td } in
    entry-kept MayEnd part.entries part.entries place.slot entry now held (AreKept-self MayEnd part.entries)
    (going-kept MayEnd entry now (sent-on entry.task entry.task.phase task is))

sent_slot-kept : (MayEnd : ℕ → Type 0) (place : Place) (part : Part) (held : Option Entry) → held_at part.entries place.slot ≡ held
    → AreKept MayEnd part.entries (sent_slot part place.slot place held).part.entries
sent_slot-kept MayEnd place part None is = AreKept-self MayEnd part.entries
sent_slot-kept MayEnd place part (Some entry) is = sent_entry-kept MayEnd place part entry (sent entry.task) is refl

pub send_act-kept : (MayEnd : ℕ → Type 0) (place : Place) (part : Part) → AreKept MayEnd part.entries (send_act place part).part.entries
send_act-kept MayEnd place part = sent_slot-kept MayEnd place part (held_at part.entries place.slot) refl

-- EVENTS

-- a command that a response dooms keeps its task: only its TDs are left over
doomed-taken : (MayEnd : ℕ → Type 0) (noted : List ℕ) (was now : Entry) → IsTakenOn MayEnd was now → IsTakenOn MayEnd was (doomed noted now)
doomed-taken MayEnd noted was now so =
    elim (is_doomed noted now) as (λ b. is_doomed noted now ≡ b → IsTakenOn MayEnd was (doomed noted now)) [
      | true ↦ λ is. rw is record { ticket = so.ticket; request = so.request; gone = so.gone }
      | false ↦ λ is. rw is so
    ] refl

answered-kept : (MayEnd : ℕ → Type 0) (request : Request) (entries after : List (Option Entry)) → AreKept MayEnd entries after
    → AreKept MayEnd entries (after_answer request after)
answered-kept MayEnd (Execute op) entries after each = each
answered-kept MayEnd (Manage what noted) entries after each =
    changed-kept MayEnd (doomed (ended_by what noted).items) entries after each (doomed-taken MayEnd (ended_by what noted).items)

after_event-kept : (MayEnd : ℕ → Type 0) (event : Completion) (request : Request) (entries after : List (Option Entry)) → AreKept MayEnd entries after
    → AreKept MayEnd entries (after_event event request after)
after_event-kept MayEnd (CommandDone place) request entries after each = each
after_event-kept MayEnd (DataDone place) request entries after each = each
after_event-kept MayEnd (StatusDone place) request entries after each = answered-kept MayEnd request entries after each
after_event-kept MayEnd (EngineDone place) request entries after each = each

-- an entry that keeps its task is written
seen_entry-kept : (MayEnd : ℕ → Type 0) (event : Completion) (part : Part) (slot : ℕ) (change : Entry → Option Entry) (seen : Option Entry)
    → option_and_then change (held_at part.entries slot) ≡ seen → ((was now : Entry) → change was ≡ Some now → now.task ≡ was.task)
    → AreKept MayEnd part.entries (seen_entry event part slot seen).part.entries
seen_entry-kept MayEnd event part slot change None is same = AreKept-self MayEnd part.entries
seen_entry-kept MayEnd event part slot change (Some seen) is same =
    after_event-kept MayEnd event seen.task.request part.entries (slice_set part.entries slot (Some seen))
    (written-kept MayEnd part.entries part.entries slot (Some seen) (AreKept-self MayEnd part.entries) (λ was now held is_now.
    let went : change was ≡ Some seen = ap (option_and_then change) (sym held) ∙ is in
    task-kept MayEnd was now (ap (λ (e : Entry). e.task) (same_Some now seen (sym is_now)) ∙ same was seen went)))

pub event_act-kept : (MayEnd : ℕ → Type 0) (event : Completion) (part : Part) → AreKept MayEnd part.entries (event_act event part).part.entries
event_act-kept MayEnd event part = seen_entry-kept MayEnd event part (event_place event).slot (seen_by event) _ refl (seen_by-task event)

-- RETIREMENT

pub stop_act-kept : (MayEnd : ℕ → Type 0) (place : Place) (part : Part) → AreKept MayEnd part.entries (stop_act place part).part.entries
stop_act-kept MayEnd place part = AreKept-self MayEnd part.entries

passed_slot-kept : (MayEnd : ℕ → Type 0) (pipe : Pipe) (place : Place) (part : Part) (held : Option Entry) → held_at part.entries place.slot ≡ held
    → AreKept MayEnd part.entries (passed_slot pipe part place held).part.entries
passed_slot-kept MayEnd pipe place part None is = AreKept-self MayEnd part.entries
passed_slot-kept MayEnd pipe place part (Some entry) is =
    entry-kept MayEnd part.entries part.entries place.slot entry (passed_on pipe entry) is (AreKept-self MayEnd part.entries)
    (task-kept MayEnd entry (passed_on pipe entry) (with_td_on-task (passed_td (trbs_on pipe entry)) pipe entry))

pub pass_act-kept : (MayEnd : ℕ → Type 0) (pipe : Pipe) (place : Place) (part : Part) → AreKept MayEnd part.entries (pass_act pipe place part).part.entries
pass_act-kept MayEnd pipe place part = passed_slot-kept MayEnd pipe place part (held_at part.entries place.slot) refl

pub retire_act-kept : (MayEnd : ℕ → Type 0) (pipe : Pipe) (place : Place) (part : Part) → AreKept MayEnd part.entries (retire_act pipe place part).part.entries
retire_act-kept MayEnd pipe place part = seen_entry-kept MayEnd (EngineDone place) part place.slot (retired_on pipe) _ refl (retired_on-task pipe)

-- TAKE

settled-kept : (MayEnd : ℕ → Type 0) (part : Part) (slot : ℕ) (rest : List ℕ) (reply : Option Reply)
    → AreKept MayEnd part.entries (settled part slot rest reply).part.entries
settled-kept MayEnd part slot rest None = AreKept-self MayEnd part.entries
settled-kept MayEnd part slot rest (Some reply) =
    written-kept MayEnd part.entries part.entries slot None (AreKept-self MayEnd part.entries) (λ was now held is. absurd (none-some now is))

taken-kept : (tags : ℕ) (MayEnd : ℕ → Type 0) (client : ℕ) (part : Part) (ready : List ℕ) → AreKept MayEnd part.entries (taken tags client part ready).part.entries
taken-kept tags MayEnd client part [] = AreKept-self MayEnd part.entries
taken-kept tags MayEnd client part (slot ∷ rest) =
    settled-kept MayEnd part slot rest (option_and_then (entry_reply (slot_tag tags client slot)) (held_at part.entries slot))

pub take_act-kept : (tags : ℕ) (MayEnd : ℕ → Type 0) (client : ℕ) (part : Part) → AreKept MayEnd part.entries (take_act tags client part).part.entries
take_act-kept tags MayEnd client part = taken-kept tags MayEnd client part part.ready
