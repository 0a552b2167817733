-- What is so of every task of a client, and of its unit, stays so by each act on the client's part; and only a Take brings a reply. Cited by
-- FineSteps.
use Rattle.std.proofs.Common.{◌≡◌, ℕ, Bool, List, [], ◌∷◌, map, Option, Some, None, option_map, IfSome}
use Rattle.std.proofs.Common.{refl, arith, sym, subst}
use Rattle.std.specs.Prelude.{slice_set, option_and_then}
use Rattle.std.proofs.lemmas.Option.{none-some}
use Rattle.block_unit.specs.BlockMaps.{BlockMaps}
use Rattle.uas_profile.specs.declared.Pipe.{Pipe}
use Rattle.uas_profile.specs.declared.Place.{Place}
use Rattle.scsi_cmd.specs.Held.{AllHeld, held_at}
use Rattle.scsi_cmd.specs.Laws.{AllHeld-held, AllHeld-set}
use Rattle.scsi_cmd.specs.Request.{ended_by}
use Rattle.scsi_cmd.specs.declared.Request.{Request}
use Rattle.scsi_cmd.specs.declared.Request.TheVariants.{Execute, Manage}
use Rattle.solo_model.specs.TaggedTask.{TaggedTask, carried, finds, moved, sent}
use Rattle.shared_machine.specs.declared.Completion.{Completion}
use Rattle.shared_machine.specs.declared.Completion.TheVariants.{CommandDone, DataDone, StatusDone, EngineDone}
use Rattle.shared_machine.specs.Td.{Entry, passed_on, passed_td, retired_on, trbs_on, with_trb_taken}
use Rattle.shared_machine.specs.Part.{Part, Act, after_answer, after_event, carried_entry, carried_slot, carry_act, doomed, entries_after}
use Rattle.shared_machine.specs.Part.{data_td_after, took_trb}
use Rattle.shared_machine.specs.Part.{event_act, event_place, move_act, moved_entry, moved_slot, noted_entry, pass_act, passed_slot, retire_act, seen_by}
use Rattle.shared_machine.specs.Part.{seen_entry, send_act, sent_entry, sent_slot, stop_act, tasks_in}
use Rattle.shared_machine.proofs.KeptTasks.{doomed-task, retired_on-task, seen_by-task, with_td_on-task}
use Rattle.booked_limits.proofs.FineTasks.{IsFine, IsMoved, IsSameUnit, IsWide, carried-fine, carried-unit, moved-fine, noted-fine, same_unit-then, sent-fine}

abbrev pub IsFineEntry : ℕ → Entry → Type 0
IsFineEntry count entry = IsFine count entry.task

-- a client's part, whose unit was this one at first
pub record IsFinePart (first : BlockMaps) (part : Part) : Type 0 where
  pub tasks : AllHeld (IsFineEntry part.unit.count) part.entries
  pub unit_same : IsSameUnit first part.unit

-- an act that brings no reply
pub record IsFineAct (first : BlockMaps) (act : Act) : Type 0 where
  pub part_fine : IsFinePart first act.part
  pub silent : act.reply ≡ None

-- ENTRIES

changed-fine : (count : ℕ) (change : Entry → Entry) (entries : List (Option Entry)) → ((entry : Entry) → IsFineEntry count entry → IsFineEntry count (change entry))
    → AllHeld (IsFineEntry count) entries → AllHeld (IsFineEntry count) (map (option_map change) entries)
changed-fine count change [] keeps all = tt
changed-fine count change (None ∷ rest) keeps all = (tt, changed-fine count change rest keeps all.1)
changed-fine count change (Some entry ∷ rest) keeps all = (keeps entry all.0, changed-fine count change rest keeps all.1)

-- an entry that keeps its task
same_task-fine : (count : ℕ) (was now : Entry) → now.task ≡ was.task → IsFineEntry count was → IsFineEntry count now
same_task-fine count was now same fine = subst (λ (task : TaggedTask). IsFine count task) (sym same) fine

-- one slot is written
pub written-fine : (first : BlockMaps) (part : Part) (slot : ℕ) (now : Option Entry) → IsFinePart first part → IfSome now (IsFineEntry part.unit.count)
    → IsFinePart first (record part { entries = slice_set part.entries slot now })
written-fine first part slot now fine here = record {
  tasks = AllHeld-set (IsFineEntry part.unit.count) part.entries slot now fine.tasks here;
  unit_same = fine.unit_same;
}

-- what stands in a slot
pub held-fine : (first : BlockMaps) (part : Part) (slot : ℕ) (entry : Entry) → IsFinePart first part → held_at part.entries slot ≡ Some entry
    → IsFineEntry part.unit.count entry
held-fine first part slot entry fine is = AllHeld-held (IsFineEntry part.unit.count) part.entries slot entry fine.tasks is

-- CARRY

received-fine : (count : ℕ) (request : Request) (entries : List (Option Entry)) → AllHeld (IsFineEntry count) entries
    → AllHeld (IsFineEntry count) (entries_after request entries)
received-fine count (Execute op) entries all = all
received-fine count (Manage what noted) entries all =
    changed-fine count (noted_entry (ended_by what noted).items) entries (λ entry fine. noted-fine count (ended_by what noted).items entry.task fine) all

carried_entry-fine : (first : BlockMaps) (part : Part) (place : Place) (entry : Entry) (after : Option (BlockMaps × TaggedTask)) → IsFinePart first part
    → held_at part.entries place.slot ≡ Some entry → carried part.unit (finds entry.task.request (tasks_in part.entries)) entry.task ≡ after
    → IsFineAct first (carried_entry part place.slot place entry after)
carried_entry-fine first part place entry None fine held is = record { part_fine = fine; silent = refl }
carried_entry-fine first part place entry (Some after) fine held is =
    let found : Bool = finds entry.task.request (tasks_in part.entries) in
    let now : Entry = record entry { task = after.1; command_td = with_trb_taken entry.command_td } in
    let same : IsSameUnit part.unit after.0 = carried-unit part.unit found entry.task entry.task.phase after is in
    let task : IsFineEntry part.unit.count now =
    carried-fine part.unit found entry.task entry.task.phase after is (held-fine first part place.slot entry fine held) in
    let entries : List (Option Entry) = entries_after entry.task.request part.entries in
    let all : AllHeld (IsFineEntry part.unit.count) (slice_set entries place.slot (Some now)) =
    AllHeld-set (IsFineEntry part.unit.count) entries place.slot (Some now) (received-fine part.unit.count entry.task.request part.entries fine.tasks) task in
    record {
      part_fine = record {
        tasks = subst (λ n. AllHeld (IsFineEntry n) (slice_set entries place.slot (Some now))) (sym same.count) all;
        unit_same = same_unit-then first part.unit after.0 fine.unit_same same;
      };
      silent = refl;
    }

carried_slot-fine : (first : BlockMaps) (part : Part) (place : Place) (held : Option Entry) → IsFinePart first part → held_at part.entries place.slot ≡ held
    → IsFineAct first (carried_slot part place.slot place held)
carried_slot-fine first part place None fine is = record { part_fine = fine; silent = refl }
carried_slot-fine first part place (Some entry) fine is =
    carried_entry-fine first part place entry (carried part.unit (finds entry.task.request (tasks_in part.entries)) entry.task) fine is refl

pub carry_act-fine : (first : BlockMaps) (place : Place) (part : Part) → IsFinePart first part → IsFineAct first (carry_act place part)
carry_act-fine first place part fine = carried_slot-fine first part place (held_at part.entries place.slot) fine refl

-- MOVE AND SEND

same-wide : (first unit : BlockMaps) → IsWide first → IsSameUnit first unit → IsWide unit
same-wide first unit wide same = omega (arith, wide, same.count, same.long)

moved_entry-fine : (first : BlockMaps) (part : Part) (place : Place) (entry : Entry) (after : Option (BlockMaps × TaggedTask)) → IsWide first
    → IsFinePart first part → held_at part.entries place.slot ≡ Some entry → moved part.unit entry.task ≡ after
    → IsFineAct first (moved_entry part place.slot place entry after)
moved_entry-fine first part place entry None wide fine held is = record { part_fine = fine; silent = refl }
moved_entry-fine first part place entry (Some after) wide fine held is =
    let it : IsMoved part.unit after =
    moved-fine part.unit entry.task after (same-wide first part.unit wide fine.unit_same) is (held-fine first part place.slot entry fine held) in
    let now : Entry = record entry { task = after.1; data_td = data_td_after (took_trb after.1.phase) entry.data_td } in
    let all : AllHeld (IsFineEntry part.unit.count) (slice_set part.entries place.slot (Some now)) =
    AllHeld-set (IsFineEntry part.unit.count) part.entries place.slot (Some now) fine.tasks it.task in
    record {
      part_fine = record {
        tasks = subst (λ n. AllHeld (IsFineEntry n) (slice_set part.entries place.slot (Some now))) (sym it.unit_same.count) all;
        unit_same = same_unit-then first part.unit after.0 fine.unit_same it.unit_same;
      };
      silent = refl;
    }

moved_slot-fine : (first : BlockMaps) (part : Part) (place : Place) (held : Option Entry) → IsWide first → IsFinePart first part
    → held_at part.entries place.slot ≡ held → IsFineAct first (moved_slot part place.slot place held)
moved_slot-fine first part place None wide fine is = record { part_fine = fine; silent = refl }
moved_slot-fine first part place (Some entry) wide fine is = moved_entry-fine first part place entry (moved part.unit entry.task) wide fine is refl

pub move_act-fine : (first : BlockMaps) → IsWide first → (place : Place) (part : Part) → IsFinePart first part → IsFineAct first (move_act place part)
move_act-fine first wide place part fine = moved_slot-fine first part place (held_at part.entries place.slot) wide fine refl

sent_entry-fine : (first : BlockMaps) (part : Part) (place : Place) (entry : Entry) (task : Option TaggedTask) → IsFinePart first part
    → held_at part.entries place.slot ≡ Some entry → sent entry.task ≡ task → IsFineAct first (sent_entry part place.slot place entry task)
sent_entry-fine first part place entry None fine held is = record { part_fine = fine; silent = refl }
sent_entry-fine first part place entry (Some task) fine held is = record {
  part_fine = written-fine first part place.slot (Some (record entry { task = task; status_td = with_trb_taken entry.status_td })) fine
      (sent-fine part.unit.count entry.task entry.task.phase task is (held-fine first part place.slot entry fine held));
  silent = refl;
}

sent_slot-fine : (first : BlockMaps) (part : Part) (place : Place) (held : Option Entry) → IsFinePart first part → held_at part.entries place.slot ≡ held
    → IsFineAct first (sent_slot part place.slot place held)
sent_slot-fine first part place None fine is = record { part_fine = fine; silent = refl }
sent_slot-fine first part place (Some entry) fine is = sent_entry-fine first part place entry (sent entry.task) fine is refl

pub send_act-fine : (first : BlockMaps) (place : Place) (part : Part) → IsFinePart first part → IsFineAct first (send_act place part)
send_act-fine first place part fine = sent_slot-fine first part place (held_at part.entries place.slot) fine refl

-- EVENTS

answered-fine : (count : ℕ) (request : Request) (entries : List (Option Entry)) → AllHeld (IsFineEntry count) entries
    → AllHeld (IsFineEntry count) (after_answer request entries)
answered-fine count (Execute op) entries all = all
answered-fine count (Manage what noted) entries all =
    changed-fine count (doomed (ended_by what noted).items) entries
    (λ entry fine. same_task-fine count entry (doomed (ended_by what noted).items entry) (doomed-task (ended_by what noted).items entry) fine) all

after_event-fine : (count : ℕ) (event : Completion) (request : Request) (entries : List (Option Entry)) → AllHeld (IsFineEntry count) entries
    → AllHeld (IsFineEntry count) (after_event event request entries)
after_event-fine count (CommandDone place) request entries all = all
after_event-fine count (DataDone place) request entries all = all
after_event-fine count (StatusDone place) request entries all = answered-fine count request entries all
after_event-fine count (EngineDone place) request entries all = all

-- an entry that keeps its task is written
seen_entry-fine : (first : BlockMaps) (event : Completion) (part : Part) (slot : ℕ) (change : Entry → Option Entry) (held seen : Option Entry)
    → IsFinePart first part → held_at part.entries slot ≡ held → option_and_then change held ≡ seen
    → ((was now : Entry) → change was ≡ Some now → now.task ≡ was.task) → IsFineAct first (seen_entry event part slot seen)
seen_entry-fine first event part slot change held None fine at is same = record { part_fine = fine; silent = refl }
seen_entry-fine first event part slot change None (Some seen) fine at is same = absurd (none-some seen is)
seen_entry-fine first event part slot change (Some was) (Some seen) fine at is same =
    let wrote : IsFinePart first (record part { entries = slice_set part.entries slot (Some seen) }) = written-fine first part slot (Some seen) fine
    (same_task-fine part.unit.count was seen (same was seen is) (held-fine first part slot was fine at)) in
    record {
      part_fine = record {
        tasks = after_event-fine part.unit.count event seen.task.request (slice_set part.entries slot (Some seen)) wrote.tasks;
        unit_same = fine.unit_same;
      };
      silent = refl;
    }

pub event_act-fine : (first : BlockMaps) (event : Completion) (part : Part) → IsFinePart first part → IsFineAct first (event_act event part)
event_act-fine first event part fine =
    seen_entry-fine first event part (event_place event).slot (seen_by event) (held_at part.entries (event_place event).slot)
    (option_and_then (seen_by event) (held_at part.entries (event_place event).slot)) fine refl refl (seen_by-task event)

-- RETIREMENT

pub stop_act-fine : (first : BlockMaps) (place : Place) (part : Part) → IsFinePart first part → IsFineAct first (stop_act place part)
stop_act-fine first place part fine = record { part_fine = fine; silent = refl }

passed_slot-fine : (first : BlockMaps) (pipe : Pipe) (part : Part) (place : Place) (held : Option Entry) → IsFinePart first part
    → held_at part.entries place.slot ≡ held → IsFineAct first (passed_slot pipe part place held)
passed_slot-fine first pipe part place None fine is = record { part_fine = fine; silent = refl }
passed_slot-fine first pipe part place (Some entry) fine is = record {
  part_fine = written-fine first part place.slot (Some (passed_on pipe entry)) fine
      (same_task-fine part.unit.count entry (passed_on pipe entry) (with_td_on-task (passed_td (trbs_on pipe entry)) pipe entry)
      (held-fine first part place.slot entry fine is));
  silent = refl;
}

pub pass_act-fine : (first : BlockMaps) (pipe : Pipe) (place : Place) (part : Part) → IsFinePart first part → IsFineAct first (pass_act pipe place part)
pass_act-fine first pipe place part fine = passed_slot-fine first pipe part place (held_at part.entries place.slot) fine refl

pub retire_act-fine : (first : BlockMaps) (pipe : Pipe) (place : Place) (part : Part) → IsFinePart first part
    → IsFineAct first (retire_act pipe place part)
retire_act-fine first pipe place part fine =
    seen_entry-fine first (EngineDone place) part place.slot (retired_on pipe) (held_at part.entries place.slot)
    (option_and_then (retired_on pipe) (held_at part.entries place.slot)) fine refl refl (retired_on-task pipe)
