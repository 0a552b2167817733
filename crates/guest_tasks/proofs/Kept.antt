-- Each tag with a task is active, and stays so.
use Rattle.std.proofs.Common.{◌≡◌, ℕ, zero, suc, ◌/◌, ◌<◌, ◌==◌, Bool, true, false, cond, List, [], ◌∷◌, length, get_or, set, Option, Some, None, refl, ap, sym, ◌∙◌, arith, inl, inr}
use Rattle.std.specs.Prelude.{◌⊎◌, map, is_some, option_map, nat_lt}
use Rattle.std.proofs.lemmas.Bool.{eqb-true, eqb-false, false≢true, ltb-true, ltb-false}
use Rattle.std.proofs.lemmas.List.{get_or-set_other, length-set}
use Rattle.marks.specs.Marks.{is_marked, with_mark}
use Rattle.uas_tasks.specs.declared.Task.{Task}
use Rattle.uas_tasks.specs.Slots.{SlotState, spared_slot}
use Rattle.uas_tasks.specs.Machine.{Machine, has_task, no_slot, slot_under, with_slot_under, without_its_task}
use Rattle.guest_tasks.specs.declared.GuestTasks.{GuestTasks}
use Rattle.guest_tasks.specs.Active.{TasksAreActive, with_active}
use Rattle.guest_tasks.proofs.Marked.{marked_here, marked_other}

-- no tag has a task that had none
abbrev pub AreFewer : List SlotState → List SlotState → Type 0
AreFewer before after = (tag : ℕ) → is_some (slot_under after tag).task ≡ true → is_some (slot_under before tag).task ≡ true

pub fewer : (device : GuestTasks) (after : Machine) → TasksAreActive device → AreFewer device.tasks.slots after.slots
    → TasksAreActive (record device { tasks = after })
fewer device after active less = record { room = active.room; active = λ tag below has. active.active tag below (less tag has) }

-- SLOTS

slot_other : (slots : List SlotState) (tag other : ℕ) (now : SlotState) → (other ≡ tag → ⊥)
    → slot_under (with_slot_under slots tag now) other ≡ slot_under slots other
slot_other slots zero other now apart = refl
slot_other slots (suc place) zero now apart = refl
slot_other slots (suc place) (suc other) now apart = get_or-set_other slots place other now no_slot (λ e. apart (ap suc e))

list_here : (slots : List SlotState) (place : ℕ) (now : SlotState) → is_some (get_or (set slots place now) place no_slot).task ≡ true
    → (is_some now.task ≡ true) ⊎ (is_some (get_or slots place no_slot).task ≡ true)
list_here [] place now has = inr has
list_here (slot ∷ slots) zero now has = inl has
list_here (slot ∷ slots) (suc place) now has = list_here slots place now has

slot_here : (slots : List SlotState) (tag : ℕ) (now : SlotState) → is_some (slot_under (with_slot_under slots tag now) tag).task ≡ true
    → (is_some now.task ≡ true) ⊎ (is_some (slot_under slots tag).task ≡ true)
slot_here slots zero now has = inr has
slot_here slots (suc place) now has = list_here slots place now has

-- a slot that has a task only where it had
fewer_by : (slots : List SlotState) (tag : ℕ) (now : SlotState) → (is_some now.task ≡ true → is_some (slot_under slots tag).task ≡ true)
    → (other : ℕ) (same : Bool) → (other == tag) ≡ same → is_some (slot_under (with_slot_under slots tag now) other).task ≡ true
    → is_some (slot_under slots other).task ≡ true
fewer_by slots tag now less other true is has =
    let e : other ≡ tag = eqb-true other tag is in
    ap (λ (n : ℕ). is_some (slot_under slots n).task) e
    ∙ elim (slot_here slots tag now (sym (ap (λ (n : ℕ). is_some (slot_under (with_slot_under slots tag now) n).task) e) ∙ has)) [
      | inl new ↦ less new
      | inr old ↦ old
    ]
fewer_by slots tag now less other false is has =
    sym (ap (λ (slot : SlotState). is_some slot.task) (slot_other slots tag other now (eqb-false other tag is))) ∙ has

pub fewer_at : (slots : List SlotState) (tag : ℕ) (now : SlotState) → (is_some now.task ≡ true → is_some (slot_under slots tag).task ≡ true)
    → AreFewer slots (with_slot_under slots tag now)
fewer_at slots tag now less = λ other has. fewer_by slots tag now less other (other == tag) refl has

pub mapped : (f : Task → Task) (task : Option Task) → is_some (option_map f task) ≡ true → is_some task ≡ true
mapped f None has = has
mapped f (Some task) has = refl

spared_if : (b : Bool) (task : Option Task) → is_some (cond b None task) ≡ true → is_some task ≡ true
spared_if true task has = absurd (false≢true has)
spared_if false task has = has

list_fewer : (f : SlotState → SlotState) → ((slot : SlotState) → is_some (f slot).task ≡ true → is_some slot.task ≡ true) → (slots : List SlotState)
    (place : ℕ) → is_some (get_or (map f slots) place no_slot).task ≡ true → is_some (get_or slots place no_slot).task ≡ true
list_fewer f less [] place has = has
list_fewer f less (slot ∷ slots) zero has = less slot has
list_fewer f less (slot ∷ slots) (suc place) has = list_fewer f less slots place has

pub all_fewer : (f : SlotState → SlotState) → ((slot : SlotState) → is_some (f slot).task ≡ true → is_some slot.task ≡ true) → (slots : List SlotState)
    → AreFewer slots (map f slots)
all_fewer f less slots zero has = has
all_fewer f less slots (suc place) has = list_fewer f less slots place has

-- A TAG BECOMES ACTIVE

length_if : (b : Bool) (active : List ℕ) (tag : ℕ) → length (cond b (with_mark active tag true) active) ≡ length active
length_if true active tag = length-set active (tag / 64) _
length_if false active tag = refl

marks_by : (active : List ℕ) (tag other : ℕ) (within same : Bool) → length active ≡ 4 → nat_lt tag 256 ≡ within → (other == tag) ≡ same → other < 256
    → ((other ≡ tag → ⊥) → is_marked active other ≡ true) → is_marked (cond within (with_mark active tag true) active) other ≡ true
marks_by active tag other true true room low is below old =
    let under : tag < 256 = ltb-true tag 256 low in
    ap (is_marked (with_mark active tag true)) (eqb-true other tag is) ∙ marked_here active tag (omega (arith, room, under))
marks_by active tag other true false room low is below old =
    let under : tag < 256 = ltb-true tag 256 low in
    let apart : other ≡ tag → ⊥ = eqb-false other tag is in
    marked_other active tag true other (omega (arith, room, under)) apart ∙ old apart
marks_by active tag other false true room low is below old =
    let e : other ≡ tag = eqb-true other tag is in
    let over = ltb-false tag 256 low in absurd (omega (arith, e, below, over))
marks_by active tag other false false room low is below old = old (eqb-false other tag is)

-- a task begins on a tag, or none
pub began : (device : GuestTasks) (tag : ℕ) (after : Machine) → TasksAreActive device
    → ((other : ℕ) → (other ≡ tag → ⊥) → has_task after other ≡ true → has_task device.tasks other ≡ true)
    → TasksAreActive (record { tasks = after; active = with_active device.active tag })
began device tag after active others = record {
  room = length_if (nat_lt tag 256) device.active tag ∙ active.room;
  active = λ other below has. marks_by device.active tag other (nat_lt tag 256) (other == tag) active.room refl refl below
      (λ apart. active.active other below (others other apart has));
}

-- others' slots stay
pub others_stay : (slots : List SlotState) (tag : ℕ) (now : SlotState) (other : ℕ) → (other ≡ tag → ⊥)
    → is_some (slot_under (with_slot_under slots tag now) other).task ≡ true → is_some (slot_under slots other).task ≡ true
others_stay slots tag now other apart has = sym (ap (λ (slot : SlotState). is_some slot.task) (slot_other slots tag other now apart)) ∙ has

pub none_left : (slot : SlotState) → is_some (without_its_task slot).task ≡ true → is_some slot.task ≡ true
none_left slot has = absurd (false≢true has)

pub spared_less : (number : ℕ) (slot : SlotState) → is_some (spared_slot number slot).task ≡ true → is_some slot.task ≡ true
spared_less number slot has = spared_if _ slot.task has
