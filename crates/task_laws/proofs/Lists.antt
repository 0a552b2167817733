-- Logical units and slots of lists: what stands under a number, and what is so once one is written.
use Rattle.std.proofs.Common.{◌≡◌, ℕ, zero, suc, ◌<◌, ◌≤◌, List, [], ◌∷◌, length, map, Option, Some, None, refl, arith, ap, length-set}
use Rattle.std.specs.Prelude.{slice_get, slice_index_or, slice_set}
use Rattle.std.proofs.lemmas.List.{get_or-set_same, set-set}
use Rattle.block_unit.specs.BlockMaps.{BlockMaps}
use Rattle.scsi_cmd.specs.Held.{held_under, with_held_under}
use Rattle.uas_target.specs.declared.DeviceTask.{DeviceTask}
use Rattle.uas_tasks.specs.declared.LogicalUnit.{LogicalUnit}
use Rattle.uas_tasks.specs.Machine.{no_slot, slot_under, with_slot_under}
use Rattle.uas_tasks.specs.Slots.{SlotState}
use Rattle.task_laws.specs.Same.{SameSlot, SameTasks, SameUnit, SameUnits}

-- LOGICAL UNITS

-- what stands under a number: the same in each, or nothing
abbrev pub SameFound : Option BlockMaps → Option LogicalUnit → Option BlockMaps → Type 0
SameFound None None None = Unit {0}
SameFound (Some device) (Some unit) (Some maps) = SameUnit device unit maps
SameFound device unit maps = ⊥

pub units_at : (devices : List BlockMaps) (units : List LogicalUnit) (others : List BlockMaps) (number : ℕ) → SameUnits devices units others →
    SameFound (slice_get devices number) (slice_get units number) (slice_get others number)
units_at [] [] [] number same = tt
units_at (device ∷ devices) (unit ∷ units) (maps ∷ others) zero same = same.0
units_at (device ∷ devices) (unit ∷ units) (maps ∷ others) (suc number) same = units_at devices units others number same.1
units_at [] [] (maps ∷ others) number same = absurd same
units_at [] (unit ∷ units) others number same = absurd same
units_at (device ∷ devices) [] others number same = absurd same
units_at (device ∷ devices) (unit ∷ units) [] number same = absurd same

pub units_set : (devices : List BlockMaps) (units : List LogicalUnit) (others : List BlockMaps) (number : ℕ) (device : BlockMaps) (unit : LogicalUnit)
    (maps : BlockMaps) → SameUnits devices units others → SameUnit device unit maps →
    SameUnits (slice_set devices number device) (slice_set units number unit) (slice_set others number maps)
units_set [] [] [] number device unit maps same now = tt
units_set (old ∷ devices) (one ∷ units) (other ∷ others) zero device unit maps same now = (now, same.1)
units_set (old ∷ devices) (one ∷ units) (other ∷ others) (suc number) device unit maps same now =
    (same.0, units_set devices units others number device unit maps same.1 now)
units_set [] [] (other ∷ others) number device unit maps same now = absurd same
units_set [] (one ∷ units) others number device unit maps same now = absurd same
units_set (old ∷ devices) [] others number device unit maps same now = absurd same
units_set (old ∷ devices) (one ∷ units) [] number device unit maps same now = absurd same

pub set_found : {T : Type 0} (xs : List T) (number : ℕ) (x : T) → slice_get xs number ≡ Some x → slice_set xs number x ≡ xs
set_found [] number x is = refl
set_found {T} (first ∷ xs) zero x is = let same : ◌≡◌ {A = Option T} (Some first) (Some x) = is in ap (λ (y : T). y ∷ xs) cc
set_found (first ∷ xs) (suc number) x is = ap (λ rest. first ∷ rest) (set_found xs number x is)

-- SLOTS

slots_at : (counts : List ℕ) (tasks : List (Option DeviceTask)) (slots : List SlotState) (place : ℕ) → SameTasks counts tasks slots → place < length slots →
    SameSlot counts (slice_index_or tasks place None) (slice_index_or slots place no_slot)
slots_at counts [] [] place same within = absurd (omega arith)
slots_at counts (task ∷ tasks) (slot ∷ slots) zero same within = same.0
slots_at counts (task ∷ tasks) (slot ∷ slots) (suc place) same within = slots_at counts tasks slots place same.1 (omega arith)
slots_at counts [] (slot ∷ slots) place same within = absurd same
slots_at counts (task ∷ tasks) [] place same within = absurd same

-- as many tasks as slots
pub same_long : (counts : List ℕ) (tasks : List (Option DeviceTask)) (slots : List SlotState) → SameTasks counts tasks slots →
    length tasks ≡ length slots
same_long counts [] [] same = refl
same_long counts (task ∷ tasks) (slot ∷ slots) same = ap suc (same_long counts tasks slots same.1)
same_long counts [] (slot ∷ slots) same = absurd same
same_long counts (task ∷ tasks) [] same = absurd same

-- a tag that a task may have
abbrev pub IsThere : ℕ → List SlotState → Type 0
IsThere tag slots = (1 ≤ tag) × (tag ≤ length slots)

pub slot_at : (counts : List ℕ) (tasks : List (Option DeviceTask)) (slots : List SlotState) (tag : ℕ) → SameTasks counts tasks slots → IsThere tag slots →
    SameSlot counts (held_under tasks tag) (slot_under slots tag)
slot_at counts tasks slots zero same here = absurd (omega (arith, here.0))
slot_at counts tasks slots (suc place) same here = slots_at counts tasks slots place same (omega (arith, here.1))

slots_set : (counts : List ℕ) (tasks : List (Option DeviceTask)) (slots : List SlotState) (place : ℕ) (task : Option DeviceTask) (slot : SlotState) →
    SameTasks counts tasks slots → (SameSlot counts (slice_index_or tasks place None) (slice_index_or slots place no_slot) → SameSlot counts task slot) →
    SameTasks counts (slice_set tasks place task) (slice_set slots place slot)
slots_set counts [] [] place task slot same now = tt
slots_set counts (one ∷ tasks) (old ∷ slots) zero task slot same now = (now same.0, same.1)
slots_set counts (one ∷ tasks) (old ∷ slots) (suc place) task slot same now = (same.0, slots_set counts tasks slots place task slot same.1 now)
slots_set counts [] (old ∷ slots) place task slot same now = absurd same
slots_set counts (one ∷ tasks) [] place task slot same now = absurd same

-- a tag has another task now, where it may have one
pub slot_set : (counts : List ℕ) (tasks : List (Option DeviceTask)) (slots : List SlotState) (tag : ℕ) (task : Option DeviceTask) (slot : SlotState) →
    SameTasks counts tasks slots → (SameSlot counts (held_under tasks tag) (slot_under slots tag) → SameSlot counts task slot) →
    SameTasks counts (with_held_under tasks tag task) (with_slot_under slots tag slot)
slot_set counts tasks slots zero task slot same now = same
slot_set counts tasks slots (suc place) task slot same now = slots_set counts tasks slots place task slot same now

-- every tag has
pub slots_map : (counts : List ℕ) (tasks : List (Option DeviceTask)) (slots : List SlotState) (f : Option DeviceTask → Option DeviceTask)
    (g : SlotState → SlotState) → ((task : Option DeviceTask) (slot : SlotState) → SameSlot counts task slot → SameSlot counts (f task) (g slot)) →
    SameTasks counts tasks slots → SameTasks counts (map f tasks) (map g slots)
slots_map counts [] [] f g keeps same = tt
slots_map counts (task ∷ tasks) (slot ∷ slots) f g keeps same = (keeps task slot same.0, slots_map counts tasks slots f g keeps same.1)
slots_map counts [] (slot ∷ slots) f g keeps same = absurd same
slots_map counts (task ∷ tasks) [] f g keeps same = absurd same

-- whatever is so of a tag's task in both, and where there is none
slots_so : (P : Option DeviceTask → SlotState → Type 0) (counts : List ℕ) (tasks : List (Option DeviceTask)) (slots : List SlotState) (place : ℕ) →
    P None no_slot → ((task : Option DeviceTask) (slot : SlotState) → SameSlot counts task slot → P task slot) → SameTasks counts tasks slots →
    P (slice_index_or tasks place None) (slice_index_or slots place no_slot)
slots_so P counts [] [] place none so same = none
slots_so P counts (task ∷ tasks) (slot ∷ slots) zero none so same = so task slot same.0
slots_so P counts (task ∷ tasks) (slot ∷ slots) (suc place) none so same = slots_so P counts tasks slots place none so same.1
slots_so P counts [] (slot ∷ slots) place none so same = absurd same
slots_so P counts (task ∷ tasks) [] place none so same = absurd same

pub slot_so : (P : Option DeviceTask → SlotState → Type 0) (counts : List ℕ) (tasks : List (Option DeviceTask)) (slots : List SlotState) (tag : ℕ) →
    P None no_slot → ((task : Option DeviceTask) (slot : SlotState) → SameSlot counts task slot → P task slot) → SameTasks counts tasks slots →
    P (held_under tasks tag) (slot_under slots tag)
slot_so P counts tasks slots zero none so same = none
slot_so P counts tasks slots (suc place) none so same = slots_so P counts tasks slots place none so same

-- A SLOT THAT WAS WRITTEN

pub slot_under-with : (slots : List SlotState) (tag : ℕ) (now : SlotState) → IsThere tag slots → slot_under (with_slot_under slots tag now) tag ≡ now
slot_under-with slots zero now here = absurd (omega (arith, here.0))
slot_under-with slots (suc place) now here = get_or-set_same slots place now no_slot (omega (arith, here.1))

pub with_slot_under-twice : (slots : List SlotState) (tag : ℕ) (first now : SlotState) →
    with_slot_under (with_slot_under slots tag first) tag now ≡ with_slot_under slots tag now
with_slot_under-twice slots zero first now = refl
with_slot_under-twice slots (suc place) first now = set-set slots place first now

pub length-with_slot_under : (slots : List SlotState) (tag : ℕ) (now : SlotState) → length (with_slot_under slots tag now) ≡ length slots
length-with_slot_under slots zero now = refl
length-with_slot_under slots (suc place) now = length-set slots place now
