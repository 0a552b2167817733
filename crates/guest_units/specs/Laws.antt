-- The laws: the whole controller changes its device by calls on it alone, so the logical units behind it are apart.
use Rattle.std.specs.Prelude.{◌≡◌, ℕ, Bool, List, length}
use Rattle.std.specs.List.{AllByRecursion, filter}
use Rattle.units_apart.specs.Apart.{Alike, IsOwned, KeepsTo, Owner, is_of}
use Rattle.units_apart.specs.Calls.{Call, called}
use Rattle.units_apart.specs.Runs.{after}
use Rattle.xhci_registers.specs.declared.Width.{Width}
use Rattle.xhci_machine.specs.declared.Machine.{Machine}
use Rattle.xhci_machine.specs.declared.work.Worked.{Worked}
use Rattle.xhci_machine.specs.Effects.{page_done, plugged_in}
use Rattle.xhci_machine.specs.Turns.{World}
use Rattle.xhci_machine.specs.Worked.{RoundsWorked}
use Rattle.guest_units.specs.Rounds.{WorkMakes}
use Rattle.guest_units.specs.Turns.{IsPowerOn, Makes, tasks_of}

-- `work` makes of the device what the calls of its turns make of it, one behind the other
abbrev pub RunsAreCalls : Type 0
RunsAreCalls =
    (budget : ℕ) (w now : World) (worked : Worked) → RoundsWorked budget w now worked
    → (calls : List Call) × WorkMakes budget w worked calls × (tasks_of now ≡ after called (tasks_of w) calls)

-- a write of the register page leaves the device, or resets it: once, or once for each half of eight bytes
abbrev pub WritesAreResets : Type 0
WritesAreResets =
    (m : Machine) (offset : ℕ) (width : Width) (value : ℕ)
    → (calls : List Call) × AllByRecursion IsPowerOn calls × ((page_done m offset width value).device.tasks ≡ after called m.device.tasks calls)

-- so does pulling the disk; plugging it in leaves it
abbrev pub PlugsAreResets : Type 0
PlugsAreResets =
    (m : Machine) (is_in : Bool) → (calls : List Call) × Makes IsPowerOn m.device.tasks (plugged_in m is_in).device.tasks calls

-- LOGICAL UNITS. Where each information unit of `work` keeps to the owners, the own part of a user ends as it would with the calls of its
-- own tags alone, and the device stays owned. So what is written to memory for others, and when, makes no difference to it.
abbrev pub UnitsStayApart : Type 0
UnitsStayApart =
    (owner : Owner) (user budget : ℕ) (w now : World) (worked : Worked) → IsOwned owner (tasks_of w) → RoundsWorked budget w now worked
    → (calls : List Call) × WorkMakes budget w worked calls
    × (AllByRecursion (KeepsTo owner (length (tasks_of w).units)) calls
    → IsOwned owner (tasks_of now) × Alike owner user (tasks_of now) (after called (tasks_of w) (filter (is_of owner user) calls)))
