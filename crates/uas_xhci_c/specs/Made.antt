-- What a controller that was just made is.
use Rattle.std.specs.Prelude.{◌≡◌, ℕ, List}
use Rattle.c_tasks.specs.declared.UasTasksUnit.{UasTasksUnit}
use Rattle.c_tasks.specs.Disks.{made_of_disks}
use Rattle.c_tasks.specs.Making.{made_tasks}
use Rattle.guest_tasks.specs.Active.{IsIdle}
use Rattle.xhci_machine.specs.declared.Machine.{Machine}
use Rattle.xhci_machine.specs.Effects.{opened}

-- It is as after a reset, with a disk plugged in, and that disk is the device of these logical units, without a task and without an active tag.
abbrev pub IsMade : List UasTasksUnit → ℕ → ℕ → ℕ → Machine → Type 0
IsMade units set most chunk machine =
    (machine.device.tasks ≡ made_tasks units set most chunk) × IsIdle machine.device × (machine ≡ opened machine.device)

-- the same, of logical units that say what there is to tell of them
abbrev pub IsMadeOfDisks : List ℕ → ℕ → ℕ → ℕ → Machine → Type 0
IsMadeOfDisks disks set most chunk machine =
    (machine.device.tasks ≡ made_of_disks disks set most chunk) × IsIdle machine.device × (machine ≡ opened machine.device)
