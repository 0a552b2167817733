-- What a turn of the controller makes of regions that are lent.
use Rattle.std.specs.Prelude.{◌≡◌, ℕ, ◌<◌, ◌≤◌, Bool, true, false, if◌then◌else◌, List, length}
use Rattle.guest_memory.specs.Bytes.{Memory}
use Rattle.guest_memory.specs.Held.{held}
use Rattle.guest_memory.specs.Lend.{lent_in}
use Rattle.guest_memory.specs.declared.lend.Lent.{Lent}
use Rattle.guest_memory.specs.declared.notes.WrittenRange.{WrittenRange}
use Rattle.guest_memory.specs.notes.Notes.{AreNoted, notes}
use Rattle.xhci_machine.specs.declared.Machine.{Machine}
use Rattle.xhci_machine.specs.declared.work.Worked.{Worked}
use Rattle.xhci_machine.specs.Worked.{IsWorked}
use Rattle.uas_xhci_c.specs.declared.turn.UasXhciTurn.{UasXhciTurn}
use Rattle.uas_xhci_c.specs.Regions.{regions_fault}

-- What is told of the writes that made one memory of another: their ranges, in their order, as far as there is room, and whether there were more.
-- Without any room nothing is noted, and some are lost.
pub record AreTold (memory after : Memory) (room : ℕ) (written : List WrittenRange) (noted : ℕ) (lost : Bool) : Type 0 where
  pub with_room : 0 < room → AreNoted memory after room (notes written noted lost)
  pub without : room ≡ 0 → (noted ≡ 0) × (lost ≡ true)

-- What was made of the bytes of the regions and of the machine is what `work` makes of them (`IsWorked`): so many steps were taken, and there may
-- be more to do at once. The ranges that were written are told.
pub record HasWorked (had now : Machine) (turn told : UasXhciTurn) (lent left : List Lent) (room : ℕ) (written : List WrittenRange) : Type 0 where
  pub worked : Worked
  pub lost : Bool
  pub is : IsWorked turn.budget (held lent_in lent) had (held lent_in left) now worked
  pub noted : AreTold (held lent_in lent) (held lent_in left) room written told.noted lost
  pub steps : told.steps ≡ worked.steps
  pub more : told.more ≡ (if worked.more then 1 else 0)
  pub told_lost : told.lost ≡ (if lost then 1 else 0)

-- it answers the first fault of the regions, and then nothing has changed; else it takes as many steps as it may at most, and notes as many
-- ranges as there is room for at most. While R/S is 0 the machine stands, and so does the memory
abbrev pub Turned : Machine → Machine → UasXhciTurn → UasXhciTurn → List Lent → List Lent → List WrittenRange → List WrittenRange → ℕ → Type 0
Turned had now turn told lent left room written fault =
    (fault ≡ regions_fault lent)
    × (0 < fault → (now ≡ had) × (told ≡ turn) × (left ≡ lent) × (written ≡ room))
    × (fault ≡ 0 → (told.steps ≤ turn.budget) × (told.noted ≤ length room))
    × (fault ≡ 0 → HasWorked had now turn told lent left (length room) written)
    × (fault ≡ 0 → had.registers.runs ≡ false → (now ≡ had) × (held lent_in left ≡ held lent_in lent))
