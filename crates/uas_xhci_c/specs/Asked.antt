-- What a turn that asks for memory makes of regions that are lent.
use Rattle.std.specs.Prelude.{◌≡◌, ℕ, ◌<◌, ◌≤◌, Bool, false, if◌then◌else◌, List, Option, length}
use Rattle.guest_memory.specs.Bytes.{is_there}
use Rattle.guest_memory.specs.Held.{held}
use Rattle.guest_memory.specs.Lend.{lent_in}
use Rattle.guest_memory.specs.declared.lend.Lent.{Lent}
use Rattle.guest_memory.specs.declared.notes.WrittenRange.{WrittenRange}
use Rattle.guest_memory.specs.declared.rings.wanting.Range.{Range}
use Rattle.xhci_machine.specs.declared.Machine.{Machine}
use Rattle.xhci_machine.specs.declared.work.Worked.{Worked}
use Rattle.xhci_machine.specs.Asking.{IsAsked}
use Rattle.uas_xhci_c.specs.declared.asking.UasXhciAsking.{UasXhciAsking}
use Rattle.uas_xhci_c.specs.Looked.{range_told}
use Rattle.uas_xhci_c.specs.Regions.{regions_fault}
use Rattle.uas_xhci_c.specs.Turned.{AreTold}

-- What was made of the bytes of the regions and of the machine is what `work_asking` makes of them (`IsAsked`): so many steps were taken, there may
-- be more to do at once, and this range is wanted for it. The ranges that were written are told.
pub record HasAsked (had now : Machine) (asking told : UasXhciAsking) (lent left : List Lent) (room : ℕ) (written : List WrittenRange) : Type 0 where
  pub worked : Worked
  pub named : Option Range
  pub lost : Bool
  pub is : IsAsked asking.turn.budget (held lent_in lent, had) (held lent_in left, now) worked named
  pub noted : AreTold (held lent_in lent) (held lent_in left) room written told.turn.noted lost
  pub steps : told.turn.steps ≡ worked.steps
  pub more : told.turn.more ≡ (if worked.more then 1 else 0)
  pub told_lost : told.turn.lost ≡ (if lost then 1 else 0)
  pub wanted : told.wanted ≡ range_told named

-- it answers the first fault of the regions, and then nothing has changed; else it takes as many steps as it may at most, and notes as many
-- ranges as there is room for at most. The range is empty, or a byte of it isn't in the regions. While R/S is 0 the machine stands, and so does the
-- memory, and nothing is wanted
abbrev pub Asked : Machine → Machine → UasXhciAsking → UasXhciAsking → List Lent → List Lent → List WrittenRange → List WrittenRange → ℕ → Type 0
Asked had now asking told lent left room written fault =
    (fault ≡ regions_fault lent)
    × (0 < fault → (now ≡ had) × (told ≡ asking) × (left ≡ lent) × (written ≡ room))
    × (fault ≡ 0 → (told.turn.steps ≤ asking.turn.budget) × (told.turn.noted ≤ length room))
    × (fault ≡ 0 → HasAsked had now asking told lent left (length room) written)
    × (fault ≡ 0 → 0 < told.wanted.length → is_there (held lent_in left) told.wanted.address told.wanted.length ≡ false)
    × (fault ≡ 0 → had.registers.runs ≡ false → (now ≡ had) × (held lent_in left ≡ held lent_in lent) × (told.wanted.length ≡ 0))
