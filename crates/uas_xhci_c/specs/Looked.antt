-- What a look ahead over regions that are lent answers.
use Rattle.std.specs.Prelude.{◌≡◌, ℕ, ◌<◌, false, List, Option, Some, None}
use Rattle.guest_memory.specs.Bytes.{is_there}
use Rattle.guest_memory.specs.Held.{held}
use Rattle.guest_memory.specs.Lend.{lent_in}
use Rattle.guest_memory.specs.declared.lend.Lent.{Lent}
use Rattle.guest_memory.specs.declared.rings.wanting.Range.{Range}
use Rattle.xhci_machine.specs.declared.Machine.{Machine}
use Rattle.xhci_machine.specs.Wanted.{wanted}
use Rattle.uas_xhci_c.specs.declared.wants.UasXhciRange.{UasXhciRange}
use Rattle.uas_xhci_c.specs.Regions.{regions_fault}

-- a range as C has it: one of no bytes where there is none
abbrev pub range_told : Option Range → UasXhciRange
range_told None = record { address = 0; length = 0 }
range_told (Some range) = record { address = range.at; length = range.count }

-- it answers the first fault of the regions, and then the range is as it was; machine and regions always are. Else the range is what the next step
-- lacks (`wanted`): it is empty, or a byte of it isn't in the regions; while R/S is 0 it is empty
abbrev pub Looked : Machine → Machine → UasXhciRange → UasXhciRange → List Lent → List Lent → ℕ → Type 0
Looked had now range told lent left fault =
    (fault ≡ regions_fault lent)
    × (now ≡ had)
    × (left ≡ lent)
    × (0 < fault → told ≡ range)
    × (fault ≡ 0 → told ≡ range_told (wanted (held lent_in lent) had))
    × (fault ≡ 0 → 0 < told.length → is_there (held lent_in lent) told.address told.length ≡ false)
    × (fault ≡ 0 → had.registers.runs ≡ false → told.length ≡ 0)
