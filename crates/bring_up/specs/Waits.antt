-- Waits: a register is read every few ms until something is so, or a limit is over.
use Rattle.std.specs.Prelude.{ℕ, nat_le, if◌then◌else◌, Bool, Option, Some, None, is_some}
use Rattle.bring_up.specs.declared.access.Access.{Access}
use Rattle.bring_up.specs.declared.access.Access.TheVariants.{Rest}
use Rattle.bring_up.specs.declared.waits.Wait.{Wait}
use Rattle.bring_up.specs.declared.waits.Waited.{Waited}
use Rattle.bring_up.specs.declared.waits.Waited.TheVariants.{So, Late, On}
use Rattle.bring_up.specs.Accesses.{later, read_at}

abbrev pub begun : ℕ → ℕ → Wait
begun now ms = record { limit = later now ms; rest = None }

abbrev pub wait_or_read : Option ℕ → ℕ → Access
wait_or_read (Some until) offset = Rest until
wait_or_read None offset = read_at offset

abbrev pub wait_access : Wait → ℕ → Access
wait_access wait offset = wait_or_read wait.rest offset

-- behind a rest comes a reading; a reading that isn't so is late, or a rest comes
abbrev pub waited : Wait → ℕ → ℕ → Bool → Waited
waited wait now period so =
    if is_some wait.rest then On (record { limit = wait.limit; rest = None })
    else if so then So
    else if nat_le wait.limit now then Late
    else On (record { limit = wait.limit; rest = Some (later now period) })
