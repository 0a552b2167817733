-- The driver's calls leave what the caller asked for as it was.
use Rattle.std.proofs.Common.{◌≡◌, ℕ, Bool, true, false, if◌then◌else◌, nat_le, [], refl}
use Rattle.bring_up.specs.declared.access.Access.{Access}
use Rattle.bring_up.specs.declared.access.Access.TheVariants.{Read32, Load, Write32, Store, Rest}
use Rattle.bring_up.specs.declared.bring_up.BringUp.{BringUp}
use Rattle.bring_up.specs.Calls.{at_time, behind_rest, driver_access, stage_advanced}
use Rattle.disk_up.specs.declared.DiskUp.{DiskUp}
use Rattle.disk_up.specs.Disks.{driver_next}

picks : (rested : Bool) → (b : BringUp) →
    (if rested then record b { stage = stage_advanced b.stage b.time [] } else b).options ≡ b.options
picks true b = refl
picks false b = refl

keeps : (access : Access) → (b : BringUp) → (behind_rest access b).options ≡ b.options
keeps (Read32 offset) b = refl
keeps (Load at length) b = refl
keeps (Write32 offset value) b = refl
keeps (Store at bytes) b = refl
keeps (Rest until) b = picks (nat_le until b.time) b

pub next_keeps_options : (d : DiskUp) → (now : ℕ) → (driver_next d now).driver.options ≡ d.driver.options
next_keeps_options d now = keeps (driver_access (at_time d.driver now)) (at_time d.driver now)
