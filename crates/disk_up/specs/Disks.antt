-- The calls: the accesses of the driver until its device has an address, then those of the device.
use Rattle.std.specs.Prelude.{ℕ, ◌-◌, ◌^◌, ◌&&◌, nat_le, not, if◌then◌else◌, Bool, true, false, Option, Some, None, List, []}
use Rattle.bring_up.specs.declared.access.Access.{Access}
use Rattle.bring_up.specs.declared.access.Access.TheVariants.{Read32, Load, Write32, Store, Rest}
use Rattle.bring_up.specs.declared.bring_up.BringUp.{BringUp}
use Rattle.bring_up.specs.declared.bring_up.Stage.{Stage}
use Rattle.bring_up.specs.declared.bring_up.Stage.TheVariants as stage
use Rattle.bring_up.specs.declared.options.Options.{Options}
use Rattle.bring_up.specs.Accesses.{is_read, is_written, kept}
use Rattle.bring_up.specs.Calls.{answered as driver_answered, at_time, begun, driver_access, fits, interrupted as driver_interrupted, is_addressed, is_gone, layout_of, told, woken}
use Rattle.bring_up.specs.Table.{word_in}
use Rattle.disk_up.specs.declared.DiskUp.{DiskUp}
use Rattle.disk_up.specs.declared.finding.FindStep.{FindStep}
use Rattle.disk_up.specs.declared.finding.FindStep.TheVariants.{Send, Serve, Take, Clear, ServeClear, Pipes, Configured}
use Rattle.disk_up.specs.declared.finding.Finding.{Finding}
use Rattle.disk_up.specs.Endings.{advanced}
use Rattle.disk_up.specs.Findings.{World, begun_finding, find_access, find_interrupted}
use Rattle.host_layout.specs.declared.layout.Layout.{Layout}

abbrev pub begun_with : Option BringUp → Option DiskUp
begun_with None = None
begun_with (Some driver) = Some (record { driver = driver; finding = begun_finding; is_asked = false })

abbrev pub begun_disk : Options → Option DiskUp
begun_disk options = begun_with (begun options)

-- THE DEVICE'S ACCESS

abbrev pub stage_find_access : Stage → Finding → Access
stage_find_access (stage.Surveying s) f = Rest (2 ^ 64 - 1)
stage_find_access (stage.Wanting c) f = Rest (2 ^ 64 - 1)
stage_find_access (stage.Taken t) f = find_access (record { finding = f; taken = t })
stage_find_access (stage.Refused why) f = Rest (2 ^ 64 - 1)
stage_find_access stage.Gone f = Rest (2 ^ 64 - 1)

abbrev pub own_access : DiskUp → Access
own_access d = stage_find_access d.driver.stage d.finding

abbrev pub disk_access : DiskUp → Access
disk_access d = kept (own_access d) d.driver.options.bar_bytes (layout_of d.driver.stage)

-- WHAT COMES AFTER IT

abbrev pub with_world : DiskUp → World → DiskUp
with_world d w = record d { driver = record d.driver { stage = stage.Taken w.taken }; finding = w.finding }

abbrev pub stage_advanced : Stage → DiskUp → List ℕ → DiskUp
stage_advanced (stage.Surveying s) d bytes = d
stage_advanced (stage.Wanting c) d bytes = d
stage_advanced (stage.Taken t) d bytes =
    with_world d (advanced (record { finding = d.finding; taken = t }) d.driver.options.tags d.driver.time (word_in bytes) bytes)
stage_advanced (stage.Refused why) d bytes = d
stage_advanced stage.Gone d bytes = d

abbrev pub disk_advanced : DiskUp → List ℕ → DiskUp
disk_advanced d bytes = stage_advanced d.driver.stage d bytes

abbrev pub behind_rest : Access → DiskUp → DiskUp
behind_rest (Read32 offset) d = d
behind_rest (Load at length) d = d
behind_rest (Write32 offset value) d = d
behind_rest (Store at bytes) d = d
behind_rest (Rest until) d = if nat_le until d.driver.time then disk_advanced d [] else d

abbrev pub disk_woken : DiskUp → DiskUp
disk_woken d = behind_rest (disk_access d) d

abbrev pub disk_told : DiskUp → DiskUp
disk_told d =
    let asked : DiskUp = record d { is_asked = is_read (disk_access d) } in
    if is_written (disk_access d) then disk_advanced asked [] else asked

-- THE CALLS

-- the driver with time passed: what rests up to it went on, and it told an access
abbrev pub driver_next : DiskUp → ℕ → DiskUp
driver_next d now = record d { driver = told (woken (at_time d.driver now)) }

-- a device that has no address is asked anew
abbrev pub forgotten : DiskUp → DiskUp
forgotten d = record d { finding = begun_finding; is_asked = false }

abbrev pub next_access : DiskUp → ℕ → Access
next_access d now =
    if is_addressed (driver_next d now).driver.stage then disk_access (disk_woken (driver_next d now))
    else driver_access (woken (at_time d.driver now))

-- the memory that was lent, as it is when the access is told
abbrev pub next_layout : DiskUp → ℕ → Option Layout
next_layout d now =
    if is_addressed (driver_next d now).driver.stage then layout_of (disk_woken (driver_next d now)).driver.stage
    else layout_of (woken (at_time d.driver now)).stage

abbrev pub next_state : DiskUp → ℕ → DiskUp
next_state d now =
    if is_addressed (driver_next d now).driver.stage then disk_told (disk_woken (driver_next d now)) else forgotten (driver_next d now)

abbrev pub own_taken : Bool → DiskUp → List ℕ → DiskUp
own_taken true d bytes = record d { driver = record d.driver { stage = stage.Gone } }
own_taken false d bytes = disk_advanced d bytes

abbrev pub own_answered : DiskUp → List ℕ → DiskUp
own_answered d bytes =
    if not d.is_asked then d
    else if not (fits (disk_access d) bytes) then d
    else own_taken (is_gone (disk_access d) bytes) (record d { is_asked = false }) bytes

abbrev pub answered : DiskUp → List ℕ → DiskUp
answered d bytes = if is_addressed d.driver.stage then own_answered d bytes else record d { driver = driver_answered d.driver bytes }

-- whether an access was told that is to be answered, and which
abbrev pub is_asked : DiskUp → Bool
is_asked d = if is_addressed d.driver.stage then d.is_asked else d.driver.is_asked

abbrev pub asked_access : DiskUp → Access
asked_access d = if is_addressed d.driver.stage then disk_access d else driver_access d.driver

abbrev pub disk_interrupted : DiskUp → DiskUp
disk_interrupted d = record d { driver = driver_interrupted d.driver; finding = find_interrupted d.finding }

abbrev pub step_configured : FindStep → Bool
step_configured (Send request at) = false
step_configured (Serve request moved ended service) = false
step_configured (Take request moved) = false
step_configured (Clear clearing at) = false
step_configured (ServeClear clearing came service) = false
step_configured (Pipes function streams at) = false
step_configured Configured = true

abbrev pub is_configured : DiskUp → Bool
is_configured d = is_addressed d.driver.stage && step_configured d.finding.step
