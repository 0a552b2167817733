-- The calls: the accesses of the device until it is configured, then those of the disk behind its pipes.
use Rattle.std.specs.Prelude.{ℕ, ◌-◌, ◌^◌, ◌&&◌, nat_le, not, if◌then◌else◌, Bool, true, false, Option, Some, None, List, []}
use Rattle.bring_up.specs.declared.access.Access.{Access}
use Rattle.bring_up.specs.declared.access.Access.TheVariants.{Read32, Load, Write32, Store, Rest}
use Rattle.bring_up.specs.declared.bring_up.Stage.{Stage}
use Rattle.bring_up.specs.declared.bring_up.Stage.TheVariants as stage
use Rattle.bring_up.specs.declared.options.Options.{Options}
use Rattle.bring_up.specs.Accesses.{is_read, is_written, kept}
use Rattle.bring_up.specs.Calls.{fits, is_gone, layout_of}
use Rattle.bring_up.specs.Table.{word_in}
use Rattle.disk_up.specs.declared.DiskUp.{DiskUp}
use Rattle.disk_up.specs.Disks.{answered as device_answered, asked_access as device_access, begun_disk, disk_interrupted, is_asked as is_device_asked, is_configured, next_access as device_next, next_layout as device_layout, next_state as device_state}
use Rattle.host_layout.specs.declared.layout.Layout.{Layout}
use Rattle.disk_ready.specs.declared.DiskReady.{DiskReady}
use Rattle.disk_ready.specs.declared.shapes.ReadyDisk.{ReadyDisk}
use Rattle.disk_ready.specs.declared.steps.ReadyStep.{ReadyStep}
use Rattle.disk_ready.specs.declared.steps.ReadyStep.TheVariants.{Begin, Sending, Serve, Status, Free, ServeFree, Context, Mend, Take, Pause, Ready}
use Rattle.disk_ready.specs.Shapes.{disk_of}
use Rattle.disk_ready.specs.Steps.{World, begun_readying, found_access}
use Rattle.disk_ready.specs.Table.{found_advanced, ready_interrupted}

abbrev pub begun_with : Option DiskUp → Option DiskReady
begun_with None = None
begun_with (Some device) = Some (record { device = device; ready = begun_readying; is_asked = false })

abbrev pub begun_ready : Options → Option DiskReady
begun_ready options = begun_with (begun_disk options)

-- THE DISK'S ACCESS

abbrev pub stage_access : Stage → DiskReady → Access
stage_access (stage.Surveying s) d = Rest (2 ^ 64 - 1)
stage_access (stage.Wanting c) d = Rest (2 ^ 64 - 1)
stage_access (stage.Taken t) d = found_access d.device.finding.known.disk (record { ready = d.ready; taken = t })
stage_access (stage.Refused why) d = Rest (2 ^ 64 - 1)
stage_access stage.Gone d = Rest (2 ^ 64 - 1)

abbrev pub own_access : DiskReady → Access
own_access d = stage_access d.device.driver.stage d

abbrev pub disk_access : DiskReady → Access
disk_access d = kept (own_access d) d.device.driver.options.bar_bytes (layout_of d.device.driver.stage)

-- WHAT COMES AFTER IT

abbrev pub with_world : DiskReady → World → DiskReady
with_world d w = record d { device = record d.device { driver = record d.device.driver { stage = stage.Taken w.taken } }; ready = w.ready }

abbrev pub stage_advanced : Stage → DiskReady → List ℕ → DiskReady
stage_advanced (stage.Surveying s) d bytes = d
stage_advanced (stage.Wanting c) d bytes = d
stage_advanced (stage.Taken t) d bytes =
    with_world d
    (found_advanced d.device.finding.known.disk (record { ready = d.ready; taken = t }) d.device.driver.time (word_in bytes) bytes)
stage_advanced (stage.Refused why) d bytes = d
stage_advanced stage.Gone d bytes = d

abbrev pub disk_advanced : DiskReady → List ℕ → DiskReady
disk_advanced d bytes = stage_advanced d.device.driver.stage d bytes

abbrev pub behind_rest : Access → DiskReady → DiskReady
behind_rest (Read32 offset) d = d
behind_rest (Load at length) d = d
behind_rest (Write32 offset value) d = d
behind_rest (Store at bytes) d = d
behind_rest (Rest until) d = if nat_le until d.device.driver.time then disk_advanced d [] else d

abbrev pub disk_woken : DiskReady → DiskReady
disk_woken d = behind_rest (disk_access d) d

abbrev pub disk_told : DiskReady → DiskReady
disk_told d =
    let asked : DiskReady = record d { is_asked = is_read (disk_access d) } in
    if is_written (disk_access d) then disk_advanced asked [] else asked

-- THE CALLS

-- the device with time passed
abbrev pub device_passed : DiskReady → ℕ → DiskReady
device_passed d now = record d { device = device_state d.device now }

-- a device that isn't configured is asked anew
abbrev pub forgotten : DiskReady → DiskReady
forgotten d = record d { ready = begun_readying; is_asked = false }

abbrev pub next_access : DiskReady → ℕ → Access
next_access d now = if is_configured d.device then disk_access (disk_woken (device_passed d now)) else device_next d.device now

abbrev pub next_layout : DiskReady → ℕ → Option Layout
next_layout d now =
    if is_configured d.device then layout_of (disk_woken (device_passed d now)).device.driver.stage else device_layout d.device now

abbrev pub next_state : DiskReady → ℕ → DiskReady
next_state d now =
    if is_configured d.device then disk_told (disk_woken (device_passed d now)) else forgotten (device_passed d now)

abbrev pub own_taken : Bool → DiskReady → List ℕ → DiskReady
own_taken true d bytes = record d { device = record d.device { driver = record d.device.driver { stage = stage.Gone } } }
own_taken false d bytes = disk_advanced d bytes

abbrev pub own_answered : DiskReady → List ℕ → DiskReady
own_answered d bytes =
    if not d.is_asked then d
    else if not (fits (disk_access d) bytes) then d
    else own_taken (is_gone (disk_access d) bytes) (record d { is_asked = false }) bytes

abbrev pub answered : DiskReady → List ℕ → DiskReady
answered d bytes = if is_configured d.device then own_answered d bytes else record d { device = device_answered d.device bytes }

-- whether an access was told that is to be answered, and which
abbrev pub is_asked : DiskReady → Bool
is_asked d = if is_configured d.device then d.is_asked else is_device_asked d.device

abbrev pub asked_access : DiskReady → Access
asked_access d = if is_configured d.device then disk_access d else device_access d.device

abbrev pub interrupted : DiskReady → DiskReady
interrupted d = record d { device = disk_interrupted d.device; ready = ready_interrupted d.ready }

-- READY

abbrev pub step_ready : ReadyStep → Bool
step_ready Begin = false
step_ready (Sending question at) = false
step_ready (Serve awaited) = false
step_ready (Status awaited count) = false
step_ready (Free verdict freeing at) = false
step_ready (ServeFree removal) = false
step_ready (Context verdict) = false
step_ready (Mend verdict) = false
step_ready (Take verdict count) = false
step_ready (Pause question until) = false
step_ready Ready = true

abbrev pub ready_disk : DiskReady → Option ReadyDisk
ready_disk d = if is_configured d.device && step_ready d.ready.step then disk_of d.device.finding.known d.ready.learned else None
