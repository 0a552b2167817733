-- What is told is inside what the options and the lent memory were when the device had passed the time, which leaves the options as they were.
use Rattle.std.proofs.Common.{◌∙◌, sym, subst, Bool, if◌then◌else◌}
use Rattle.bring_up.specs.Accesses.{IsInside}
use Rattle.bring_up.specs.Calls.{layout_of}
use Rattle.bring_up.specs.declared.options.Options.{Options}
use Rattle.disk_up.specs.declared.DiskUp.{DiskUp}
use Rattle.disk_up.specs.Disks.{next_layout as device_layout}
use Rattle.disk_ready.specs.Calls.{device_passed, disk_woken}
use Rattle.disk_ready.proofs.DiskReady.next.Goals as goal

pub returns-then-is_configured-clause-inside : goal.returns-then-is_configured-clause-inside
returns-then-is_configured-clause-inside c =
    let d = c.args.self.now in
    let after = device_passed d c.args.now in
    let configured = sym c.is_configured-is_configured.ensures ∙ c.if-is_configured.true in
    let ByDevice : DiskUp → Type 0 =
    λ u. IsInside c.next-access.new.self.driver.options.bar_bytes
    (layout_of (disk_woken (record d { device = u })).device.driver.stage) c.go_on.result in
    let ByOptions : Options → Type 0 = λ o. IsInside o.bar_bytes (layout_of (disk_woken after).device.driver.stage) c.go_on.result in
    let ByTest : Bool → Type 0 =
    λ is. IsInside d.device.driver.options.bar_bytes
    (if is then layout_of (disk_woken after).device.driver.stage else device_layout d.device c.args.now) c.go_on.result in
    subst ByTest (sym configured)
    (subst ByOptions c.next-access.ensures.options (subst ByDevice c.next-access.ensures.state c.go_on.ensures.inside))
