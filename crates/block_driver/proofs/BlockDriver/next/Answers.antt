-- Whether a disk is used says whose access is told; what is told is inside what the options and the lent memory were when the disk had passed the
-- time, which leaves the options as they were.
use Rattle.std.proofs.Common.{◌≡◌, Bool, true, false, sym, subst, ap, ◌∙◌, if◌then◌else◌}
use Rattle.bring_up.specs.Accesses.{IsInside}
use Rattle.bring_up.specs.Calls.{layout_of}
use Rattle.bring_up.specs.declared.options.Options.{Options}
use Rattle.disk_ready.specs.declared.DiskReady.{DiskReady}
use Rattle.disk_ready.specs.Calls.{next_access as ready_next, next_layout as ready_layout}
use Rattle.block_driver.specs.declared.BlockDriver.{BlockDriver}
use Rattle.block_driver.specs.Calls.{driver_access, driver_told, driver_woken, is_open, met, ready_passed}
use Rattle.block_driver.proofs.BlockDriver.next.Goals as goal

pub returns-then-is_open-clause-told : goal.returns-then-is_open-clause-told
returns-then-is_open-clause-told c =
    let d = c.args.self.now in
    let open_is : is_open d ≡ true = sym c.is_some-is_open.ensures ∙ c.if-is_open.true in
    let Passed : DiskReady → BlockDriver = λ r. record d { ready = r } in
    let By : Bool → Type 0 =
    λ is. c.go_on.result ≡ (if is then driver_access (driver_woken (ready_passed d c.args.now)) else ready_next d.ready c.args.now) in
    subst By (sym open_is) (c.go_on.ensures.told ∙ ap (λ r. driver_access (driver_woken (Passed r))) c.next-access.ensures.state)

pub returns-then-is_open-clause-state : goal.returns-then-is_open-clause-state
returns-then-is_open-clause-state c =
    let d = c.args.self.now in
    let open_is : is_open d ≡ true = sym c.is_some-is_open.ensures ∙ c.if-is_open.true in
    let Passed : DiskReady → BlockDriver = λ r. record d { ready = r } in
    let By : Bool → Type 0 =
    λ is. c.go_on.new.self ≡ (if is then driver_told (driver_woken (ready_passed d c.args.now)) else met (ready_passed d c.args.now)) in
    subst By (sym open_is) (c.go_on.ensures.state ∙ ap (λ r. driver_told (driver_woken (Passed r))) c.next-access.ensures.state)

pub returns-then-is_open-clause-inside : goal.returns-then-is_open-clause-inside
returns-then-is_open-clause-inside c =
    let d = c.args.self.now in
    let open_is : is_open d ≡ true = sym c.is_some-is_open.ensures ∙ c.if-is_open.true in
    let after = ready_passed d c.args.now in
    let ByReady : DiskReady → Type 0 =
    λ r. IsInside c.next-access.new.self.device.driver.options.bar_bytes
    (layout_of (driver_woken (record d { ready = r })).ready.device.driver.stage) c.go_on.result in
    let ByOptions : Options → Type 0 = λ o. IsInside o.bar_bytes (layout_of (driver_woken after).ready.device.driver.stage) c.go_on.result in
    let ByTest : Bool → Type 0 =
    λ is. IsInside d.ready.device.driver.options.bar_bytes
    (if is then layout_of (driver_woken after).ready.device.driver.stage else ready_layout d.ready c.args.now) c.go_on.result in
    subst ByTest (sym open_is)
    (subst ByOptions c.next-access.ensures.options (subst ByReady c.next-access.ensures.state c.go_on.ensures.inside))

pub returns-else-is_open-clause-state : goal.returns-else-is_open-clause-state
returns-else-is_open-clause-state c =
    let d = c.args.self.now in
    let closed_is : is_open d ≡ false = sym c.is_some-is_open.ensures ∙ c.if-is_open.false in
    let Passed : DiskReady → BlockDriver = λ r. record d { ready = r } in
    let By : Bool → Type 0 =
    λ is. c.meet.new.self ≡ (if is then driver_told (driver_woken (ready_passed d c.args.now)) else met (ready_passed d c.args.now)) in
    subst By (sym closed_is) (c.meet.ensures.is ∙ ap (λ r. met (Passed r)) c.next-access.ensures.state)
