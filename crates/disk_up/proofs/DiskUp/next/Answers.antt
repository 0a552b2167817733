-- What is told is inside what the options and the lent memory were when the driver had passed the time, which leaves the options as they were.
use Rattle.std.proofs.Common.{◌≡◌, ◌∙◌, sym, subst, Bool, true, if◌then◌else◌}
use Rattle.bring_up.specs.Accesses.{IsInside}
use Rattle.bring_up.specs.Calls.{at_time, is_addressed, layout_of, woken}
use Rattle.bring_up.specs.declared.bring_up.BringUp.{BringUp}
use Rattle.bring_up.specs.declared.options.Options.{Options}
use Rattle.disk_up.specs.Disks.{disk_woken, driver_next}
use Rattle.disk_up.proofs.Options.{next_keeps_options}
use Rattle.disk_up.proofs.DiskUp.next.Goals as goal

pub returns-then-is_addressed-clause-inside : goal.returns-then-is_addressed-clause-inside
returns-then-is_addressed-clause-inside c =
    let d = c.args.self.now in
    let after = driver_next d c.args.now in
    let told = c.next-access.ensures.state in
    let Same : BringUp → Type 0 = λ b. b.options ≡ d.driver.options in
    let kept = subst Same (sym told) (next_keeps_options d c.args.now) in
    let Reached : BringUp → Type 0 = λ b. is_addressed b.stage ≡ true in
    let addressed = subst Reached told (sym c.is_addressed.ensures ∙ c.if-is_addressed.true) in
    let ByDriver : BringUp → Type 0 =
    λ b. IsInside c.next-access.new.self.options.bar_bytes (layout_of (disk_woken (record d { driver = b })).driver.stage) c.go_on.result in
    let ByOptions : Options → Type 0 = λ o. IsInside o.bar_bytes (layout_of (disk_woken after).driver.stage) c.go_on.result in
    let ByTest : Bool → Type 0 =
    λ is. IsInside d.driver.options.bar_bytes
    (if is then layout_of (disk_woken after).driver.stage else layout_of (woken (at_time d.driver c.args.now)).stage) c.go_on.result in
    subst ByTest (sym addressed) (subst ByOptions kept (subst ByDriver told c.go_on.ensures.inside))

pub returns-then-is_addressed-clause-options : goal.returns-then-is_addressed-clause-options
returns-then-is_addressed-clause-options c =
    let Same : BringUp → Type 0 = λ b. b.options ≡ c.args.self.now.driver.options in
    c.go_on.ensures.options ∙ subst Same (sym c.next-access.ensures.state) (next_keeps_options c.args.self.now c.args.now)

pub returns-else-is_addressed-clause-options : goal.returns-else-is_addressed-clause-options
returns-else-is_addressed-clause-options c =
    let Same : BringUp → Type 0 = λ b. b.options ≡ c.args.self.now.driver.options in
    subst Same (sym c.next-access.ensures.state) (next_keeps_options c.args.self.now c.args.now)
