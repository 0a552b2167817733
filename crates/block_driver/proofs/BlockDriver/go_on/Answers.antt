-- What is told is inside what the options and the lent memory were when the rest was over, which leaves the options as they were.
use Rattle.std.proofs.Common.{subst}
use Rattle.bring_up.specs.Accesses.{IsInside}
use Rattle.bring_up.specs.Calls.{layout_of}
use Rattle.bring_up.specs.declared.options.Options.{Options}
use Rattle.block_driver.specs.Calls.{driver_woken}
use Rattle.block_driver.specs.declared.BlockDriver.{BlockDriver}
use Rattle.block_driver.proofs.Kept.{kept_then}
use Rattle.block_driver.proofs.BlockDriver.go_on.Goals as goal

pub returns-clause-inside : goal.returns-clause-inside
returns-clause-inside c =
    let ByState : BlockDriver → Type 0 = λ d. IsInside c.wake.new.self.ready.device.driver.options.bar_bytes (layout_of d.ready.device.driver.stage) c.tell.result in
    let ByOptions : Options → Type 0 = λ o. IsInside o.bar_bytes (layout_of (driver_woken c.args.self.now).ready.device.driver.stage) c.tell.result in
    subst ByOptions c.wake.ensures.options (subst ByState c.wake.ensures.is c.tell.ensures.inside)

pub returns-clause-replies : goal.returns-clause-replies
returns-clause-replies c =
    kept_then c.args.self.now.blocks.tags c.wake.new.self.blocks.tags c.tell.new.self.blocks.tags c.wake.ensures.replies c.tell.ensures.replies
