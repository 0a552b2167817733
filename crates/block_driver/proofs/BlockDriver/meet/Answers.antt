use Rattle.std.proofs.Common.{ap, ◌∙◌}
use Rattle.block_driver.specs.Calls.{met_behind, shut_on}
use Rattle.block_driver.proofs.Kept.{kept_then}
use Rattle.block_driver.proofs.BlockDriver.meet.Goals as goal

pub returns-clause-is : goal.returns-clause-is
returns-clause-is c = c.open_ready.ensures.is ∙ ap met_behind (c.shut_on.ensures.is ∙ ap shut_on c.take_back.ensures.is)

pub returns-clause-replies : goal.returns-clause-replies
returns-clause-replies c =
    let first = c.args.self.now.blocks.tags in
    let back = c.take_back.new.self.blocks.tags in
    let shut = c.shut_on.new.self.blocks.tags in
    let behind = c.open_ready.new.self.blocks.tags in
    kept_then first shut behind (kept_then first back shut c.take_back.ensures.replies c.shut_on.ensures.replies) c.open_ready.ensures.replies
