use Rattle.std.proofs.Common.{ap, subst, sym, ◌∙◌}
use Rattle.block_driver.proofs.Kept.{kept_lost}
use Rattle.block_driver.specs.Table.{RepliesStand, marks}
use Rattle.block_driver.proofs.Marks.{marks_lost}
use Rattle.block_driver.proofs.tags.Tags.lose.Goals as goal

pub returns-clause-once : goal.returns-clause-once
returns-clause-once c = ap marks c.lose_each.ensures ∙ marks_lost c.args.self.now c.args.loss

pub returns-clause-replies : goal.returns-clause-replies
returns-clause-replies c = subst (RepliesStand c.args.self.now) (sym c.lose_each.ensures) (kept_lost c.args.self.now c.args.loss)
