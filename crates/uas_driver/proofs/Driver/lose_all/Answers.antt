use Rattle.std.proofs.Common.{sym, ap, ◌∙◌}
use Rattle.uas_driver.specs.Recovery.{first_lost}
use Rattle.uas_driver.proofs.Turns.{times-more, times-none}
use Rattle.uas_driver.proofs.Driver.lose_all.Goals as goal

pub loop-init : goal.loop-init
loop-init c = sym (times-none (first_lost c.args.pipe c.args.code) c.args.self.now)

pub loop-preserved : goal.loop-preserved
loop-preserved c =
    c.lose_first.ensures ∙ ap (first_lost c.args.pipe c.args.code) c.loop.invariant
    ∙ sym (times-more c.loop.counter (first_lost c.args.pipe c.args.code) c.args.self.now)
