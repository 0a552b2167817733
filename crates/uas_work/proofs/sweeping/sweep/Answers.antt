use Rattle.std.proofs.Common.{rules, arith}
use Rattle.uas_work.proofs.Sweeps.{swept_more, swept_none}
use Rattle.uas_work.proofs.sweeping.sweep.Goals as goal

pub loop-taken-init : goal.loop-taken-init
loop-taken-init g c = (swept_none _ _, omega arith)

pub loop-taken-preserved : goal.loop-taken-preserved
loop-taken-preserved g c = (
  swept_more _ _ _ _ c.loop-taken.taken c.in_ok-swept_next.field-0 c.loop-taken.invariant.0 c.in_ok-swept_next.ensures.one (search rules),
  search rules,
)
