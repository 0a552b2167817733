use Rattle.std.proofs.Common.{◌+◌, ap, ◌∙◌}
use Rattle.c_common.proofs.Opened.{unit_more}
use Rattle.c_common.proofs.units.opened.Goals as goal

pub loop-unit-preserved : goal.loop-unit-preserved
loop-unit-preserved c =
    (unit_more _ _ _ _ _ c.in_ok-push.ensures.items c.loop-unit.invariant.0 c.in_ok-opened_unit.ensures, c.in_ok-push.ensures.len ∙ ap (λ count. count + 1) c.loop-unit.invariant.1)
