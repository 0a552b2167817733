use Rattle.std.proofs.Common.{ap, sym, ◌∙◌, slice_set}
use Rattle.std.proofs.lemmas.List.Edits.{map_over_more}
use Rattle.uas_tasks.specs.Machine.{powered}
use Rattle.uas_tasks.proofs.Places.{map-all}
use Rattle.uas_tasks.proofs.management.power_units.Goals as goal

pub loop-unit-preserved : goal.loop-unit-preserved
loop-unit-preserved c =
    ap (λ unit. slice_set c.loop-unit.units c.loop-unit.unit-index (powered unit)) (sym c.unit-item.is)
    ∙ map_over_more powered c.args.units.now c.loop-unit.units c.loop-unit.unit-index c.unit-item.result c.loop-unit-test.true
    c.loop-unit.invariant c.unit-item.is

pub returns : goal.returns
returns c = map-all powered c.args.units.now c.loop-unit.units c.loop-unit.unit-index c.loop-unit.invariant c.loop-unit-test.false
