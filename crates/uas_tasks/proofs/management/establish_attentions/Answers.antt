use Rattle.std.proofs.Common.{ap, sym, ◌∙◌, slice_set, slice_index_or}
use Rattle.std.proofs.lemmas.List.Edits.{map_over_more}
use Rattle.uas_tasks.specs.Machine.{attentive}
use Rattle.uas_tasks.proofs.Places.{map-all}
use Rattle.uas_tasks.proofs.management.establish_attentions.Goals as goal

pub loop-unit-preserved : goal.loop-unit-preserved
loop-unit-preserved c =
    ap (λ attention. slice_set c.loop-unit.units c.loop-unit.unit-index
    (record (slice_index_or c.loop-unit.units c.loop-unit.unit-index c.unit-item.result) { attention = attention })) c.reset_over-unit.ensures
    ∙ ap (λ unit. slice_set c.loop-unit.units c.loop-unit.unit-index (attentive unit)) (sym c.unit-item.is)
    ∙ map_over_more attentive c.args.units.now c.loop-unit.units c.loop-unit.unit-index c.unit-item.result c.loop-unit-test.true
    c.loop-unit.invariant c.unit-item.is

pub returns : goal.returns
returns c = map-all attentive c.args.units.now c.loop-unit.units c.loop-unit.unit-index c.loop-unit.invariant c.loop-unit-test.false
