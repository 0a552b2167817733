use Rattle.std.proofs.Common.{ap, sym, ◌∙◌, slice_set, true}
use Rattle.std.proofs.lemmas.List.Edits.{map_over_more}
use Rattle.block_unit.specs.BlockMaps.{BlockMaps, with_attention}
use Rattle.uas_target.specs.Soundness.{counts_of}
use Rattle.uas_target.proofs.Counts.{counts_of-attention, map-all}
use Rattle.uas_target.proofs.management.establish_attentions.Goals as goal

with_one : BlockMaps → BlockMaps
with_one unit = with_attention unit true

pub loop-unit-preserved : goal.loop-unit-preserved
unfolding with_one
loop-unit-preserved c =
    ap (slice_set c.loop-unit.units c.loop-unit.unit-index) (c.set_attention.ensures ∙ ap with_one (sym c.unit-item.is))
    ∙ map_over_more with_one c.args.units.now c.loop-unit.units c.loop-unit.unit-index c.unit-item.result c.loop-unit-test.true c.loop-unit.invariant c.unit-item.is

pub returns-clause-units : goal.returns-clause-units
unfolding with_one
returns-clause-units c = map-all with_one c.args.units.now c.loop-unit.units c.loop-unit.unit-index c.loop-unit.invariant c.loop-unit-test.false

pub returns-clause-counts : goal.returns-clause-counts
unfolding with_one
returns-clause-counts c =
    ap counts_of (map-all with_one c.args.units.now c.loop-unit.units c.loop-unit.unit-index c.loop-unit.invariant c.loop-unit-test.false)
    ∙ counts_of-attention c.args.units.now
