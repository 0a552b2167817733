use Rattle.std.proofs.Common.{ap, ◌∙◌}
use Rattle.block_unit.specs.BlockMaps.{BlockMaps}
use Rattle.block_unit.specs.Laws.{with_attention-count}
use Rattle.uas_target.proofs.Counts.{counts_of-set}
use Rattle.uas_target.proofs.management.establish_attention.Goals as goal

pub returns-clause-counts : goal.returns-clause-counts
returns-clause-counts c =
    counts_of-set c.args.units.now c.args.number c.index-units-number.result c.set_attention.new.self
    (ap (λ (unit : BlockMaps). unit.count) c.set_attention.ensures ∙ with_attention-count _ _)
