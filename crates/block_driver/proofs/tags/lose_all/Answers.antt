use Rattle.std.proofs.Common.{ap, sym, ◌∙◌, slice_set}
use Rattle.std.proofs.lemmas.List.Edits.{map_over_more}
use Rattle.block_driver.specs.Table.{entry_lost}
use Rattle.block_driver.proofs.Marks.{map_all}
use Rattle.block_driver.proofs.tags.lose_all.Goals as goal

pub loop-entry-preserved : goal.loop-entry-preserved
loop-entry-preserved c =
    ap (slice_set c.loop-entry.entries c.loop-entry.entry-index) (c.lose.ensures.is ∙ ap (entry_lost c.args.loss) (sym c.entry-item.is))
    ∙ map_over_more (entry_lost c.args.loss) c.args.entries.now c.loop-entry.entries c.loop-entry.entry-index c.entry-item.result c.loop-entry-test.true
    c.loop-entry.invariant c.entry-item.is

pub returns : goal.returns
returns c = map_all (entry_lost c.args.loss) c.args.entries.now c.loop-entry.entries c.loop-entry.entry-index c.loop-entry.invariant c.loop-entry-test.false
