use Rattle.std.proofs.Common.{◌≡◌, replicate}
use Rattle.block_driver.specs.declared.table.Entry.TheVariants.{Free}
use Rattle.block_driver.proofs.tags.fresh_entries.Given as goal

abbrev pub invariant-loop-tag : goal.invariant-loop-tag
invariant-loop-tag l = l.entries.items ≡ replicate l._tag Free
