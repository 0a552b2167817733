use Rattle.std.proofs.Common.{◌≡◌, ◌++◌, map, take, drop}
use Rattle.block_driver.specs.Table.{entry_lost}
use Rattle.block_driver.proofs.tags.lose_all.Given as goal

-- the tags so far are lost, and the others are as they were
abbrev pub invariant-loop-entry : goal.invariant-loop-entry
invariant-loop-entry l =
    l.entries ≡ map (entry_lost l.loss) (take l.entry-index l.initial.entries) ++ drop l.entry-index l.initial.entries
