use Rattle.std.proofs.Common.{◌≡◌}
use Rattle.std.specs.Prelude.{option_to_list, replicate}
use Rattle.block_unit.specs.BlockMaps.{fresh}
use Rattle.uas_replay.proofs.replay.opening.zeroed_units.Given as goal

abbrev pub invariant-loop : goal.invariant-loop
invariant-loop l = l.units.items ≡ replicate l.counter (fresh l.blocks (option_to_list l.bad))
