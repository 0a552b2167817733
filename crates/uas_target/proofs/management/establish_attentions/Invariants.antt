use Rattle.std.proofs.Common.{◌≡◌, ◌++◌, map, take, drop, true}
use Rattle.block_unit.specs.BlockMaps.{BlockMaps, with_attention}
use Rattle.uas_target.proofs.management.establish_attentions.Given as goal

-- the units so far have an attention, and the others are as they were
abbrev pub invariant-loop-unit : goal.invariant-loop-unit
invariant-loop-unit l =
    l.units ≡ map (λ (unit : BlockMaps). with_attention unit true) (take l.unit-index l.initial.units) ++ drop l.unit-index l.initial.units
