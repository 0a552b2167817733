use Rattle.std.proofs.Common.{◌≡◌, map, vec_len}
use Rattle.std.specs.List.{range_with_len}
use Rattle.c_common.specs.Units.{opened_unit}
use Rattle.c_common.proofs.units.opened.Given as goal

abbrev pub invariant-loop-unit : goal.invariant-loop-unit
invariant-loop-unit l =
    (l.units.items ≡ map (opened_unit l.blocks l.image l.bad) (range_with_len 0 l.unit)) × (vec_len l.units ≡ l.unit)
