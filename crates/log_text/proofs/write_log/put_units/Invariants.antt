use Rattle.std.proofs.Common.{◌++◌, length, take}
use Rattle.std.specs.List.{flat_map}
use Rattle.log_text.specs.Text.{field, unit_text}
use Rattle.log_text.specs.Writing.{Wrote}
use Rattle.log_text.proofs.write_log.put_units.Given as goal

abbrev pub invariant-loop-unit : goal.invariant-loop-unit
invariant-loop-unit g l = Wrote g.W.Write.contents l.fn.out l.out (field 1 (length l.units) ++ flat_map (unit_text) (take l.unit-index l.units))
