use Rattle.std.proofs.Common.{◌++◌, length, take}
use Rattle.std.specs.List.{flat_map}
use Rattle.log_text.specs.Text.{field}
use Rattle.log_text.specs.Writing.{Wrote}
use Rattle.log_text.proofs.write_log.put_bad.Given as goal

abbrev pub invariant-loop-number : goal.invariant-loop-number
invariant-loop-number g l = Wrote g.W.Write.contents l.fn.out l.out (field 4 (length l.bad) ++ flat_map (field 4) (take l.number-index l.bad))
