use Rattle.std.proofs.Common.{◌++◌, length, take}
use Rattle.std.specs.List.{flat_map}
use Rattle.log_text.specs.Text.{field, step_text}
use Rattle.log_text.specs.Writing.{Wrote}
use Rattle.log_text.proofs.write_log.put_steps.Given as goal

abbrev pub invariant-loop-step : goal.invariant-loop-step
invariant-loop-step g l = Wrote g.W.Write.contents l.fn.out l.out (field 4 (length l.steps) ++ flat_map (step_text) (take l.step-index l.steps))
