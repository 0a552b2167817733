use Rattle.std.proofs.Common.{◌++◌, length, take}
use Rattle.std.specs.List.{flat_map}
use Rattle.log_text.specs.Kept.{kept}
use Rattle.log_text.specs.Text.{field, step_text}
use Rattle.log_text.specs.Writing.{Wrote}
use Rattle.log_text.proofs.saving.put_kept.Given as goal

abbrev pub invariant-loop-at : goal.invariant-loop-at
invariant-loop-at g l =
    Wrote g.W.Write.contents l.fn.out l.out (field 4 (length (kept l.steps l.refusals)) ++ flat_map step_text (kept (take l.at l.steps) (take l.at l.refusals)))
