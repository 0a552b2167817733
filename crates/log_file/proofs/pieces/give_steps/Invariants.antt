use Rattle.std.proofs.Common.{◌≡◌, ◌++◌, length, take}
use Rattle.std.specs.List.{flat_map}
use Rattle.log_text.specs.Kept.{kept}
use Rattle.log_text.specs.Text.{field, step_text}
use Rattle.log_file.specs.Pieces.{Gave}
use Rattle.log_file.proofs.pieces.give_steps.Given as goal

abbrev pub invariant-loop-at : goal.invariant-loop-at
invariant-loop-at g l = record {
  text : Gave g.O.Sink.written l.fn.out l.fn.waiting.items l.out l.waiting.items
      (field 4 (length (kept l.steps l.refusals)) ++ flat_map step_text (kept (take l.at l.steps) (take l.at l.refusals)));
  same : g.O.Sink.can_fail l.out ≡ g.O.Sink.can_fail l.fn.out;
  stays : g.O.Sink.is_there l.out ≡ g.O.Sink.is_there l.fn.out;
  file : g.O.Sink.is_of l.out ≡ g.O.Sink.is_of l.fn.out;
}
