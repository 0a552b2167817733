use Rattle.std.proofs.Common.{◌≡◌, ◌-◌}
use Rattle.log_text.specs.Reading.{items_at, step_at}
use Rattle.log_text.proofs.ReadLoops.{with_front}
use Rattle.log_text.proofs.read_steps.steps.Given as goal

abbrev pub invariant-loop : goal.invariant-loop
invariant-loop l = with_front l.steps.items (items_at (step_at l.version l.clients) (l.count - l.counter) l.rest) ≡ items_at (step_at l.version l.clients) l.count l.bytes
