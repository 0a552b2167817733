use Rattle.std.proofs.Common.{◌≡◌, ◌-◌, ◌≤◌, ◌+◌}
use Rattle.log_text.specs.Reading.{rising_at}
use Rattle.log_text.proofs.ReadLoops.{with_front}
use Rattle.log_text.proofs.read_units.rising.Given as goal

abbrev pub invariant-loop : goal.invariant-loop
invariant-loop l = (with_front l.numbers.items (rising_at l.most (l.count - l.counter) l.least l.rest) ≡ rising_at l.most l.count 0 l.bytes) × (l.least ≤ l.most + 1)
