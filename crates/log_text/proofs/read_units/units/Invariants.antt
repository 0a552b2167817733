use Rattle.std.proofs.Common.{◌≡◌, ◌-◌}
use Rattle.log_text.specs.Reading.{items_at, unit_at}
use Rattle.log_text.proofs.ReadLoops.{with_front}
use Rattle.log_text.proofs.read_units.units.Given as goal

abbrev pub invariant-loop : goal.invariant-loop
invariant-loop l = with_front l.units.items (items_at (unit_at) (l.count - l.counter) l.rest) ≡ items_at (unit_at) l.count l.bytes
