use Rattle.std.proofs.Common.{◌↔◌, drop}
use Rattle.log_text.specs.Text.{AreRising}
use Rattle.log_limits.proofs.units.are_rising.Given as goal

abbrev pub invariant-loop-number : goal.invariant-loop-number
invariant-loop-number l = AreRising 0 l.limit l.numbers ↔ AreRising l.least l.limit (drop l.number-index l.numbers)
