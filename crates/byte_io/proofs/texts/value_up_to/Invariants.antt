use Rattle.std.proofs.Common.{◌≡◌, ◌≤◌, fold, drop}
use Rattle.byte_io.specs.Words.{with_digit, value_of}
use Rattle.byte_io.proofs.texts.value_up_to.Given as goal

abbrev pub invariant-loop-digit : goal.invariant-loop-digit
invariant-loop-digit l = (fold with_digit l.value (drop l.digit-index l.digits) ≡ value_of l.digits) × (l.value ≤ l.most)
