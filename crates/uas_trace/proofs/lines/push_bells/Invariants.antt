use Rattle.std.proofs.Common.{◌≡◌, fold, drop}
use Rattle.uas_trace.specs.Written.{with_bell}
use Rattle.uas_trace.proofs.lines.push_bells.Given as goal

abbrev pub invariant-loop-value : goal.invariant-loop-value
invariant-loop-value l = fold with_bell l.text.items (drop l.value-index l.values) ≡ fold with_bell l.fn.text.items l.values
