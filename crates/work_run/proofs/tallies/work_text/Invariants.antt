use Rattle.std.proofs.Common.{◌≡◌, take}
use Rattle.work_run.specs.Tallies.{work_text}
use Rattle.work_run.proofs.tallies.work_text.Given as goal

abbrev pub invariant-loop-tally : goal.invariant-loop-tally
invariant-loop-tally l = l.text.items ≡ work_text (take l.tally-index l.tallies)
