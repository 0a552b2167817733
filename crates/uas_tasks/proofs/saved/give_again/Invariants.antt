use Rattle.std.proofs.Common.{◌≡◌, replicate}
use Rattle.uas_tasks.proofs.saved.give_again.Given as goal

abbrev pub invariant-loop : goal.invariant-loop
invariant-loop l = l.given.items ≡ replicate l.counter 0
