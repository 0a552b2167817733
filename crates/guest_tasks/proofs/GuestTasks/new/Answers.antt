use Rattle.std.proofs.Common.{sym, ◌∙◌}
use Rattle.std.proofs.lemmas.Bool.{false≢true}
use Rattle.guest_tasks.proofs.GuestTasks.new.Goals as goal

pub returns-clause-begins : goal.returns-clause-begins
returns-clause-begins c = λ none. record {
  room = c.new.ensures.words;
  active = λ tag below has. absurd (false≢true (sym (none tag) ∙ has));
}
