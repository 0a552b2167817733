use Rattle.std.proofs.Common.{refl}
use Rattle.host_trbs.specs.Contexts.{context_bytes}
use Rattle.disk_up.proofs.laws.pipes_are_stored.Goals as goal

pub returns-clause-command : goal.returns-clause-command
unfolding context_bytes
returns-clause-command c = λ layout device base contexts. rw (base, contexts) refl

pub returns-clause-status : goal.returns-clause-status
unfolding context_bytes
returns-clause-status c = λ layout device base contexts. rw (base, contexts) refl

pub returns-clause-data_in : goal.returns-clause-data_in
unfolding context_bytes
returns-clause-data_in c = λ layout device base contexts. rw (base, contexts) refl

pub returns-clause-data_out : goal.returns-clause-data_out
unfolding context_bytes
returns-clause-data_out c = λ layout device base contexts. rw (base, contexts) refl
