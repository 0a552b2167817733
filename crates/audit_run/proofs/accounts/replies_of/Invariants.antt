use Rattle.std.proofs.Common.{◌≡◌, take}
use Rattle.audit_run.specs.Audits.{replies_to}
use Rattle.audit_run.proofs.accounts.replies_of.Given as goal

abbrev pub invariant-loop-saved : goal.invariant-loop-saved
invariant-loop-saved l = l.replies.items ≡ replies_to l.client (take l.saved-index l.taken)
