use Rattle.std.proofs.Common.{◌≡◌, ◌≤◌, filter, length, take}
use Rattle.log_audit.specs.Audit.{is_taken_by}
use Rattle.log_audit.proofs.audits.are_all.Given as goal

abbrev pub invariant-loop-reply : goal.invariant-loop-reply
invariant-loop-reply l = record {
  within : l.next ≤ length l.replies;
  is : filter (is_taken_by l.tags l.client) (take l.reply-index l.taken) ≡ take l.next l.replies;
}
