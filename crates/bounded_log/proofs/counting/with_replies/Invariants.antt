use Rattle.std.proofs.Common.{◌≡◌, ◌+◌, ◌≤◌, sum_by, take}
use Rattle.shared_machine.specs.Laws.{reply_len}
use Rattle.bounded_log.proofs.counting.with_replies.Given as goal

abbrev pub invariant-loop-reply : goal.invariant-loop-reply
invariant-loop-reply l = record { counted : l.bytes ≡ l.before + sum_by reply_len (take l.reply-index l.replies); within : l.bytes ≤ l.limit }
