use Rattle.std.proofs.Common.{◌≡◌, take}
use Rattle.log_text.proofs.migration.copied_replies.Given as goal

abbrev pub invariant-loop-saved : goal.invariant-loop-saved
invariant-loop-saved l = l.copies.items ≡ take l.saved-index l.replies
