use Rattle.std.proofs.Common.{◌≡◌, map, take}
use Rattle.log_text.specs.Migration.{moved_saved}
use Rattle.log_text.proofs.migration.moved_replies.Given as goal

abbrev pub invariant-loop-saved : goal.invariant-loop-saved
invariant-loop-saved l = l.moved.items ≡ map (moved_saved l.clients) (take l.saved-index l.replies)
