use Rattle.std.proofs.Common.{◌≡◌, ◌-◌}
use Rattle.log_text.specs.Reading.{items_at, reply_at}
use Rattle.log_text.proofs.ReadLoops.{with_front}
use Rattle.log_text.proofs.read_replies.replies.Given as goal

abbrev pub invariant-loop : goal.invariant-loop
invariant-loop l = with_front l.replies.items (items_at (reply_at l.clients) (l.count - l.counter) l.rest) ≡ items_at (reply_at l.clients) l.count l.bytes
