use Rattle.std.proofs.Common.{◌++◌, length, take}
use Rattle.std.specs.List.{flat_map}
use Rattle.log_text.specs.Kept.{with_client}
use Rattle.log_text.specs.Text.{field, reply_text}
use Rattle.log_text.specs.Writing.{Wrote}
use Rattle.log_text.proofs.saving.put_each.Given as goal

abbrev pub invariant-loop-reply : goal.invariant-loop-reply
invariant-loop-reply g l =
    Wrote g.W.Write.contents l.fn.out l.out (field 4 (length l.replies) ++ flat_map (λ reply. reply_text (with_client l.tags reply)) (take l.reply-index l.replies))
