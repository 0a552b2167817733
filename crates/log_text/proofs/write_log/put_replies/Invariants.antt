use Rattle.std.proofs.Common.{◌++◌, length, take}
use Rattle.std.specs.List.{flat_map}
use Rattle.log_text.specs.Text.{field, reply_text}
use Rattle.log_text.specs.Writing.{Wrote}
use Rattle.log_text.proofs.write_log.put_replies.Given as goal

abbrev pub invariant-loop-saved : goal.invariant-loop-saved
invariant-loop-saved g l = Wrote g.W.Write.contents l.fn.out l.out (field 4 (length l.replies) ++ flat_map (reply_text) (take l.saved-index l.replies))
