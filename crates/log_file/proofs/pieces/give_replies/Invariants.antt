use Rattle.std.proofs.Common.{◌≡◌, ◌++◌, length, take}
use Rattle.std.specs.List.{flat_map}
use Rattle.log_text.specs.Kept.{with_client}
use Rattle.log_text.specs.Text.{field, reply_text}
use Rattle.log_file.specs.Pieces.{Gave}
use Rattle.log_file.proofs.pieces.give_replies.Given as goal

abbrev pub invariant-loop-reply : goal.invariant-loop-reply
invariant-loop-reply g l = record {
  text : Gave g.O.Sink.written l.fn.out l.fn.waiting.items l.out l.waiting.items
      (field 4 (length l.replies) ++ flat_map (λ reply. reply_text (with_client l.tags reply)) (take l.reply-index l.replies));
  same : g.O.Sink.can_fail l.out ≡ g.O.Sink.can_fail l.fn.out;
  stays : g.O.Sink.is_there l.out ≡ g.O.Sink.is_there l.fn.out;
  file : g.O.Sink.is_of l.out ≡ g.O.Sink.is_of l.fn.out;
}
