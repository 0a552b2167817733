use Rattle.std.proofs.Common.{arith}
use Rattle.std.proofs.lemmas.List.Elements.{All-from_recursion, All-map, recursion_from_All}
use Rattle.log_text.specs.Kept.{with_client}
use Rattle.log_text.specs.Text.{ReplyFits}
use Rattle.log_text.proofs.Keeping.{all-map, length-map}
use Rattle.log_limits.proofs.limits.are_replies.Goals as goal

pub returns-then-replies-lt-ITEMS : goal.returns-then-replies-lt-ITEMS
returns-then-replies-lt-ITEMS c =
    let fits = ReplyFits c.args.clients in
    let saved = with_client c.args.tags in
    let replies = c.args.replies.now in (
      λ h. (
        recursion_from_All fits _ (All-map fits saved replies (c.all_replies.ensures.0 h)),
        omega (arith, c.if-replies-lt-ITEMS.true, length-map saved replies),
      ),
      λ h. c.all_replies.ensures.1 (All-from_recursion (λ reply. fits (saved reply)) replies (all-map fits saved replies h.0)),
    )
