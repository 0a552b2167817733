-- A reply of the client's that isn't the next one is refused, as all would have to be matched.
use Rattle.std.proofs.Common.{◌≡◌, [], filter, arith, sym, ◌∙◌}
use Rattle.std.proofs.lemmas.Bool.{false≢true}
use Rattle.std.proofs.lemmas.List.{append-nil}
use Rattle.log_audit.specs.Audit.{is_taken_by}
use Rattle.log_audit.proofs.Matching.{next-matched}
use Rattle.log_audit.proofs.audits.are_all.Goals as goal
use Rattle.log_audit.proofs.audits.are_all.Goals.{then-next-replies-via-then-next-replies, then-next-replies-via-else-next-replies+then-not-same}

pub returns-then-next-replies : goal.returns-then-next-replies
returns-then-next-replies c =
    let goes = λ (same : filter (is_taken_by c.args.tags c.args.client) c.args.taken.now ≡ c.args.replies.now).
    next-matched (is_taken_by c.args.tags c.args.client) c.args.taken.now c.args.replies.now [] c.loop-reply.reply-index c.loop-reply.next c.reply-item.result
    c.loop-reply-test.true c.reply-item.is (sym c.is_taken_by.ensures ∙ c.if-is_taken_by.true) c.loop-reply.invariant.within c.loop-reply.invariant.is
    (sym same ∙ sym (append-nil (filter (is_taken_by c.args.tags c.args.client) c.args.taken.now))) in (
      λ is. absurd (false≢true is),
      λ same. elim c.then-next-replies.branch [
        | then-next-replies-via-then-next-replies w ↦ absurd (omega (arith, (goes same).within, w.if-next-replies.true))
        | then-next-replies-via-else-next-replies+then-not-same w ↦
            let is = (goes same).is w.index-replies-next.result in
            absurd (false≢true (sym w.if-not-same.true ∙ w.same.ensures.1 (sym is ∙ sym w.index-replies-next.is)))
      ],
    )
