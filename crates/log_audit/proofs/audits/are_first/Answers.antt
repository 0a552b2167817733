-- A submission of the client's that isn't the next one is refused, as all would have to be matched.
use Rattle.std.proofs.Common.{drop, refl, arith, sym, ◌∙◌}
use Rattle.std.proofs.lemmas.Bool.{false≢true}
use Rattle.log_audit.specs.Audit.{IsBeginning, is_asked_by, submissions_of}
use Rattle.log_audit.proofs.Matching.{all-begin, next-matched}
use Rattle.log_audit.proofs.audits.are_first.Goals as goal
use Rattle.log_audit.proofs.audits.are_first.Goals.{then-next-sent-via-then-next-sent, then-next-sent-via-else-next-sent+then-not-same}

pub returns-then-next-sent : goal.returns-then-next-sent
returns-then-next-sent c =
    let goes = λ (begins : IsBeginning (submissions_of c.args.client c.args.steps.now) c.args.sent.now).
    next-matched (is_asked_by c.args.client) c.args.steps.now c.args.sent.now begins.rest c.loop-step.step-index c.loop-step.next c.step-item.result
    c.loop-step-test.true c.step-item.is (sym c.is_asked_by.ensures ∙ c.if-is_asked_by.true) c.loop-step.invariant.within c.loop-step.invariant.is
    begins.is in (
      λ is. absurd (false≢true is),
      λ begins. elim c.then-next-sent.branch [
        | then-next-sent-via-then-next-sent w ↦ absurd (omega (arith, (goes begins).within, w.if-next-sent.true))
        | then-next-sent-via-else-next-sent+then-not-same w ↦
            let is = (goes begins).is w.index-sent-next.result in
            absurd (false≢true (sym w.if-not-same.true ∙ w.same.ensures.1 (sym is ∙ sym w.index-sent-next.is)))
      ],
    )

pub returns : goal.returns
returns c = (
  λ is. record {
    rest = drop c.loop-step.next c.args.sent.now;
    is = all-begin (is_asked_by c.args.client) c.args.steps.now c.args.sent.now c.loop-step.step-index c.loop-step.next c.loop-step-test.false
        c.loop-step.invariant.is;
  },
  λ begins. refl,
)
