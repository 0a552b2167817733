-- All replies before this one are alike, and this one is missing or another.
use Rattle.std.proofs.Common.{◌≡◌, length, map, take, arith, ap, sym, ◌∙◌}
use Rattle.std.proofs.lemmas.Bool.{false≢true}
use Rattle.log_text.specs.Kept.{with_client}
use Rattle.audit_run.proofs.Differing.{ends-before, goes-past, has-another}
use Rattle.audit_run.proofs.replay.replies.first_difference.Goals as goal
use Rattle.audit_run.proofs.replay.replies.first_difference.Goals.{then-at-saved-via-then-at-saved, then-at-saved-via-else-at-saved+then-not-is_saved}

pub returns-then-at-saved-clause-first : goal.returns-then-at-saved-clause-first
returns-then-at-saved-clause-first c =
    elim c.then-at-saved.branch [
      | then-at-saved-via-then-at-saved w ↦
          ends-before (with_client c.args.tags) c.args.replayed.now c.args.saved.now c.loop-at.at c.index-replayed-at.result c.loop-at-test.true
          c.index-replayed-at.is (omega (arith, w.if-at-saved.true)) c.loop-at.invariant.alike
      | then-at-saved-via-else-at-saved+then-not-is_saved w ↦
          has-another (with_client c.args.tags) c.args.replayed.now c.args.saved.now c.loop-at.at c.index-replayed-at.result w.index-saved-at.result
          c.loop-at-test.true c.index-replayed-at.is (omega (arith, w.if-at-saved.false)) w.index-saved-at.is
          (λ same. false≢true (sym w.if-not-is_saved.true ∙ w.is_saved.ensures.1 same)) c.loop-at.invariant.alike
    ]

pub returns-then-replayed-saved-clause-first : goal.returns-then-replayed-saved-clause-first
returns-then-replayed-saved-clause-first c =
    let ends : c.loop-at.at ≡ length c.args.replayed.now = omega arith in
    goes-past (with_client c.args.tags) c.args.replayed.now c.args.saved.now (length c.args.replayed.now) (omega arith) (omega arith)
    (ap (λ k. map (with_client c.args.tags) (take k c.args.replayed.now)) (sym ends) ∙ c.loop-at.invariant.alike ∙ ap (λ k. take k c.args.saved.now) ends)
