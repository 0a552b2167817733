use Rattle.std.proofs.Common.{◌≡◌, ◌⊎◌, arith, ap, inl, inr, refl, ◌∙◌}
use Rattle.uas_replay.specs.Told.{Telling}
use Rattle.shared_machine.proofs.Rounds.{rounds-next}
use Rattle.uas_replay.proofs.Shown.{so_far_last, so_far_nothing, so_far_on}
use Rattle.uas_trace.proofs.Tries.{rounds_moments-last, rounds_moments-next}
use Rattle.uas_replay.specs.Moments.{drain_moments}
use Rattle.uas_trace.specs.Texts.{step_text}
use Rattle.uas_trace.proofs.trace.Tracer.rounds.Goals as goal

pub loop-after-init : goal.loop-after-init
unfolding drain_moments
loop-after-init g c = record { machine = refl; rest = refl; shown = so_far_nothing step_text _ _ _; same = refl }

pub loop-after-preserved : goal.loop-after-preserved
loop-after-preserved g c = record {
  machine =
      rounds-next c.loop-after.more (c.loop-after.run.telling.machine, c.loop-after.left) _ c.in_ok-after.ensures.machine (λ e. omega arith)
      (λ e. omega arith) (λ e. omega arith)
      ∙ c.loop-after.invariant.machine;
  rest = c.in_ok-after.ensures.rest ∙ ap (λ (t : Telling). record t { machine = c.round.new.run.telling.machine }) c.loop-after.invariant.rest;
  shown =
      so_far_on step_text _ _ _ _ _ _ _ _ _ _ c.loop-after.invariant.shown
      (rounds_moments-next c.loop-after.more (c.loop-after.run.telling.machine, c.loop-after.left) _ c.in_ok-after.ensures.machine (λ e. omega arith)
      (λ e. omega arith) (λ e. omega arith)) c.in_ok-after.ensures.shown;
  same = c.round.ensures.same ∙ c.loop-after.invariant.same;
}

pub returns-then-after-eq0-clause-shown : goal.returns-then-after-eq0-clause-shown
returns-then-after-eq0-clause-shown g c =
    let last : (c.in_ok-after.after ≡ 0) ⊎ ((c.in_ok-after.after ≡ c.loop-after.left) ⊎ (c.loop-after.more ≡ 0)) = elim c.then-after-eq0.either [
      | inl none ↦ inl none
      | inr (inl same) ↦ inr (inl same.1)
      | inr (inr end) ↦ inr (inr end.2)
    ] in
    so_far_last step_text _ _ _ _ _ _ _ _ _ c.loop-after.invariant.shown
    (rounds_moments-last c.loop-after.more (c.loop-after.run.telling.machine, c.loop-after.left) _ c.in_ok-after.ensures.machine last)
    c.in_ok-after.ensures.shown
