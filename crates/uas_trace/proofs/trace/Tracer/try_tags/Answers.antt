use Rattle.std.proofs.Common.{◌∙◌, ℕ, ap, arith}
use Rattle.uas_replay.specs.Told.{Telling}
use Rattle.bus_core.proofs.drain.DrainTags.{tried-further, tried-whole}
use Rattle.shared_machine.specs.declared.Step.{Step}
use Rattle.shared_machine.specs.Drain.{tried_one}
use Rattle.uas_replay.proofs.Shown.{shows_as, shows_on}
use Rattle.shared_machine.specs.Shared.{Shared}
use Rattle.uas_replay.specs.Moments.{try_moments}
use Rattle.uas_trace.proofs.Tries.{moments-off, moments-on}
use Rattle.uas_trace.specs.Traced.{step_of_tag}
use Rattle.uas_trace.specs.Texts.{step_text}
use Rattle.uas_trace.proofs.trace.Tracer.try_tags.Goals as goal
use Rattle.shared_machine.specs.Shared.{greatest_tag}

pub loop-next-preserved : goal.loop-next-preserved
loop-next-preserved g c = record {
  tags = tried-further c.loop-next.invariant.tags c.in-Some.ensures.next (λ other rests. rests)
      (c.in_ok-left.ensures.machine ∙ ap (λ (step : Step). tried_one (c.loop-next.run.telling.machine, c.loop-next.left) step) c.step.ensures.step);
  rest = c.in_ok-left.ensures.rest ∙ ap (λ (t : Telling). record t { machine = c.try_step.new.run.telling.machine }) c.loop-next.invariant.rest;
  shown =
      let at : Shared × ℕ = (c.loop-next.run.telling.machine, c.loop-next.left) in
      let so = c.loop-next.invariant.tags in
      shows_as step_text _ _ _ _ _ _
      (moments-on (step_of_tag c.args.kind) (c.args.run.now.telling.machine, c.args.left) c.loop-next.tag c.in-Some.next at so.so_far
      c.in-Some.ensures.next.0 (λ other above below. c.in-Some.ensures.next.2 other above below))
      (shows_on step_text _ _ _ _ _ _ _ _ c.loop-next.invariant.shown
      (shows_as step_text _ _ _ _ _ _ (ap (λ (step : Step). try_moments at step) c.step.ensures.step) c.in_ok-left.ensures.shown));
  same = c.try_step.ensures.same ∙ c.loop-next.invariant.same;
}

pub returns-clause-machine : goal.returns-clause-machine
returns-clause-machine g c = tried-whole c.loop-next.invariant.tags c.in_default.ensures.none (λ other rests. rests)

pub returns-clause-shown : goal.returns-clause-shown
returns-clause-shown g c =
    let start : Shared × ℕ = (c.args.run.now.telling.machine, c.args.left) in
    let at : Shared × ℕ = (c.loop-next.run.telling.machine, c.loop-next.left) in
    let so = c.loop-next.invariant.tags in
    shows_as step_text _ _ _ _ _ _
    (moments-off (step_of_tag c.args.kind) start c.loop-next.tag (greatest_tag start.0) at so.so_far so.within
    (λ other above below. c.in_default.ensures.none other above (omega (arith, below, so.greatest))))
    c.loop-next.invariant.shown
