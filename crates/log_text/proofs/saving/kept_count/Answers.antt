use Rattle.std.proofs.Common.{◌∷◌, [], List, length, take, ap, sym, arith, length-append}
use Rattle.shared_machine.specs.declared.Step.{Step}
use Rattle.log_text.specs.Kept.{kept}
use Rattle.log_text.proofs.Keeping.{kept_here, kept_not}
use Rattle.log_text.proofs.saving.kept_count.Goals.{then-refusals-at-eq0, else-refusals-at-eq0}
use Rattle.log_text.proofs.saving.kept_count.Goals as goal

pub loop-at-preserved : goal.loop-at-preserved
loop-at-preserved c =
    let l = c.loop-at in
    let list = c.args.steps.now in
    let refusals = c.args.refusals.now in
    let step : Step = c.index-steps-at.result in
    let so_far : List Step = kept (take l.at list) (take l.at refusals) in
    elim c.if-refusals-at-eq0.branch [
      | then-refusals-at-eq0 w ↦
          let more = kept_here l.at list refusals step c.loop-at-test.true (omega (arith, c.loop-at-test.true, c.requires)) (sym c.index-steps-at.is) w.if-refusals-at-eq0.true in
          (omega (arith, w.count-is, ap length more, length-append so_far (step ∷ []), l.invariant.0), omega (arith, w.count-is, l.invariant.1))
      | else-refusals-at-eq0 w ↦
          let more = kept_not l.at list refusals step c.loop-at-test.true (omega (arith, c.loop-at-test.true, c.requires)) (sym c.index-steps-at.is) (omega (arith, w.if-refusals-at-eq0.false)) in
          (omega (arith, w.count-is, ap length more, l.invariant.0), omega (arith, w.count-is, l.invariant.1))
    ]
