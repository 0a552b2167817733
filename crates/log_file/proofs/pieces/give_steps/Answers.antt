use Rattle.std.proofs.Common.{◌+◌, ◌∙◌, List, length, take, sym, arith, ℕ}
use Rattle.shared_machine.specs.declared.Step.{Step}
use Rattle.log_text.specs.declared.Version.TheVariants.{Second}
use Rattle.log_text.specs.Kept.{kept}
use Rattle.log_text.specs.Text.{StepFits, field}
use Rattle.log_text.proofs.Keeping.{kept_here, kept_holds, kept_not}
use Rattle.log_file.proofs.Gaves.{gave_one_more}
use Rattle.log_file.proofs.pieces.give_steps.Goals.{then-refusals-at-eq0+in_ok-give_step, else-refusals-at-eq0}
use Rattle.log_file.proofs.pieces.give_steps.Goals as goal

pub give_step-requires : goal.give_step-requires
give_step-requires g c =
    kept_holds (StepFits Second 31) c.loop-at.at c.args.steps.now c.args.refusals.now c.index-steps-at.result c.loop-at-test.true
    (omega (arith, c.loop-at-test.true, c.requires.told)) (sym c.index-steps-at.is) c.if-refusals-at-eq0.true c.requires.fit

pub loop-at-preserved : goal.loop-at-preserved
loop-at-preserved g c =
    let l = c.loop-at in
    let list = c.args.steps.now in
    let refusals = c.args.refusals.now in
    let step : Step = c.index-steps-at.result in
    let so_far : List Step = kept (take l.at list) (take l.at refusals) in
    let next : List Step = kept (take (l.at + 1) list) (take (l.at + 1) refusals) in
    let front : List ℕ = field 4 (length (kept list refusals)) in
    elim c.if-refusals-at-eq0.branch [
      | then-refusals-at-eq0+in_ok-give_step w ↦
          let more = kept_here l.at list refusals step c.loop-at-test.true (omega (arith, c.loop-at-test.true, c.requires.told)) (sym c.index-steps-at.is) w.if-refusals-at-eq0.true in
          let gave = w.in_ok-give_step.ensures in
          record {
            text = rw (w.out-is, w.waiting-is) (gave_one_more front so_far next step more l.invariant.text gave.text);
            same = rw w.out-is (gave.same ∙ l.invariant.same);
            stays = rw w.out-is (gave.stays ∙ l.invariant.stays);
            file = rw w.out-is (gave.file ∙ l.invariant.file);
          }
      | else-refusals-at-eq0 w ↦
          let more = kept_not l.at list refusals step c.loop-at-test.true (omega (arith, c.loop-at-test.true, c.requires.told)) (sym c.index-steps-at.is) (omega (arith, w.if-refusals-at-eq0.false)) in
          record {
            text = rw (w.out-is, w.waiting-is, more) l.invariant.text;
            same = rw w.out-is l.invariant.same;
            stays = rw w.out-is l.invariant.stays;
            file = rw w.out-is l.invariant.file;
          }
    ]
