use Rattle.std.proofs.Common.{◌∙◌, ◌<◌, length, rules, arith}
use Rattle.std.proofs.lemmas.Grind.{common_steps}
use Rattle.uas_replay.proofs.Shown.{lines_moments-at, so_far_on}
use Rattle.uas_replay.proofs.replay.ScriptRun.lines.Goals as goal

pub loop-line-preserved : goal.loop-line-preserved
loop-line-preserved g c =
    let within : c.loop-line.line-index < length c.args.lines.now = first_of (search rules, grind (arith, common_steps)) in
    record {
      run = first_of (search rules, grind (arith, common_steps));
      shown = so_far_on g.V.Watcher.text_of _ _ _ _ _ _ _ _ _ _ c.loop-line.invariant.shown
          (lines_moments-at _ _ _ _ _ within c.in_ok-line.ensures.run) c.in_ok-line.ensures.shown;
      same = c.line.ensures.same ∙ c.loop-line.invariant.same;
    }
