use Rattle.std.proofs.Common.{◌∙◌, ◌++◌, ℕ, ap}
use Rattle.std.proofs.Math.Numerals.{suc-eq-add-one}
use Rattle.uas_replay.specs.Told.{Telling, taken, taken_times}
use Rattle.uas_replay.specs.Moments.{take_moments, takes_moments}
use Rattle.uas_replay.proofs.Shown.{shows_as, shows_on}
use Rattle.uas_replay.proofs.replay.ScriptRun.take_all_of.Goals as goal

pub loop-turn-preserved : goal.loop-turn-preserved
loop-turn-preserved g c = record {
  run =
      c.in_ok-take.ensures.run
      ∙ ap (λ (t : Telling). taken t c.args.client) c.loop-turn.invariant.run
      ∙ ap (λ (n : ℕ). taken_times n c.args.self.now.telling c.args.client) (suc-eq-add-one c.loop-turn.turn);
  shown =
      shows_as g.V.Watcher.text_of _ _ _ _ _ _
      (ap (λ (t : Telling). takes_moments c.loop-turn.turn c.args.self.now.telling c.args.client ++ take_moments t c.args.client) c.loop-turn.invariant.run
      ∙ ap (λ (n : ℕ). takes_moments n c.args.self.now.telling c.args.client) (suc-eq-add-one c.loop-turn.turn))
      (shows_on g.V.Watcher.text_of _ _ _ _ _ _ _ _ c.loop-turn.invariant.shown c.in_ok-take.ensures.shown);
  same = c.take.ensures.same ∙ c.loop-turn.invariant.same;
}
