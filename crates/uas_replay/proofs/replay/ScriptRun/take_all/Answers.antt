use Rattle.std.proofs.Common.{◌∙◌, ◌++◌, ℕ, ap}
use Rattle.std.proofs.Math.Numerals.{suc-eq-add-one}
use Rattle.uas_replay.specs.Told.{Telling, all_taken_by, taken_below}
use Rattle.uas_replay.specs.Moments.{all_takes_of, takes_below}
use Rattle.uas_replay.proofs.Shown.{shows_as, shows_on}
use Rattle.uas_replay.proofs.replay.ScriptRun.take_all.Goals as goal

pub loop-client-preserved : goal.loop-client-preserved
loop-client-preserved g c = record {
  run =
      c.in_ok-take_all_of.ensures.run
      ∙ ap (λ (t : Telling). all_taken_by t c.loop-client.client) c.loop-client.invariant.run
      ∙ ap (λ (n : ℕ). taken_below n c.args.self.now.telling) (suc-eq-add-one c.loop-client.client);
  shown =
      shows_as g.V.Watcher.text_of _ _ _ _ _ _
      (ap (λ (t : Telling). takes_below c.loop-client.client c.args.self.now.telling ++ all_takes_of t c.loop-client.client) c.loop-client.invariant.run
      ∙ ap (λ (n : ℕ). takes_below n c.args.self.now.telling) (suc-eq-add-one c.loop-client.client))
      (shows_on g.V.Watcher.text_of _ _ _ _ _ _ _ _ c.loop-client.invariant.shown c.in_ok-take_all_of.ensures.shown);
  same = c.take_all_of.ensures.same ∙ c.loop-client.invariant.same;
}
