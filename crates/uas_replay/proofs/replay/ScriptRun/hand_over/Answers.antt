use Rattle.std.proofs.Common.{◌≡◌, ◌∙◌, ℕ, length, ap, subst, rules, arith}
use Rattle.std.proofs.lemmas.Grind.{common_steps}
use Rattle.std.proofs.KnownBytes.{Appends-trans}
use Rattle.std.proofs.lemmas.Result.{on_ok_weaker}
use Rattle.std.specs.Io.KnownBytes.{Appends}
use Rattle.shared_machine.specs.declared.Step.{Step}
use Rattle.uas_replay.specs.Told.{handing_in}
use Rattle.uas_replay.specs.Walks.{told_since}
use Rattle.uas_replay.proofs.replay.ScriptRun.hand_over.Goals as goal

pub returns-clause-shown : goal.returns-clause-shown
returns-clause-shown g c =
    let old = c.args.self.now in
    let step = handing_in c.args.handed c.args.client c.args.given in
    let is : c.in_ok-step.step ≡ step = first_of (search rules, grind (arith, common_steps)) in
    let len : c.len-before.result ≡ length old.telling.text = first_of (cc, search rules, grind (arith, common_steps)) in
    let told : c.told_since.result.now ≡ told_since (length old.telling.text) c.hear.new.self.telling =
    c.told_since.ensures ∙ ap (λ (n : ℕ). told_since n c.hear.new.self.telling) len in
    let before = g.V.Watcher.shown c.args.watcher.now c.args.writer.now in
    let between = g.V.Watcher.shown c.act.new.self c.act.new.writer in
    let after = g.V.Watcher.shown c.hear-2.new.self c.hear-2.new.writer in
    let acts : Appends before between (g.V.Watcher.text_of old.world step) =
    subst (λ (s : Step). Appends before between (g.V.Watcher.text_of old.world s)) is c.in_ok-refused.ensures.shown in
    on_ok_weaker c.hear-2.result (λ (heard : Appends between after c.told_since.result.now).
    Appends-trans before between after (g.V.Watcher.text_of old.world step) (told_since (length old.telling.text) c.hear.new.self.telling)
    acts (subst (Appends between after) told heard)) c.hear-2.ensures.shown
