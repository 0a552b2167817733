use Rattle.std.proofs.Common.{◌≡◌, ◌∙◌, ℕ, length, true, Some, None, ap, subst, sym, rules, arith}
use Rattle.std.proofs.lemmas.Grind.{common_steps}
use Rattle.std.proofs.lemmas.Result.{on_ok_weaker}
use Rattle.std.specs.Io.KnownBytes.{Appends}
use Rattle.shared_machine.specs.declared.Step.TheVariants.{Take}
use Rattle.uas_replay.specs.Told.{is_due, replied, step_of}
use Rattle.uas_replay.specs.Walks.{told_since}
use Rattle.uas_replay.proofs.Shown.{shows_as, take_due, shows_replied, shows_unreplied}
use Rattle.uas_replay.proofs.replay.ScriptRun.take.Goals as goal

pub returns-in_default-clause-shown : goal.returns-in_default-clause-shown
returns-in_default-clause-shown g c =
    let machine = c.args.self.now.telling.machine in
    let due : is_due machine (Take c.args.client) ≡ true = first_of (cc, search rules, grind (arith, common_steps)) in
    let none : (step_of machine (Take c.args.client)).1.reply ≡ None = first_of (cc, search rules, grind (arith, common_steps)) in
    shows_as g.V.Watcher.text_of _ _ _ _ _ _ (sym (take_due c.args.self.now.telling c.args.client due))
    (shows_unreplied g.V.Watcher.text_of c.args.self.now c.act.new.run c.args.client (g.V.Watcher.shown c.args.watcher.now c.args.writer.now)
    (g.V.Watcher.shown c.act.new.self c.act.new.writer) due c.in_ok-reply.ensures.run none c.in_ok-reply.ensures.shown)

pub returns-clause-shown : goal.returns-clause-shown
returns-clause-shown g c =
    let old = c.args.self.now in
    let due : is_due old.telling.machine (Take c.args.client) ≡ true = first_of (cc, search rules, grind (arith, common_steps)) in
    let is : (step_of old.telling.machine (Take c.args.client)).1.reply ≡ Some c.in-Some.reply =
    first_of (cc, search rules, grind (arith, common_steps)) in
    let leads : c.reply.new.self ≡ record c.act.new.run { telling = replied c.act.new.run.telling c.args.client (Some c.in-Some.reply) } =
    first_of (search rules, grind (arith, common_steps)) in
    let len : c.len-before.result ≡ length old.telling.text = first_of (cc, search rules, grind (arith, common_steps)) in
    let told : c.told_since.result.now ≡ told_since (length old.telling.text) c.reply.new.self.telling =
    c.told_since.ensures ∙ ap (λ (n : ℕ). told_since n c.reply.new.self.telling) len in
    let before = g.V.Watcher.shown c.args.watcher.now c.args.writer.now in
    let between = g.V.Watcher.shown c.act.new.self c.act.new.writer in
    let after = g.V.Watcher.shown c.hear.new.self c.hear.new.writer in
    on_ok_weaker c.hear.result (λ (heard : Appends between after c.told_since.result.now).
    shows_as g.V.Watcher.text_of _ _ _ _ _ _ (sym (take_due old.telling c.args.client due))
    (shows_replied g.V.Watcher.text_of old c.act.new.run c.reply.new.self c.args.client (Some c.in-Some.reply) before between after due
    c.in_ok-reply.ensures.run is leads c.in_ok-reply.ensures.shown (subst (Appends between after) told heard))) c.hear.ensures.shown
