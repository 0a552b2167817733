use Rattle.std.proofs.Common.{◌≡◌, true, false, rules, arith}
use Rattle.std.proofs.lemmas.Grind.{common_steps}
use Rattle.uas_replay.specs.Told.{is_due}
use Rattle.uas_replay.proofs.Shown.{on_ok_two, shows_idle, shows_step}
use Rattle.uas_replay.proofs.replay.ScriptRun.step.Goals as goal

pub returns-then-not-is_due-clause-shown : goal.returns-then-not-is_due-clause-shown
returns-then-not-is_due-clause-shown g c =
    let due : is_due c.args.self.now.telling.machine c.args.step ≡ false = first_of (cc, search rules, grind (arith, common_steps)) in
    on_ok_two c.stay_idle.result (shows_idle g.V.Watcher.text_of c.args.self.now c.stay_idle.new.self c.args.step
    (g.V.Watcher.shown c.args.watcher.now c.args.writer.now) (g.V.Watcher.shown c.stay_idle.new.watcher c.stay_idle.new.writer) due)
    c.stay_idle.ensures.run c.stay_idle.ensures.shown

pub returns-clause-shown : goal.returns-clause-shown
returns-clause-shown g c =
    let due : is_due c.args.self.now.telling.machine c.args.step ≡ true = first_of (cc, search rules, grind (arith, common_steps)) in
    shows_step g.V.Watcher.text_of c.args.self.now c.act.new.run c.args.step (g.V.Watcher.shown c.args.watcher.now c.args.writer.now)
    (g.V.Watcher.shown c.act.new.self c.act.new.writer) due c.in_ok-act.ensures.run c.in_ok-act.ensures.shown
