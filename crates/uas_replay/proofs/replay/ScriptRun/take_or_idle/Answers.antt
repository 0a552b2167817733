use Rattle.std.proofs.Common.{◌≡◌, false, true, rules, arith}
use Rattle.std.proofs.lemmas.Result.{on_ok_weaker}
use Rattle.std.proofs.lemmas.Grind.{common_steps}
use Rattle.shared_machine.specs.declared.Step.TheVariants.{Take}
use Rattle.uas_replay.specs.Told.{is_due}
use Rattle.uas_replay.proofs.Shown.{shows_as, take_due, on_ok_two, shows_none_taken}
use Rattle.uas_replay.proofs.replay.ScriptRun.take_or_idle.Goals as goal

pub returns-then-is_due-clause-shown : goal.returns-then-is_due-clause-shown
returns-then-is_due-clause-shown g c =
    let due : is_due c.args.self.now.telling.machine (Take c.args.client) ≡ true = first_of (cc, search rules, grind (arith, common_steps)) in
    on_ok_weaker c.take.result (shows_as g.V.Watcher.text_of _ _ _ _ _ _ (take_due c.args.self.now.telling c.args.client due)) c.take.ensures.shown

pub returns-clause-shown : goal.returns-clause-shown
returns-clause-shown g c =
    let due : is_due c.args.self.now.telling.machine (Take c.args.client) ≡ false = first_of (cc, search rules, grind (arith, common_steps)) in
    on_ok_two c.stay_idle.result (shows_none_taken g.V.Watcher.text_of c.args.self.now c.stay_idle.new.self c.args.client
    (g.V.Watcher.shown c.args.watcher.now c.args.writer.now) (g.V.Watcher.shown c.stay_idle.new.watcher c.stay_idle.new.writer) due)
    c.stay_idle.ensures.run c.stay_idle.ensures.shown
