use Rattle.std.proofs.Common.{◌≡◌, ◌∙◌, ℕ, length, Some, Ok, Err, ap, subst, rules, arith}
use Rattle.std.proofs.lemmas.Grind.{common_steps}
use Rattle.std.proofs.lemmas.Result.{on_ok_weaker}
use Rattle.std.specs.Io.KnownBytes.{Appends}
use Rattle.uas_replay.specs.Printed.{refused_name}
use Rattle.uas_replay.specs.Told.{given_run, refused_run}
use Rattle.uas_replay.specs.Walks.{Walk, issued_in, told_since}
use Rattle.uas_replay.proofs.Shown.{handed-given, on_ok_any, on_ok_three, shows_handed}
use Rattle.uas_replay.proofs.replay.ScriptRun.hand_in.Goals as goal

pub returns-in-Ok-clause-shown : goal.returns-in-Ok-clause-shown
returns-in-Ok-clause-shown g c =
    let old = c.args.self.now in
    let is : Some (Ok c.in-Ok.given) ≡ issued_in old.telling c.args.client c.args.handed = first_of (cc, search rules) in
    on_ok_three c.hand_over.result (shows_handed g.V.Watcher.text_of old c.issue.new.self c.hand_over.new.self c.args.client c.args.handed
    (Ok c.in-Ok.given) (g.V.Watcher.shown c.args.watcher.now c.args.writer.now) (g.V.Watcher.shown c.hand_over.new.watcher c.hand_over.new.writer)
    is c.issue.ensures.run) c.hand_over.ensures.run c.hand_over.ensures.world c.hand_over.ensures.shown

pub returns-in_ok-map_err-in-Err-clause-run : goal.returns-in_ok-map_err-in-Err-clause-run
returns-in_ok-map_err-in-Err-clause-run g c =
    let old = c.args.self.now in
    let is : Some (Err c.in-Err.refused) ≡ issued_in old.telling c.args.client c.args.handed = first_of (cc, search rules) in
    let leads : c.refuse.new.self
    ≡ record c.issue.new.self { telling = refused_run c.issue.new.self.telling c.args.client (refused_name c.in-Err.refused) } =
    first_of (search rules, grind (arith, common_steps)) in
    on_ok_any c.hear.result (ap (λ (w : Walk). w.telling) leads
    ∙ ap (λ (w : Walk). given_run w.telling c.args.client c.args.handed (Err c.in-Err.refused)) c.issue.ensures.run
    ∙ handed-given old.telling c.args.client c.args.handed (Err c.in-Err.refused) is)

pub returns-in_ok-map_err-in-Err-clause-shown : goal.returns-in_ok-map_err-in-Err-clause-shown
returns-in_ok-map_err-in-Err-clause-shown g c =
    let old = c.args.self.now in
    let is : Some (Err c.in-Err.refused) ≡ issued_in old.telling c.args.client c.args.handed = first_of (cc, search rules) in
    let leads : c.refuse.new.self
    ≡ record c.issue.new.self { telling = refused_run c.issue.new.self.telling c.args.client (refused_name c.in-Err.refused) } =
    first_of (search rules, grind (arith, common_steps)) in
    let len : c.len-before.result ≡ length c.issue.new.self.telling.text = first_of (cc, search rules, grind (arith, common_steps)) in
    let told : c.told_since.result.now ≡ told_since (length c.issue.new.self.telling.text) c.refuse.new.self.telling =
    c.told_since.ensures ∙ ap (λ (n : ℕ). told_since n c.refuse.new.self.telling) len in
    let before = g.V.Watcher.shown c.args.watcher.now c.args.writer.now in
    let after = g.V.Watcher.shown c.hear.new.self c.hear.new.writer in
    on_ok_weaker c.hear.result (λ (heard : Appends before after c.told_since.result.now).
    shows_handed g.V.Watcher.text_of old c.issue.new.self c.refuse.new.self c.args.client c.args.handed (Err c.in-Err.refused) before after
    is c.issue.ensures.run (ap (λ (w : Walk). w.telling) leads) (ap (λ (w : Walk). w.world) leads) (subst (Appends before after) told heard))
    c.hear.ensures.shown
