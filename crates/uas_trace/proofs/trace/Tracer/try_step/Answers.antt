use Rattle.std.proofs.Common.{◌≡◌, true, sym, rules, arith}
use Rattle.std.proofs.lemmas.Grind.{common_steps}
use Rattle.uas_replay.specs.Told.{is_due}
use Rattle.uas_replay.proofs.Shown.{shows_as, shows_step}
use Rattle.uas_trace.specs.Texts.{step_text}
use Rattle.uas_trace.specs.Traced.{with_waiting}
use Rattle.uas_trace.proofs.Tries.{try_moments-acts}
use Rattle.uas_trace.proofs.trace.Tracer.try_step.Goals as goal

pub returns-clause-shown : goal.returns-clause-shown
returns-clause-shown g c =
    let some : c.args.left ≡ 0 → ⊥ = first_of (search rules, grind (arith, common_steps)) in
    let due : is_due c.args.run.now.telling.machine c.args.step ≡ true = first_of (cc, search rules, grind (arith, common_steps)) in
    shows_as step_text _ _ _ _ _ _ (sym (try_moments-acts (c.args.run.now.telling.machine, c.args.left) c.args.step some due))
    (shows_step step_text c.args.run.now c.print_step.new.run c.args.step
    (with_waiting (g.O.Sink.written c.args.writer.now) c.args.self.now.waiting.items)
    (with_waiting (g.O.Sink.written c.print_step.new.writer) c.print_step.new.self.waiting.items)
    due c.in_ok-print_step.ensures.run c.in_ok-print_step.ensures.shown)
