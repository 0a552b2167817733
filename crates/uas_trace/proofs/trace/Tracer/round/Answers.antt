use Rattle.std.proofs.Common.{ℕ}
use Rattle.std.proofs.lemmas.Result.{IfOk-weaker, on_ok_weaker}
use Rattle.shared_machine.specs.Shared.{Shared}
use Rattle.shared_machine.proofs.Rounds.{round-by}
use Rattle.uas_replay.proofs.Shown.{shows_as, shows_on}
use Rattle.uas_trace.proofs.Tries.{round_moments-by}
use Rattle.uas_trace.specs.Texts.{step_text}
use Rattle.uas_trace.proofs.trace.Tracer.round.Goals as goal

pub returns-clause-machine : goal.returns-clause-machine
returns-clause-machine g c =
    let one : Shared × ℕ = (c.try_step.new.run.telling.machine, c.in_ok-first.first) in
    let two : Shared × ℕ = (c.try_step-2.new.run.telling.machine, c.in_ok-second.second) in
    let three : Shared × ℕ = (c.try_step-3.new.run.telling.machine, c.in_ok-third.third) in
    let four : Shared × ℕ = (c.try_tags.new.run.telling.machine, c.in_ok-fourth.fourth) in
    let five : Shared × ℕ = (c.try_tags-2.new.run.telling.machine, c.in_ok-fifth.fifth) in
    let six : Shared × ℕ = (c.try_tags-3.new.run.telling.machine, c.in_ok-sixth.sixth) in
    let seven : Shared × ℕ = (c.try_tags-4.new.run.telling.machine, c.in_ok-seventh.seventh) in
    IfOk-weaker c.try_tags-5.result _ _ (λ after is.
    round-by (c.args.run.now.telling.machine, c.args.left) one two three four five six seven (c.try_tags-5.new.run.telling.machine, after)
    c.in_ok-first.ensures.machine c.in_ok-second.ensures.machine c.in_ok-third.ensures.machine c.in_ok-fourth.ensures.machine
    c.in_ok-fifth.ensures.machine c.in_ok-sixth.ensures.machine c.in_ok-seventh.ensures.machine is) c.try_tags-5.ensures.machine

-- the eight parts, one after another
pub returns-clause-shown : goal.returns-clause-shown
returns-clause-shown g c =
    let one : Shared × ℕ = (c.try_step.new.run.telling.machine, c.in_ok-first.first) in
    let two : Shared × ℕ = (c.try_step-2.new.run.telling.machine, c.in_ok-second.second) in
    let three : Shared × ℕ = (c.try_step-3.new.run.telling.machine, c.in_ok-third.third) in
    let four : Shared × ℕ = (c.try_tags.new.run.telling.machine, c.in_ok-fourth.fourth) in
    let five : Shared × ℕ = (c.try_tags-2.new.run.telling.machine, c.in_ok-fifth.fifth) in
    let six : Shared × ℕ = (c.try_tags-3.new.run.telling.machine, c.in_ok-sixth.sixth) in
    let seven : Shared × ℕ = (c.try_tags-4.new.run.telling.machine, c.in_ok-seventh.seventh) in
    let first = shows_on step_text _ _ _ _ _ _ _ _ c.in_ok-first.ensures.shown c.in_ok-second.ensures.shown in
    let second = shows_on step_text _ _ _ _ _ _ _ _ first c.in_ok-third.ensures.shown in
    let third = shows_on step_text _ _ _ _ _ _ _ _ second c.in_ok-fourth.ensures.shown in
    let fourth = shows_on step_text _ _ _ _ _ _ _ _ third c.in_ok-fifth.ensures.shown in
    let fifth = shows_on step_text _ _ _ _ _ _ _ _ fourth c.in_ok-sixth.ensures.shown in
    let sixth = shows_on step_text _ _ _ _ _ _ _ _ fifth c.in_ok-seventh.ensures.shown in
    let parts = round_moments-by (c.args.run.now.telling.machine, c.args.left) one two three four five six seven
    c.in_ok-first.ensures.machine c.in_ok-second.ensures.machine c.in_ok-third.ensures.machine c.in_ok-fourth.ensures.machine
    c.in_ok-fifth.ensures.machine c.in_ok-sixth.ensures.machine c.in_ok-seventh.ensures.machine in
    on_ok_weaker c.try_tags-5.result (λ eighth. shows_as step_text _ _ _ _ _ _ parts (shows_on step_text _ _ _ _ _ _ _ _ sixth eighth))
    c.try_tags-5.ensures.shown
