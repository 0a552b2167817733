use Rattle.std.proofs.Common.{ap, length, sym, subst, ◌∙◌}
use Rattle.uas_tasks.specs.declared.Task.{Task}
use Rattle.uas_tasks.specs.Machine.{Machine, has_task}
use Rattle.uas_tasks.specs.Soundness.{IsAnswer}
use Rattle.uas_tasks.proofs.Machines.{managed_answers, managed_free}
use Rattle.uas_tasks.proofs.Tasks.receive_task.Goals as goal

pub respond-requires-clause-free : goal.respond-requires-clause-free
respond-requires-clause-free c =
    let same = ap (λ (after : Machine × Task). has_task after.0 c.args.tag) c.manage-answer.ensures in
    same ∙ managed_free c.args.self.now c.args.function c.args.task_tag c.args.lun.now c.args.tag c.in_default.ensures.free.1

pub respond-requires-clause-answer : goal.respond-requires-clause-answer
respond-requires-clause-answer c =
    let answers = managed_answers c.args.self.now c.args.function c.args.task_tag c.args.lun.now in
    let P : Machine × Task → Type 0 = λ after. IsAnswer (length after.0.units) after.1 in
    subst P (sym c.manage-answer.ensures) (rw answers.0 answers.1)
