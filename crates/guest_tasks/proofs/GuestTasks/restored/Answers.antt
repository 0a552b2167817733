use Rattle.std.proofs.Common.{ap, arith, false, get_or, ◌∙◌, ℕ}
use Rattle.guest_tasks.proofs.Restored.{marked_more}
use Rattle.guest_tasks.proofs.GuestTasks.restored.Goals as goal

pub loop-tag-preserved : goal.loop-tag-preserved
loop-tag-preserved c =
    let set = c.set_active.ensures in
    let here = set.here (omega arith) ∙ ap (λ (k : ℕ). get_or c.args.marks.now k false) c.from.ensures in
    marked_more c.loop-tag.tag c.args.tasks c.args.marks.now c.loop-tag.device c.set_active.new.self c.loop-tag.invariant set.tasks here set.others
