use Rattle.std.proofs.Common.{arith, ◌+◌, ◌∙◌}
use Rattle.uas_target.proofs.Managed.{changed-whole, spared-more}
use Rattle.uas_target.proofs.table.TaskTable.end_commands.Goals as goal

pub loop-slot-preserved : goal.loop-slot-preserved
loop-slot-preserved c =
    c.end_command.ensures.task
    ∙ spared-more c.args.number c.loop-slot.slot (c.loop-slot.slot + 1) c.loop-slot.self c.args.self.now c.loop-slot.invariant (omega arith) (omega arith)

pub returns : goal.returns
returns c = c.loop-slot.invariant ∙ changed-whole _ c.loop-slot.slot c.args.self.now (omega arith)
