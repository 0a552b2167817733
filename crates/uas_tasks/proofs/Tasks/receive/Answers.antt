use Rattle.std.proofs.Common.{ap, sym, ◌∙◌}
use Rattle.uas_tasks.specs.Machine.{received}
use Rattle.uas_tasks.proofs.Received.{received-command, received-task, received-sense, received-response}
use Rattle.uas_tasks.proofs.Tasks.receive.Goals as goal

pub returns-in-Ok-Command : goal.returns-in-Ok-Command
returns-in-Ok-Command c =
    let found = rw c.in-Ok-Command.field-0-is at c.in-Ok-Command.ensures.found in
    c.receive_command.ensures ∙ sym (ap (received c.args.self.now) found.1 ∙ received-command c.args.self.now _ _ _ found.0)

pub returns-in-Ok-Task : goal.returns-in-Ok-Task
returns-in-Ok-Task c =
    let found = rw c.in-Ok-Task.field-0-is at c.in-Ok-Task.ensures.found in
    c.receive_task.ensures ∙ sym (ap (received c.args.self.now) found.1 ∙ received-task c.args.self.now _ _ _ _ found.0)

pub returns-in-Ok-Sense : goal.returns-in-Ok-Sense
returns-in-Ok-Sense c =
    let found = rw c.in-Ok-Sense.field-0-is at c.in-Ok-Sense.ensures.found in
    sym (ap (received c.args.self.now) found.1 ∙ received-sense c.args.self.now _ _ _ found.0)

pub returns-in-Ok-Response : goal.returns-in-Ok-Response
returns-in-Ok-Response c =
    let found = rw c.in-Ok-Response.field-0-is at c.in-Ok-Response.ensures.found in
    sym (ap (received c.args.self.now) found.1 ∙ received-response c.args.self.now _ _ found.0)
