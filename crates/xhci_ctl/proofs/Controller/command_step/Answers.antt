use Rattle.xhci_ctl.specs.Steps.{sides_of}
use Rattle.xhci_ctl.proofs.Commanded.{commanded_received}
use Rattle.xhci_ctl.proofs.Controller.command_step.Goals as goal

pub returns-clause-own : goal.returns-clause-own
returns-clause-own c = λ own.
    let one_is = rw c.in-Some-Normal.is at c.in-Some-Normal.field-0-is in
    commanded_received (sides_of c.args.lines.now c.args.frames.now c.args.target.now) c.in-Some.address c.in-Some-Normal.field-0-0 c.in-Some-Normal.length
    c.in-Some-Normal.field-0-2 c.in-Some-Normal.field-0-3 c.in-Some.trb c.in-Some-Normal.field-0 c.in-Some-own_command.start c.read_at.result.now c.complete-2.new.lines
    c.receive-tag.new.target c.receive-tag.result c.in-Some.ensures.front
    c.in-Some-Normal.is one_is c.in-Some-own_command.ensures.start c.read_at.ensures.value
    c.complete-2.ensures c.receive-tag.ensures.device c.receive-tag.ensures.tag
