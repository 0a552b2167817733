use Rattle.std.proofs.Common.{ap}
use Rattle.xhci_ctl.specs.declared.Acted.{Acted}
use Rattle.xhci_ctl.specs.Steps.{Sides, sides_of}
use Rattle.uas_controller.specs.Machine.{MachineState}
use Rattle.uas_controller.specs.Steps.{stepped}
use Rattle.uas_controller.proofs.Fronts.{status-made}
use Rattle.uas_controller.proofs.Machine.status_step.Goals as goal

pub returns : goal.returns
returns c =
    let inside = c.self.inside in
    let machine : MachineState =
    record { lines = inside.lines; frames = inside.frames; controller = inside.controller; device = inside.target } in
    let after : Sides × Acted =
    (sides_of c.status_step.new.lines c.status_step.new.frames c.status_step.new.target, c.status_step.result) in
    rw (← c.self.view_is) (ap (λ (made : Sides × Acted). stepped machine made)
    (status-made machine c.args.tag after c.whole.ensures c.status_step.ensures.own c.status_step.ensures.foreign))
