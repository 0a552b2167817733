use Rattle.std.proofs.Common.{ap}
use Rattle.xhci_ctl.specs.declared.Acted.{Acted}
use Rattle.xhci_ctl.specs.Steps.{Sides, sides_of}
use Rattle.uas_controller.specs.Machine.{MachineState}
use Rattle.uas_controller.specs.Steps.{stepped}
use Rattle.uas_controller.proofs.Fronts.{data-made}
use Rattle.uas_controller.proofs.Machine.data_step.Goals as goal

pub returns : goal.returns
returns c =
    let inside = c.self.inside in
    let told = c.data_step.ensures in
    let machine : MachineState =
    record { lines = inside.lines; frames = inside.frames; controller = inside.controller; device = inside.target } in
    let after : Sides × Acted =
    (sides_of c.data_step.new.lines c.data_step.new.frames c.data_step.new.target, c.data_step.result) in
    rw (← c.self.view_is) (ap (λ (made : Sides × Acted). stepped machine made)
    (data-made machine c.args.tag after c.whole.ensures told.own told.foreign_in told.foreign_out))
