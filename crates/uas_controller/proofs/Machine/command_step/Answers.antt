use Rattle.std.proofs.Common.{◌≡◌, true, ap, arith}
use Rattle.std.proofs.lemmas.Bool.{lt-ltb}
use Rattle.uas_profile.specs.declared.TheConstants.{MOST_EVENTS}
use Rattle.xhci_ctl.specs.declared.Acted.{Acted}
use Rattle.xhci_ctl.specs.Steps.{Sides, has_event_room, sides_of}
use Rattle.uas_controller.specs.Machine.{MachineState}
use Rattle.uas_controller.specs.Steps.{stepped}
use Rattle.uas_controller.proofs.Fronts.{command-made}
use Rattle.uas_controller.proofs.Machine.command_step.Goals as goal

pub returns : goal.returns
returns c =
    let inside = c.self.inside in
    let machine : MachineState =
    record { lines = inside.lines; frames = inside.frames; controller = inside.controller; device = inside.target } in
    let after : Sides × Acted =
    (sides_of c.command_step.new.lines inside.frames c.command_step.new.target, c.command_step.result) in
    let room : has_event_room machine.lines ≡ true = lt-ltb _ MOST_EVENTS (omega (arith, c.len.ensures.len)) in
    rw (← c.self.view_is) (ap (λ (made : Sides × Acted). stepped machine made)
    (command-made machine after c.whole.ensures room c.command_step.ensures.own c.command_step.ensures.foreign))
