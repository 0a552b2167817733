use Rattle.shared_machine.specs.declared.Mark.TheVariants.{Carry}
use Rattle.shared_machine.specs.declared.Step.TheVariants.{CommandPipe}
use Rattle.bus_core.specs.Owners.{acted_as}
use Rattle.bus_core.specs.World.{world_of}
use Rattle.bus_core.specs.Decoded.{decoded}
use Rattle.bus_core.proofs.common.BusFields.{fits-in, world_in}
use Rattle.bus_core.proofs.carry.CommandFits.{commands_due}
use Rattle.bus_core.proofs.common.Taken.{IsTaken, command-taken}
use Rattle.std.proofs.Common.{ap, ◌∙◌}
use Rattle.bus_core.specs.WorldSteps.{command_world}
use Rattle.bus_core.proofs.common.WholeSteps.{sides-after}
use Rattle.bus_core.proofs.RingBus.carry.Goals as goal
use Rattle.bus_core.proofs.RingBus.carry.Goals.{After-stand}

-- what the device receives is the shared machine's step
carried : (c : After-stand) → IsTaken (decoded c.args.self.now) CommandPipe
    (world_of c.self.inside.host c.self.inside.controller c.command_step-acted.new.target c.command_step-acted.new.lines c.self.inside.frames)
    (acted_as (decoded c.args.self.now).tags Carry c.command_step-acted.result)
carried c =
    command-taken (decoded c.args.self.now) (world_in c.self.inside)
    c.command_step-acted.new.lines c.command_step-acted.new.target c.command_step-acted.result
    (fits-in c.self.inside c.self.view_is c.self.invariant) (c.command_step-acted.ensures.own (commands_due (decoded c.args.self.now) (world_in c.self.inside)
    (fits-in c.self.inside c.self.view_is c.self.invariant)).own) c.stand.ensures.lines c.stand.ensures.frames

pub invariant_of-self : goal.invariant_of-self
invariant_of-self c = (carried (goal.at.invariant_of-self c).After-stand).fits

pub returns-clause-shared : goal.returns-clause-shared
returns-clause-shared c = (carried (goal.at.returns-clause-shared c).After-stand).shared

pub returns-clause-world : goal.returns-clause-world
returns-clause-world c =
    sides-after (world_in c.self.inside) c.command_step-acted.new.lines c.self.inside.frames c.command_step-acted.new.target c.command_step-acted.result _
    (c.command_step-acted.ensures.own (commands_due (decoded c.args.self.now) (world_in c.self.inside)
    (fits-in c.self.inside c.self.view_is c.self.invariant)).own)
    ∙ ap command_world c.self.view_is
