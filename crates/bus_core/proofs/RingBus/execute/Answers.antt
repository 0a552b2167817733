use Rattle.shared_machine.specs.declared.Step.TheVariants.{Engine}
use Rattle.bus_core.specs.Owners.{executed_as}
use Rattle.bus_core.specs.World.{world_of}
use Rattle.bus_core.specs.Decoded.{decoded}
use Rattle.bus_core.proofs.common.BusFields.{fits-in, world_in}
use Rattle.bus_core.proofs.retire.EngineStepped.{engine-taken}
use Rattle.bus_core.proofs.common.Taken.{IsTaken}
use Rattle.std.proofs.Common.{ap, ◌∙◌}
use Rattle.bus_core.specs.WorldSteps.{engine_world}
use Rattle.bus_core.proofs.common.WholeSteps.{engine-after}
use Rattle.bus_core.proofs.RingBus.execute.Goals as goal
use Rattle.bus_core.proofs.RingBus.execute.Goals.{After-stand}

-- what the controller executes is the shared machine's step
executed : (c : After-stand) → IsTaken (decoded c.args.self.now) Engine
    (world_of c.self.inside.host c.engine_step-acted.new.self c.self.inside.target c.engine_step-acted.new.lines c.self.inside.frames)
    (executed_as c.self.inside.host.retirement c.engine_step-acted.result)
executed c =
    engine-taken (decoded c.args.self.now) (world_in c.self.inside) c.engine_step-acted.new.self c.engine_step-acted.new.lines c.engine_step-acted.result
    (fits-in c.self.inside c.self.view_is c.self.invariant) c.engine_step-acted.ensures c.stand.ensures.lines

pub invariant_of-self : goal.invariant_of-self
invariant_of-self c = (executed (goal.at.invariant_of-self c).After-stand).fits

pub returns-clause-shared : goal.returns-clause-shared
returns-clause-shared c = rw (c.executed.ensures, c.retirement-retirement.ensures) (executed (goal.at.returns-clause-shared c).After-stand).shared

pub returns-clause-world : goal.returns-clause-world
returns-clause-world c =
    engine-after (world_in c.self.inside) c.engine_step-acted.new.self c.engine_step-acted.new.lines c.engine_step-acted.result
    c.engine_step-acted.ensures
    ∙ ap engine_world c.self.view_is
