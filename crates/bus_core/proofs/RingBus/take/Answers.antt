use Rattle.shared_machine.specs.declared.Step.TheVariants.{Take}
use Rattle.bus_core.specs.Owners.{taken_as}
use Rattle.bus_core.specs.World.{world_of}
use Rattle.bus_core.specs.Decoded.{decoded}
use Rattle.bus_core.proofs.common.BusFields.{fits-in, world_in}
use Rattle.bus_core.proofs.common.Taken.{IsTaken, take-taken}
use Rattle.std.proofs.Common.{ap, ◌∙◌}
use Rattle.bus_core.specs.WorldSteps.{take_world}
use Rattle.bus_core.proofs.common.WholeSteps.{take-given}
use Rattle.bus_core.proofs.RingBus.take.Goals as goal
use Rattle.bus_core.proofs.RingBus.take.Goals.{After-stand}

-- what the client takes is the shared machine's reply
taken : (c : After-stand) → IsTaken (decoded c.args.self.now) (Take c.args.client)
    (world_of c.take_reply-reply.new.self c.self.inside.controller c.self.inside.target c.self.inside.lines c.take_reply-reply.new.frames)
    (taken_as (decoded c.args.self.now).tags c.args.client c.take_reply-reply.result)
taken c =
    take-taken (decoded c.args.self.now) (world_in c.self.inside)
    c.args.client c.take_reply-reply.new.self c.take_reply-reply.new.frames c.take_reply-reply.result
    (fits-in c.self.inside c.self.view_is c.self.invariant) c.take_reply-reply.ensures
    c.stand.ensures.host c.stand.ensures.lines c.stand.ensures.frames

pub invariant_of-self : goal.invariant_of-self
invariant_of-self c = (taken (goal.at.invariant_of-self c).After-stand).fits

pub returns-clause-shared : goal.returns-clause-shared
returns-clause-shared c = (taken (goal.at.returns-clause-shared c).After-stand).shared

pub returns-clause-world : goal.returns-clause-world
returns-clause-world c =
    take-given (world_in c.self.inside) c.args.client c.take_reply-reply.new.self c.take_reply-reply.new.frames c.take_reply-reply.result
    c.take_reply-reply.ensures
    ∙ ap (λ world. take_world world c.args.client) c.self.view_is
