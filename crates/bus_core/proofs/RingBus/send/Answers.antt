use Rattle.bus_core.specs.Decoded.{decoded}
use Rattle.bus_core.proofs.common.BusFields.{fits-in, world_in}
use Rattle.bus_core.proofs.status.StatusFits.{statuses_due}
use Rattle.bus_core.proofs.common.Taken.{status-taken}
use Rattle.std.proofs.Common.{ap, ◌∙◌}
use Rattle.bus_core.specs.WorldSteps.{status_world}
use Rattle.bus_core.proofs.common.WholeSteps.{sides-after}
use Rattle.bus_core.proofs.RingBus.send.Goals as goal

pub invariant_of-self : goal.invariant_of-self
invariant_of-self c =
    (status-taken (decoded c.args.self.now) (world_in c.self.inside)
    c.args.tag c.status_step-acted.new.lines c.status_step-acted.new.frames c.status_step-acted.new.target c.status_step-acted.result
    (fits-in c.self.inside c.self.view_is c.self.invariant) (c.status_step-acted.ensures.own (statuses_due (decoded c.args.self.now) (world_in c.self.inside) c.args.tag
    (fits-in c.self.inside c.self.view_is c.self.invariant)).own) c.stand.ensures.lines c.stand.ensures.frames).fits

pub returns-clause-shared : goal.returns-clause-shared
returns-clause-shared c =
    (status-taken (decoded c.args.self.now) (world_in c.self.inside)
    c.args.tag c.status_step-acted.new.lines c.status_step-acted.new.frames c.status_step-acted.new.target c.status_step-acted.result
    (fits-in c.self.inside c.self.view_is c.self.invariant) (c.status_step-acted.ensures.own (statuses_due (decoded c.args.self.now) (world_in c.self.inside) c.args.tag
    (fits-in c.self.inside c.self.view_is c.self.invariant)).own) c.stand.ensures.lines c.stand.ensures.frames).shared

pub returns-clause-world : goal.returns-clause-world
returns-clause-world c =
    sides-after (world_in c.self.inside) c.status_step-acted.new.lines c.status_step-acted.new.frames c.status_step-acted.new.target
    c.status_step-acted.result _
    (c.status_step-acted.ensures.own (statuses_due (decoded c.args.self.now) (world_in c.self.inside) c.args.tag
    (fits-in c.self.inside c.self.view_is c.self.invariant)).own)
    ∙ ap (λ world. status_world world c.args.tag) c.self.view_is
