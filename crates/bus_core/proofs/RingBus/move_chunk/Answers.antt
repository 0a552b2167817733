use Rattle.bus_core.specs.Decoded.{decoded}
use Rattle.bus_core.proofs.common.BusFields.{fits-in, world_in}
use Rattle.bus_core.proofs.chunks.DataDue.{data_due}
use Rattle.bus_core.proofs.common.Taken.{data-taken}
use Rattle.std.proofs.Common.{ap, ◌∙◌}
use Rattle.bus_core.specs.WorldSteps.{data_world}
use Rattle.bus_core.proofs.common.WholeSteps.{sides-after}
use Rattle.bus_core.proofs.RingBus.move_chunk.Goals as goal

pub invariant_of-self : goal.invariant_of-self
invariant_of-self c =
    (data-taken (decoded c.args.self.now) (world_in c.self.inside) c.args.tag
    c.data_step-acted.new.lines c.data_step-acted.new.frames c.data_step-acted.new.target c.data_step-acted.result
    (fits-in c.self.inside c.self.view_is c.self.invariant) (c.data_step-acted.ensures.own (data_due (decoded c.args.self.now) (world_in c.self.inside) c.args.tag
    (fits-in c.self.inside c.self.view_is c.self.invariant)).own) c.stand.ensures.lines c.stand.ensures.frames).fits

pub returns-clause-shared : goal.returns-clause-shared
returns-clause-shared c =
    (data-taken (decoded c.args.self.now) (world_in c.self.inside) c.args.tag
    c.data_step-acted.new.lines c.data_step-acted.new.frames c.data_step-acted.new.target c.data_step-acted.result
    (fits-in c.self.inside c.self.view_is c.self.invariant) (c.data_step-acted.ensures.own (data_due (decoded c.args.self.now) (world_in c.self.inside) c.args.tag
    (fits-in c.self.inside c.self.view_is c.self.invariant)).own) c.stand.ensures.lines c.stand.ensures.frames).shared

pub returns-clause-world : goal.returns-clause-world
returns-clause-world c =
    sides-after (world_in c.self.inside) c.data_step-acted.new.lines c.data_step-acted.new.frames c.data_step-acted.new.target c.data_step-acted.result _
    (c.data_step-acted.ensures.own (data_due (decoded c.args.self.now) (world_in c.self.inside) c.args.tag
    (fits-in c.self.inside c.self.view_is c.self.invariant)).own)
    ∙ ap (λ world. data_world world c.args.tag) c.self.view_is
