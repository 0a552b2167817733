use Rattle.std.proofs.Common.{◌∙◌}
use Rattle.bus_core.specs.Decoded.{decoded}
use Rattle.bus_core.proofs.common.BusFields.{fits-in, world_in}
use Rattle.bus_core.proofs.common.CellWrites.{clients-length}
use Rattle.bus_core.proofs.RingBus.clients.Goals as goal

pub returns-clause-count : goal.returns-clause-count
returns-clause-count c =
    c.clients.ensures.count ∙ clients-length (decoded c.args.self.now).tags (world_in c.self.inside) (decoded c.args.self.now).parts (fits-in c.self.inside c.self.view_is c.self.invariant).clients

pub returns-clause-streams : goal.returns-clause-streams
returns-clause-streams c = (fits-in c.self.inside c.self.view_is c.self.invariant).most_tags
