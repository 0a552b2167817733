use Rattle.std.proofs.Common.{sym, ◌∙◌}
use Rattle.bus_core.specs.Decoded.{decoded}
use Rattle.bus_core.proofs.common.BusFields.{fits-in, world_in}
use Rattle.bus_core.proofs.take.NextReply.{next_len-host}
use Rattle.bus_core.proofs.RingBus.next_len.Goals as goal

pub returns : goal.returns
returns c =
    c.next_len.ensures
    ∙ sym (next_len-host (decoded c.args.self.now) (world_in c.self.inside) c.args.client (fits-in c.self.inside c.self.view_is c.self.invariant))
