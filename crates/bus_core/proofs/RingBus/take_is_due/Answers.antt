use Rattle.std.proofs.Common.{sym, ◌∙◌}
use Rattle.bus_core.specs.Decoded.{decoded}
use Rattle.bus_core.proofs.common.BusFields.{fits-in, world_in}
use Rattle.bus_core.proofs.event.DueEvents.{takes-are-due}
use Rattle.bus_core.proofs.common.Stepped.{some-first}
use Rattle.bus_core.proofs.RingBus.take_is_due.Goals as goal

-- what the host finds is whether it is due
pub returns : goal.returns
returns c =
    c.has_reply.ensures ∙ some-first _
    ∙ sym (takes-are-due (decoded c.args.self.now) (world_in c.self.inside) c.args.client (fits-in c.self.inside c.self.view_is c.self.invariant))
