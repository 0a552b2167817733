use Rattle.bus_core.specs.Decoded.{decoded}
use Rattle.bus_core.proofs.common.BusFields.{fits-in, world_in}
use Rattle.bus_core.proofs.drain.BusyTags.{found-busy}
use Rattle.bus_core.proofs.RingBus.next_busy.Goals as goal

pub returns-clause-busy : goal.returns-clause-busy
returns-clause-busy c =
    found-busy (decoded c.args.self.now) (world_in c.self.inside) c.args.tag c.next_task.result
    (fits-in c.self.inside c.self.view_is c.self.invariant) c.next_task.ensures.next c.next_task.ensures.none
