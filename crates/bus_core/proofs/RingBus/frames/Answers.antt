use Rattle.bus_core.specs.Decoded.{decoded}
use Rattle.bus_core.proofs.common.BusFields.{fits-in, world_in}
use Rattle.bus_core.proofs.common.Shown.{frames-shown}
use Rattle.bus_core.proofs.RingBus.frames.Goals as goal

pub returns-clause-shows : goal.returns-clause-shows
returns-clause-shows c =
    frames-shown (decoded c.args.self.now) (world_in c.self.inside) (fits-in c.self.inside c.self.view_is c.self.invariant)
