use Rattle.bus_core.specs.Decoded.{decoded}
use Rattle.bus_core.proofs.common.BusFields.{fits-in, world_in}
use Rattle.bus_core.proofs.common.RoomLeft.{never-full}
use Rattle.bus_core.proofs.common.Shown.{points-ahead, shown}
use Rattle.std.proofs.Common.{ap}
use Rattle.bus_core.specs.World.{World}
use Rattle.bus_core.proofs.RingBus.lines.Goals as goal

pub returns : goal.returns
returns c = record {
  lines = ap (λ (world : World). world.lines) c.self.view_is;
  shows = shown (decoded c.args.self.now) (world_in c.self.inside) (fits-in c.self.inside c.self.view_is c.self.invariant);
  contexts = points-ahead c.self.inside.lines;
  room = never-full (decoded c.args.self.now) (world_in c.self.inside) (fits-in c.self.inside c.self.view_is c.self.invariant);
}
