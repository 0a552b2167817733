use Rattle.bus_core.specs.Decoded.{decoded}
use Rattle.bus_core.proofs.common.BusFields.{fits-in}
use Rattle.bus_core.proofs.event.OneTag.{takes-of_one_tag}
use Rattle.bus_core.proofs.RingBus.step.Goals as goal

pub returns-clause-events : goal.returns-clause-events
returns-clause-events c =
    takes-of_one_tag (decoded c.args.self.now) (decoded c.act.new.self) c.args.step c.act.result
    (fits-in c.self.inside c.self.view_is c.self.invariant).matched c.act.ensures.shared
