use Rattle.shared_machine.proofs.Rounds.{round-by, round-left}
use Rattle.bus_core.specs.Decoded.{decoded}
use Rattle.bus_core.proofs.RingBus.round.Goals as goal

pub returns-clause-round : goal.returns-clause-round
returns-clause-round c =
    round-by (decoded c.args.self.now, c.args.left) _ _ _ _ _ _ _ _
    c.try_command-left.ensures c.try_engine-left.ensures c.try_event-left.ensures c.try_data-left.ensures
    c.try_statuses-left.ensures c.try_retirements-left.ensures c.try_retirements-left-2.ensures c.try_retirements.ensures

pub returns-clause-less : goal.returns-clause-less
returns-clause-less c =
    round-left (decoded c.args.self.now, c.args.left) _
    (round-by (decoded c.args.self.now, c.args.left) _ _ _ _ _ _ _ _
    c.try_command-left.ensures c.try_engine-left.ensures c.try_event-left.ensures c.try_data-left.ensures
    c.try_statuses-left.ensures c.try_retirements-left.ensures c.try_retirements-left-2.ensures c.try_retirements.ensures)
