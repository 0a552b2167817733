-- The units of the clients, one by one.
use Rattle.std.proofs.Common.{arith}
use Rattle.shared_machine.proofs.Standing.{get-within}
use Rattle.booked_limits.proofs.BookedLogs.{units-more}
use Rattle.booked_limits.proofs.booked.are_units.Goals as goal

pub loop-client-preserved : goal.loop-client-preserved
loop-client-preserved c = units-more _ _ _ c.loop-client.invariant c.unit.ensures c.is_unit.ensures

pub returns : goal.returns
returns c client part there =
    c.loop-client.invariant client part
    (omega (arith, get-within c.args.bus.now.parts client part there, c.clients-client-end.ensures.count, c.loop-client-test.false)) there
