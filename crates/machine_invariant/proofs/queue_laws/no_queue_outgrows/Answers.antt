-- No queue outgrows the places of its clients.
use Rattle.std.proofs.Common.{arith}
use Rattle.machine_invariant.proofs.MatchedBounds.{matched-once, matched-room}
use Rattle.machine_invariant.proofs.queue_laws.no_queue_outgrows.Goals as goal

pub returns-clause-once : goal.returns-clause-once
returns-clause-once c = matched-once

pub returns-clause-clients : goal.returns-clause-clients
returns-clause-clients c = matched-room

pub returns-clause-rings : goal.returns-clause-rings
returns-clause-rings c state all few =
    let room = matched-room state all in
    record { pipe = omega (arith, room.pipe, few); events = omega (arith, room.events, few) }
