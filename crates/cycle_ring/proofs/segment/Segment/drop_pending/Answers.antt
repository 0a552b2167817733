-- The consumer's end is the producer's.
use Rattle.std.proofs.Common.{length, arith}
use Rattle.cycle_ring.proofs.Consumers.{AtItem-end}
use Rattle.cycle_ring.proofs.segment.Segment.drop_pending.Goals as goal

pub returns : goal.returns
returns g c =
    let segment = rw c.self.view_is at c.self.invariant in
    let r = c.args.self.now in
    let last = AtItem-end g.row.N r c.self.inside.enqueue r.got (length r.put) segment.ring (omega arith) segment.producer in
    record { consumer = last.consumer; dropped = last.ring }
