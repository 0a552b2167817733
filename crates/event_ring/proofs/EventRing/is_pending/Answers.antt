-- A place has the consumer's Cycle bit where its event is pending.
use Rattle.event_ring.proofs.Segment.{bit-pending}
use Rattle.event_ring.proofs.EventRing.is_pending.Goals as goal

pub returns : goal.returns
returns g c =
    let segment = rw c.self.view_is at c.self.invariant in
    rw (c.bit_at.ensures) (bit-pending g.row.E _ _ _ _ c.args.place _ _ segment c.requires c.index.ensures c.cycle_bit.ensures)
