-- A place has the Cycle bit that an end brings there where its item is in use.
use Rattle.std.proofs.Common.{◌-◌, arith}
use Rattle.ring_ends.specs.HeldLaws.{Holds-bit}
use Rattle.cycle_ring.specs.Items.{item_form}
use Rattle.cycle_ring.proofs.segment.Segment.is_in_use.Goals as goal

pub returns : goal.returns
returns g c k below is =
    let segment = rw c.self.view_is at c.self.invariant in
    Holds-bit item_form (g.row.N - 1) _ _ _ c.args.end k _ _ segment.holds.items below is
    (omega (arith, c.requires, segment.holds.size)) c.index.ensures c.cycle_bit.ensures
