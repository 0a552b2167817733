-- The cycle state at the first place.
use Rattle.std.proofs.Common.{◌∙◌}
use Rattle.cycle_ring.proofs.Held.{IsEnd-start}
use Rattle.cycle_ring.proofs.segment.Segment.first_cycle.Goals as goal

pub returns : goal.returns
returns g c =
    let segment = rw c.self.view_is at c.self.invariant in
    c.bit_at.ensures ∙ (IsEnd-start g.row.N _ _ _ _ segment).cycle
