-- The events between the ends.
use Rattle.std.proofs.Common.{◌∙◌}
use Rattle.event_ring.proofs.Segment.{distance-segment}
use Rattle.event_ring.proofs.EventRing.len.Goals as goal

pub returns-clause-len : goal.returns-clause-len
returns-clause-len g c =
    let segment = rw c.self.view_is at c.self.invariant in
    c.distance.ensures ∙ distance-segment g.row.E _ _ _ _ segment
