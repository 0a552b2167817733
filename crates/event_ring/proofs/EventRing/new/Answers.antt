-- A segment of zeros shows a ring without events.
use Rattle.event_ring.proofs.Segment.{IsSegment-opening, shown-segment, shows-segment}
use Rattle.event_ring.proofs.EventRing.new.Goals as goal

pub invariant_of-result : goal.invariant_of-result
invariant_of-result g c =
    let zeros = IsSegment-opening g.row.E c.first-start.result c.requires.least_places c.requires.most_places c.first-start.ensures in
    let segment = rw (← c.in_ok-places.ensures) at zeros in
    shows-segment g.row.E _ _ _ _ segment

pub returns : goal.returns
returns g c =
    let zeros = IsSegment-opening g.row.E c.first-start.result c.requires.least_places c.requires.most_places c.first-start.ensures in
    let segment = rw (← c.in_ok-places.ensures) at zeros in
    shown-segment g.row.E _ _ _ _ segment
