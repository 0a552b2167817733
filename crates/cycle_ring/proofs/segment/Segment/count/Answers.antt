use Rattle.std.proofs.Common.{◌∙◌}
use Rattle.cycle_ring.proofs.Held.{count-segment}
use Rattle.cycle_ring.proofs.segment.Segment.count.Goals as goal

pub returns-clause-count : goal.returns-clause-count
returns-clause-count g c =
    let segment = rw c.self.view_is at c.self.invariant in
    c.distance.ensures ∙ count-segment g.row.N _ _ _ _ segment
