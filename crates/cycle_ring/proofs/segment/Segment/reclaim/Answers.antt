-- The address is that of the place that was found.
use Rattle.std.proofs.Common.{sym, ◌∙◌, arith}
use Rattle.cycle_ring.proofs.segment.Segment.reclaim.Goals as goal

pub reclaim_in-requires : goal.reclaim_in-requires
reclaim_in-requires g c =
    let address = rw c.unwrap-place.ensures at c.place_at.ensures.address in
    (omega arith, (c.requires.0, (c.requires.1.0, sym address ∙ c.requires.1.1)))

pub returns-clause-freed : goal.returns-clause-freed
returns-clause-freed g c k item =
    let address = rw c.unwrap-place.ensures at c.place_at.ensures.address in c.reclaim_in.ensures.freed k (item.0, sym address ∙ item.1)

pub returns-clause-shifted : goal.returns-clause-shifted
returns-clause-shifted g c k item i =
    let address = rw c.unwrap-place.ensures at c.place_at.ensures.address in c.reclaim_in.ensures.shifted k (item.0, sym address ∙ item.1) i

pub returns-clause-consumer : goal.returns-clause-consumer
returns-clause-consumer g c k end consumer consumed =
    let address = rw c.unwrap-place.ensures at c.place_at.ensures.address in
    c.reclaim_in.ensures.consumer k end consumer (consumed.0, sym address ∙ consumed.1)
