-- A segment of zeros shows a ring without items.
use Rattle.std.proofs.Common.{true, refl, subst, sym}
use Rattle.cycle_ring.specs.Items.{ItemRing}
use Rattle.cycle_ring.specs.Segment.{IsConsumer}
use Rattle.cycle_ring.proofs.Held.{IsSegment-opening, shown-segment, shows-segment}
use Rattle.cycle_ring.proofs.Consumers.{AtItem-opening}
use Rattle.cycle_ring.proofs.segment.Segment.new.Goals as goal

pub invariant_of-result : goal.invariant_of-result
invariant_of-result g c =
    let zeros = IsSegment-opening g.row.N c.args.base c.first.result c.requires.least_places c.requires.most_places
    c.requires.aligned c.requires.below c.first.ensures in
    let segment = rw (← c.in_ok-places.ensures) at zeros in
    shows-segment g.row.N c.args.base _ 0 _ _ refl segment

pub returns-clause-opening : goal.returns-clause-opening
returns-clause-opening g c =
    let zeros = IsSegment-opening g.row.N c.args.base c.first.result c.requires.least_places c.requires.most_places
    c.requires.aligned c.requires.below c.first.ensures in
    let segment = rw (← c.in_ok-places.ensures) at zeros in
    shown-segment g.row.N c.args.base _ 0 _ _ refl segment

pub returns-clause-consumer : goal.returns-clause-consumer
returns-clause-consumer g c =
    let zeros = IsSegment-opening g.row.N c.args.base c.first.result c.requires.least_places c.requires.most_places
    c.requires.aligned c.requires.below c.first.ensures in
    let Kept : ItemRing → Type 0 = λ r. IsConsumer g.row.N r (record { place = 0; cycle = true }) in
    subst Kept (sym (returns-clause-opening g c)) (AtItem-opening g.row.N c.args.base _ zeros.ring refl).consumer
