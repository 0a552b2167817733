-- The one item at the address of the place is the one that stands there.
use Rattle.std.proofs.Common.{◌≡◌, ◌+◌, ◌-◌, ◌*◌, ◌%◌, ℕ, List, subst, ap, arith, sym, ◌∙◌}
use Rattle.std.proofs.Math.Nat.{mod-add-mod}
use Rattle.ring_ends.specs.declared.End.{End}
use Rattle.cycle_ring.specs.Ring.{reclaimed}
use Rattle.cycle_ring.specs.Items.{ItemRing}
use Rattle.cycle_ring.specs.Segment.{IsConsumer, IsItem, IsSegment, with_consumer}
use Rattle.cycle_ring.proofs.Shifts.{IsShifted-reclaimed}
use Rattle.cycle_ring.proofs.Held.{IsSegment-reclaimed, shown-segment, shows-segment}
use Rattle.cycle_ring.proofs.Consumers.{AtItem-reclaimed, within-passed}
use Rattle.cycle_ring.proofs.segment.Segment.reclaim_in.Goals as goal

-- the segment without its first items
freed : (n : ℕ) (places : List (List ℕ)) (first : ℕ) (enqueue : End) (r : ItemRing) (place k next : ℕ)
    → IsSegment n places first enqueue r → IsItem n r k (r.base + 16 * place) → next ≡ (place + 1) % (n - 1)
    → IsSegment n places next enqueue (reclaimed n (k + 1) r)
freed n places first enqueue r place k next segment item behind_is =
    let stands : place ≡ (r.at + k) % (n - 1) = omega (arith, item.1) in
    IsSegment-reclaimed n (k + 1) places first next enqueue r segment (omega (arith, item.0))
    (behind_is ∙ ap (λ (p : ℕ). (p + 1) % (n - 1)) stands ∙ mod-add-mod (r.at + k) (n - 1) 1 ∙ ap (λ (x : ℕ). x % (n - 1)) (omega arith))

pub overflow_sub-ahead : goal.overflow_sub-ahead
overflow_sub-ahead g c = let segment = rw c.self.view_is at c.self.invariant in omega (arith, segment.ring.least_places)

pub ahead-self-inside-requires-clause-places : goal.ahead-self-inside-requires-clause-places
ahead-self-inside-requires-clause-places g c =
    let segment = rw c.self.view_is at c.self.invariant in omega (arith, segment.ring.least_places, c.requires.1.1)

pub ahead-self-inside-requires-clause-steps : goal.ahead-self-inside-requires-clause-steps
ahead-self-inside-requires-clause-steps g c = let segment = rw c.self.view_is at c.self.invariant in omega (arith, segment.ring.least_places)

pub ahead-self-inside-requires-clause-most : goal.ahead-self-inside-requires-clause-most
ahead-self-inside-requires-clause-most g c = let segment = rw c.self.view_is at c.self.invariant in omega (arith, segment.ring.most_places)

pub invariant_of-self : goal.invariant_of-self
invariant_of-self g c =
    let segment = rw c.self.view_is at c.self.invariant in
    let new = freed g.row.N _ _ _ _ c.args.place c.requires.0 c.ahead-self-inside.result segment c.requires.1 c.ahead-self-inside.ensures in
    shows-segment g.row.N _ _ _ _ _ (ap (λ (q : ItemRing). q.base) c.self.view_is) new

pub returns-clause-freed : goal.returns-clause-freed
returns-clause-freed g c k item =
    let segment = rw c.self.view_is at c.self.invariant in
    let new = freed g.row.N _ _ _ _ c.args.place k c.ahead-self-inside.result segment item c.ahead-self-inside.ensures in
    shown-segment g.row.N _ _ _ _ _ (ap (λ (q : ItemRing). q.base) c.self.view_is) new

pub returns-clause-shifted : goal.returns-clause-shifted
returns-clause-shifted g c k item i =
    let segment = rw c.self.view_is at c.self.invariant in
    rw (returns-clause-freed g c k item) (IsShifted-reclaimed g.row.N (k + 1) c.args.self.now i (omega (arith, segment.ring.least_places)))

pub returns-clause-consumer : goal.returns-clause-consumer
returns-clause-consumer g c k end consumer consumed =
    let segment = rw c.self.view_is at c.self.invariant in
    let item : IsItem g.row.N c.args.self.now k (c.args.self.now.base + 16 * c.args.place) = ((within-passed g.row.N c.args.self.now end k consumer consumed.0).0, consumed.1) in
    let new = freed g.row.N _ _ _ _ c.args.place k c.ahead-self-inside.result segment item c.ahead-self-inside.ensures in
    let at = AtItem-reclaimed g.row.N (k + 1) c.args.self.now end new.ring consumer (omega (arith, consumed.0)) in
    let Kept : ItemRing → Type 0 = λ new. IsConsumer g.row.N new end × (with_consumer g.row.N new end ≡ reclaimed g.row.N (k + 1) (with_consumer g.row.N c.args.self.now end)) in
    subst Kept (sym (returns-clause-freed g c k item)) (at.consumer, at.ring)
