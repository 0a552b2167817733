-- A consumed item is freed beside its consumer's end.
use Rattle.std.proofs.Common.{subst, sym}
use Rattle.cycle_ring.specs.Ring.{IsConsumed}
use Rattle.cycle_ring.specs.Items.{ItemRing}
use Rattle.cycle_ring.proofs.CycleRing.reclaim.Goals as goal

pub invariant_of-self : goal.invariant_of-self
invariant_of-self g c =
    let was = subst (λ (r : ItemRing). IsConsumed g.row.N r c.requires.0 c.args.pointer) (sym c.self.view_is) c.requires.1 in
    (c.reclaim.ensures.consumer c.requires.0 c.self.inside.dequeue c.self.invariant was).0
