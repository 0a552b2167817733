-- The items before a consumer's end.
use Rattle.std.proofs.Common.{◌-◌, ℕ, ap, ◌∙◌}
use Rattle.cycle_ring.specs.Ring.{item_in}
use Rattle.cycle_ring.proofs.segment.Segment.passed.Goals as goal

pub returns : goal.returns
returns g c =
    let segment = rw c.self.view_is at c.self.invariant in
    c.distance.ensures ∙ ap (λ (first : ℕ). item_in (g.row.N - 1) first c.args.end.place) segment.start
