-- The item that is named at a place stands there; two items of a turn differ in place.
use Rattle.std.proofs.Common.{◌≡◌, ◌-◌, ◌%◌, ℕ, refl, sym, ap, ◌∙◌}
use Rattle.cycle_ring.specs.Ring.{item_in}
use Rattle.ring_ends.specs.EndLaws.{distance-place}
use Rattle.ring_ends.specs.TurnLaws.{same_item}
use Rattle.cycle_ring.proofs.segment.Segment.item_at.Goals as goal

pub returns : goal.returns
returns g c =
    let segment = rw c.self.view_is at c.self.invariant in
    let m = g.row.N - 1 in
    let at = c.args.self.now.at in
    let place = c.args.place in
    let named : c.distance.result ≡ item_in m (at % m) place = c.distance.ensures ∙ ap (λ (first : ℕ). item_in m first place) segment.start in
    let stands = distance-place m at place c.requires in
    rw named (record {
      item = refl;
      bound = stands.0;
      place = stands.1;
      only = λ k within same. same_item m at k (item_in m (at % m) place) within stands.0 (same ∙ sym stands.1);
    })
