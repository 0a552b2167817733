-- The end at an item.
use Rattle.std.proofs.Common.{◌≡◌, ◌+◌, ◌-◌, ◌%◌, ℕ, Bool, refl, sym, ◌∙◌}
use Rattle.std.proofs.Math.Nat.{mod-add-mod}
use Rattle.ring_ends.specs.Counted.{bit_from, turn_bit}
use Rattle.ring_ends.specs.EndLaws.{turn_bit-ahead}
use Rattle.cycle_ring.proofs.segment.Segment.end_at.Goals as goal

same_bits : (first other place there : ℕ) (cycle bit : Bool) → first ≡ other → cycle ≡ bit → place ≡ there
    → bit_from first cycle place ≡ bit_from other bit there
same_bits first other place there cycle bit a b c = rw (a, b, c) refl

pub returns-clause-end : goal.returns-clause-end
returns-clause-end g c =
    let segment = rw c.self.view_is at c.self.invariant in
    let r = c.args.self.now in
    let m = g.row.N - 1 in
    let ahead = turn_bit-ahead m r.at c.args.item c.requires in
    let stands : (c.self.inside.first + c.args.item) % m ≡ (r.at + c.args.item) % m = rw (segment.start) (mod-add-mod r.at m c.args.item) in
    let place : c.ahead-place.result ≡ (r.at + c.args.item) % m = c.ahead-place.ensures ∙ stands in
    record {
      place = place;
      cycle = c.bit_at.ensures
          ∙ same_bits _ _ _ _ _ (turn_bit m r.at) segment.start c.first_cycle.ensures place
          ∙ sym ahead;
    }
