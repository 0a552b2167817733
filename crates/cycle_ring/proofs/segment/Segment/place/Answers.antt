-- The enqueue place is that of the item behind the last, which is in the same turn.
use Rattle.std.proofs.Common.{◌≡◌, ◌+◌, ◌*◌, ℕ, Bool, length, refl, ap, ◌∙◌, arith}
use Rattle.cycle_ring.proofs.Shifts.{same_pointer}
use Rattle.cycle_ring.proofs.segment.Segment.place.Goals as goal

both : (a b : ℕ) (x y : Bool) → a ≡ b → x ≡ y → ◌≡◌ {A = ℕ × Bool} (a, x) (b, y)
both a b x y p q = rw (p, q) refl

pub returns : goal.returns
returns g c =
    let segment = rw c.self.view_is at c.self.invariant in
    let r = c.args.self.now in
    let least = segment.ring.least_places in
    let room = segment.ring.room_left in
    let pointer = c.pointer.ensures ∙ ap (λ (place : ℕ). r.base + 16 * place) segment.producer.place in
    record {
      place = both _ _ _ _ pointer segment.producer.cycle;
      unused = λ k within same.
          let last = same_pointer g.row.N r k (length r.put) (omega arith) (omega arith) (same ∙ pointer) in
          omega arith;
    }
