-- How a ring's items move when items before them are freed.
use Rattle.std.proofs.Common.{◌≡◌, ℕ, ◌+◌, ◌-◌, ◌*◌, ◌<◌, ◌==◌, ap, arith}
use Rattle.cycle_ring.specs.Ring.{RingOf, IsShifted, pointer_of, reclaimed}
use Rattle.ring_ends.specs.TurnLaws.{place_shift, turn_shift, same_item}

-- item i of the ring with m items freed is item m + i of the ring before
pub IsShifted-reclaimed : {A : Type 0} (n m : ℕ) (r : RingOf A) (i : ℕ) → 1 < n → IsShifted n m r (reclaimed n m r) i
IsShifted-reclaimed n m r i places = record {
  pointer = ap (λ (place : ℕ). r.base + 16 * place) (place_shift (n - 1) r.at m i);
  cycle = ap (λ (turns : ℕ). turns == 0) (turn_shift (n - 1) r.at m i (omega arith));
}

-- the items of one turn have different addresses
pub same_pointer : {A : Type 0} (n : ℕ) (r : RingOf A) (j k : ℕ) → j < n - 1 → k < n - 1 → pointer_of n r j ≡ pointer_of n r k → j ≡ k
same_pointer n r j k below_j below_k same = same_item (n - 1) r.at j k below_j below_k (omega arith)
