use Rattle.std.proofs.Common.{◌≡◌, ℕ, ◌-◌, ◌<◌, ◌≤◌, ◌==◌, false, length, get_or}
use Rattle.c_disks.proofs.record.text_size.Given as goal

-- no byte so far is 0
abbrev pub invariant-loop-size : goal.invariant-loop-size
invariant-loop-size l = (l.size ≤ length l.field) × ((k : ℕ) → k < l.size → (get_or l.field k 0 == 0) ≡ false)

abbrev pub decreases-loop-size : goal.decreases-loop-size
decreases-loop-size l = length l.field - l.size
