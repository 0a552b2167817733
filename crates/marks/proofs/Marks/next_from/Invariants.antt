use Rattle.std.proofs.Common.{◌≡◌, ℕ, ◌-◌, ◌*◌, ◌<◌, ◌≤◌, false}
use Rattle.marks.specs.Marks.{is_marked}
use Rattle.marks.proofs.Marks.next_from.Given as goal

-- no place up to here is marked
abbrev pub invariant-loop-at : goal.invariant-loop-at
invariant-loop-at g l = record {
  after : l.from ≤ l.at;
  none : (other : ℕ) → l.from ≤ other → other < l.at → is_marked l.self other ≡ false;
}

abbrev pub decreases-loop-at : goal.decreases-loop-at
decreases-loop-at g l = 64 * g.row.W - l.at
