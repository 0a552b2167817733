use Rattle.std.proofs.Common.{◌≡◌, ℕ, ◌-◌, ◌<◌, ◌≤◌, false}
use Rattle.guest_tasks.specs.Active.{asks_on}
use Rattle.guest_tasks.proofs.GuestTasks.next_asking.Given as goal

-- of the tags so far none has a request that is to be asked
abbrev pub invariant-loop-active : goal.invariant-loop-active
invariant-loop-active l = record {
  above : l.from ≤ l.tag;
  none : (other : ℕ) → l.from ≤ other → other < l.tag → asks_on l.self other ≡ false;
}

abbrev pub decreases-loop-active : goal.decreases-loop-active
decreases-loop-active l = 256 - l.tag
