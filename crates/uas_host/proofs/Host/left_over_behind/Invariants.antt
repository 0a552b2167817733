use Rattle.std.proofs.Common.{◌≡◌, ℕ, ◌-◌, ◌<◌, false, length}
use Rattle.uas_profile.specs.Tags.{tag_of}
use Rattle.uas_host.specs.Retirement.{is_left_over_on}
use Rattle.uas_host.proofs.Host.left_over_behind.Given as goal

-- of the tags before the next place's no TD is left over
abbrev pub invariant-loop-client : goal.invariant-loop-client
invariant-loop-client l = record {
  slot : l.next.slot < l.self.tags;
  above : l.tag < tag_of l.self.tags l.next;
  none : (other : ℕ) → l.tag < other → other < tag_of l.self.tags l.next → is_left_over_on l.self l.pipe other ≡ false;
}

abbrev pub decreases-loop-client : goal.decreases-loop-client
decreases-loop-client l = length l.self.clients - l.next.client
