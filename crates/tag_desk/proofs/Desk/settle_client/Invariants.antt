use Rattle.std.proofs.Common.{◌≡◌, ℕ, ◌+◌, ◌-◌, ◌*◌, ◌≤◌, length}
use Rattle.tag_desk.specs.Left.{HasEachPumpOf, Says, work_line, left_below, so_far, HasRoom}
use Rattle.tag_desk.specs.declared.remains.Standing.{Standing}
use Rattle.tag_desk.proofs.Desk.settle_client.Given as goal

-- the tags below the index are settled, and the lines from it on are as they were
abbrev pub invariant-loop-line : goal.invariant-loop-line
invariant-loop-line l = record {
  index : l.index ≡ l.self.tags * l.fn.seat.client + length l.yielded;
  pumps : HasEachPumpOf l.self l.pumps.items;
  others : (t : ℕ) → l.index ≤ t → work_line l.self l.pumps.items t ≡ work_line l.self l.fn.pumps.items t;
  lists : (at : ℕ → Standing) → Says l.self l.fn.seat l.fn.pumps.items at → so_far l.fn.lists ≡ left_below at (l.self.tags * l.fn.seat.client)
      → so_far l.lists ≡ left_below at l.index;
  room : (n : ℕ) → HasRoom (n + l.self.tags) l.fn.lists → HasRoom (n + (l.self.tags - length l.yielded)) l.lists;
}
