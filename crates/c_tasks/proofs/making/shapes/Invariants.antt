use Rattle.std.proofs.Common.{◌≡◌, ℕ, ◌-◌, ◌≤◌, length}
use Rattle.c_tasks.specs.Disks.{disk_shapes}
use Rattle.c_tasks.proofs.Lists.{joined}
use Rattle.c_tasks.proofs.making.shapes.Given as goal

-- those so far and what is left are all
abbrev pub invariant-loop-number : goal.invariant-loop-number
invariant-loop-number l =
    (joined l.shapes.items (disk_shapes (15 - l.number) l.number l.rest) ≡ disk_shapes 15 0 l.records) × (length l.shapes.items ≤ l.number)
