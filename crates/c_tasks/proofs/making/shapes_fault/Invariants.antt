use Rattle.std.proofs.Common.{◌≡◌, ℕ, ◌-◌}
use Rattle.std.specs.Result.{result_err}
use Rattle.c_tasks.specs.Disks.{disk_shapes}
use Rattle.c_tasks.proofs.making.shapes_fault.Given as goal

-- what is left has the fault of all
abbrev pub invariant-loop-number : goal.invariant-loop-number
invariant-loop-number l = result_err (disk_shapes (15 - l.number) l.number l.rest) ≡ result_err (disk_shapes 15 0 l.records)
