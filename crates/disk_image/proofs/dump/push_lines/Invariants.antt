use Rattle.std.proofs.Common.{◌≡◌, ◌++◌}
use Rattle.disk_image.specs.Alone.{rows_below}
use Rattle.disk_image.proofs.dump.push_lines.Given as goal

abbrev pub invariant-loop-row : goal.invariant-loop-row
invariant-loop-row l = l.text.items ≡ l.fn.text.items ++ rows_below l.row l.lba l.bytes
