use Rattle.std.proofs.Common.{◌≡◌, drop, map}
use Rattle.line_objects.specs.Lines.{row_for, rows_of}
use Rattle.line_objects.specs.Held.{part_held}
use Rattle.line_objects.proofs.rows.row_for.Given as goal

-- the first row is among those that are left
abbrev pub invariant-loop-row : goal.invariant-loop-row
invariant-loop-row l = row_for (rows_of l.fn.form) l.line ≡ row_for (map (λ row. map part_held row.now) (drop l.row-index l.rows)) l.line
