use Rattle.std.proofs.Common.{◌≡◌, fold, drop, None}
use Rattle.capture_run.specs.urbs.Tds.{ends_at, first_found}
use Rattle.capture_run.proofs.urbs.desk.ending_at.Given as goal

abbrev pub invariant-loop-td : goal.invariant-loop-td
invariant-loop-td l =
    fold (first_found (ends_at l.pointer)) l.found (drop l.td-index l.under_way) ≡ fold (first_found (ends_at l.pointer)) None l.under_way
