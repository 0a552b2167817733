use Rattle.std.proofs.Common.{◌≡◌, fold, drop, None}
use Rattle.capture_run.specs.urbs.Tds.{first_found, is_on}
use Rattle.capture_run.proofs.urbs.desk.front.Given as goal

abbrev pub invariant-loop-td : goal.invariant-loop-td
invariant-loop-td l =
    fold (first_found (is_on l.pipe l.stream)) l.found (drop l.td-index l.under_way) ≡ fold (first_found (is_on l.pipe l.stream)) None l.under_way
