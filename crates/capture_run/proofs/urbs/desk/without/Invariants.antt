use Rattle.std.proofs.Common.{◌≡◌, filter, take}
use Rattle.capture_run.specs.urbs.Tds.{is_other}
use Rattle.capture_run.proofs.urbs.desk.without.Given as goal

abbrev pub invariant-loop-td : goal.invariant-loop-td
invariant-loop-td l = l.others.items ≡ filter (is_other l.number) (take l.td-index l.under_way)
