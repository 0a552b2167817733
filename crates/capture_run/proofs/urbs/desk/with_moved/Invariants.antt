use Rattle.std.proofs.Common.{◌≡◌, map, take}
use Rattle.capture_run.specs.urbs.Tds.{td_moved}
use Rattle.capture_run.proofs.urbs.desk.with_moved.Given as goal

abbrev pub invariant-loop-td : goal.invariant-loop-td
invariant-loop-td l = l.moved.items ≡ map (td_moved l.number l.length) (take l.td-index l.under_way)
