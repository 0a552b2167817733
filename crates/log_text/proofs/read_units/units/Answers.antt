use Rattle.std.proofs.lemmas.Result.{err_from_is_err_and}
use Rattle.log_text.specs.Reading.{items_at, unit_at}
use Rattle.log_text.proofs.ReadLoops.{goes_on, ends, is_done}
use Rattle.log_text.proofs.read_units.units.Goals as goal

pub returns-in_err-unit : goal.returns-in_err-unit
returns-in_err-unit c =
    let p = err_from_is_err_and c.from_residual.result c.from_residual.ensures.1 in
    rw (p.1, p.2) (ends (unit_at) c.in_err-unit.field-0.0 c.loop.units.items c.args.count c.loop.counter c.loop.rest.now
    (items_at (unit_at) c.args.count c.args.bytes.now) c.loop-test.true c.in_err-unit.ensures c.loop.invariant)

pub loop-preserved : goal.loop-preserved
loop-preserved c =
    rw c.in_ok-push.ensures.items (goes_on (unit_at) c.loop.units.items c.args.count c.loop.counter c.loop.rest.now c.in_ok-unit.unit c.in_ok-unit.after.now
    (items_at (unit_at) c.args.count c.args.bytes.now) c.loop-test.true c.in_ok-unit.ensures c.loop.invariant)

pub returns : goal.returns
returns c = is_done (unit_at) c.loop.units.items c.args.count c.loop.counter c.loop.rest.now (items_at (unit_at) c.args.count c.args.bytes.now)
    c.loop-test.false c.loop.invariant
