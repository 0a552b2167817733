use Rattle.std.proofs.Common.{arith}
use Rattle.std.proofs.lemmas.Result.{err_from_is_err_and}
use Rattle.log_text.specs.Reading.{rising_at}
use Rattle.log_text.proofs.ReadLoops.{rises_on, rising_ends, rising_is_done}
use Rattle.log_text.proofs.read_units.rising.Goals as goal

pub returns-in_err-number : goal.returns-in_err-number
returns-in_err-number c =
    let p = err_from_is_err_and c.from_residual.result c.from_residual.ensures.1 in
    rw (p.1, p.2) (rising_ends c.args.most c.in_err-number.field-0.0 c.loop.numbers.items c.args.count c.loop.counter c.loop.least c.loop.rest.now
    (rising_at c.args.most c.args.count 0 c.args.bytes.now) c.loop-test.true c.in_err-number.ensures.gives c.loop.invariant.0)

pub loop-preserved : goal.loop-preserved
loop-preserved c = (
  rw c.in_ok-push.ensures.items (rises_on c.args.most c.loop.numbers.items c.args.count c.loop.counter c.loop.least c.loop.rest.now c.in_ok-number.number c.in_ok-number.after.now
      (rising_at c.args.most c.args.count 0 c.args.bytes.now) c.loop-test.true c.in_ok-number.ensures.gives c.loop.invariant.0),
  omega (arith, c.in_ok-number.ensures.most),
)

pub returns : goal.returns
returns c = rising_is_done c.args.most c.loop.numbers.items c.args.count c.loop.counter c.loop.least c.loop.rest.now
    (rising_at c.args.most c.args.count 0 c.args.bytes.now) c.loop-test.false c.loop.invariant.0
