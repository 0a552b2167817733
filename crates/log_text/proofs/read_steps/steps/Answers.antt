use Rattle.std.proofs.lemmas.Result.{err_from_is_err_and}
use Rattle.log_text.specs.Reading.{items_at, step_at}
use Rattle.log_text.proofs.ReadLoops.{goes_on, ends, is_done}
use Rattle.log_text.proofs.read_steps.steps.Goals as goal

pub returns-in_err-step : goal.returns-in_err-step
returns-in_err-step c =
    let p = err_from_is_err_and c.from_residual.result c.from_residual.ensures.1 in
    rw (p.1, p.2) (ends (step_at c.args.version c.args.clients) c.in_err-step.field-0.0 c.loop.steps.items c.args.count c.loop.counter c.loop.rest.now
    (items_at (step_at c.args.version c.args.clients) c.args.count c.args.bytes.now) c.loop-test.true c.in_err-step.ensures c.loop.invariant)

pub loop-preserved : goal.loop-preserved
loop-preserved c =
    rw c.in_ok-push.ensures.items (goes_on (step_at c.args.version c.args.clients) c.loop.steps.items c.args.count c.loop.counter c.loop.rest.now c.in_ok-step.step c.in_ok-step.after.now
    (items_at (step_at c.args.version c.args.clients) c.args.count c.args.bytes.now) c.loop-test.true c.in_ok-step.ensures c.loop.invariant)

pub returns : goal.returns
returns c = is_done (step_at c.args.version c.args.clients) c.loop.steps.items c.args.count c.loop.counter c.loop.rest.now (items_at (step_at c.args.version c.args.clients) c.args.count c.args.bytes.now)
    c.loop-test.false c.loop.invariant
