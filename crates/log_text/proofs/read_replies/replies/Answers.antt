use Rattle.std.proofs.lemmas.Result.{err_from_is_err_and}
use Rattle.log_text.specs.Reading.{items_at, reply_at}
use Rattle.log_text.proofs.ReadLoops.{goes_on, ends, is_done}
use Rattle.log_text.proofs.read_replies.replies.Goals as goal

pub returns-in_err-reply : goal.returns-in_err-reply
returns-in_err-reply c =
    let p = err_from_is_err_and c.from_residual.result c.from_residual.ensures.1 in
    rw (p.1, p.2) (ends (reply_at c.args.clients) c.in_err-reply.field-0.0 c.loop.replies.items c.args.count c.loop.counter c.loop.rest.now
    (items_at (reply_at c.args.clients) c.args.count c.args.bytes.now) c.loop-test.true c.in_err-reply.ensures c.loop.invariant)

pub loop-preserved : goal.loop-preserved
loop-preserved c =
    rw c.in_ok-push.ensures.items (goes_on (reply_at c.args.clients) c.loop.replies.items c.args.count c.loop.counter c.loop.rest.now c.in_ok-reply.reply c.in_ok-reply.after.now
    (items_at (reply_at c.args.clients) c.args.count c.args.bytes.now) c.loop-test.true c.in_ok-reply.ensures c.loop.invariant)

pub returns : goal.returns
returns c = is_done (reply_at c.args.clients) c.loop.replies.items c.args.count c.loop.counter c.loop.rest.now (items_at (reply_at c.args.clients) c.args.count c.args.bytes.now)
    c.loop-test.false c.loop.invariant
