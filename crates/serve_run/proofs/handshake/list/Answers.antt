use Rattle.std.proofs.lemmas.Result.{err_from_is_err_and}
use Rattle.serve_run.proofs.Sending.{sends_short, sends_then}
use Rattle.serve_run.proofs.handshake.list.Goals as goal

pub returns-in_err-reply-clause-sent : goal.returns-in_err-reply-clause-sent
returns-in_err-reply-clause-sent g c =
    let p = err_from_is_err_and c.from_residual.result c.from_residual.ensures.1 in
    rw (p.1, p.2) (sends_short _ _ _ _ _ _ c.in_err-reply.ensures.sent)

pub returns-clause-sent : goal.returns-clause-sent
returns-clause-sent g c = sends_then c.reply-2.result _ _ _ _ _ _ _ c.in_ok-reply.ensures.same c.in_ok-reply.ensures.sent c.reply-2.ensures.sent
