use Rattle.std.proofs.Common.{Err}
use Rattle.std.proofs.lemmas.Result.{err_from_is_err_and}
use Rattle.serve_run.proofs.Sending.{sends_short, sends_then}
use Rattle.serve_run.proofs.handshake.inform.Goals as goal

pub returns-in_err-reply-clause-sent : goal.returns-in_err-reply-clause-sent
returns-in_err-reply-clause-sent g c =
    let p = err_from_is_err_and c.from_residual.result c.from_residual.ensures.1 in
    rw (p.1, p.2) (sends_short _ _ _ _ _ _ (rw c.export_information.ensures at c.in_err-reply.ensures.sent))

pub returns-in_err-reply-2-clause-sent : goal.returns-in_err-reply-2-clause-sent
returns-in_err-reply-2-clause-sent g c =
    let p = err_from_is_err_and c.from_residual-in_err-reply-2.result c.from_residual-in_err-reply-2.ensures.1 in
    rw (p.1, p.2) (sends_then (Err _) _ _ _ _ _ _ _ c.in_ok-reply.ensures.same (rw c.export_information.ensures at c.in_ok-reply.ensures.sent)
    (sends_short _ _ _ _ _ _ (rw c.sizes_information.ensures at c.in_err-reply-2.ensures.sent)))

pub returns-clause-sent : goal.returns-clause-sent
returns-clause-sent g c =
    sends_then c.reply-3.result _ _ _ _ _ _ _ c.in_ok-reply.ensures.same (rw c.export_information.ensures at c.in_ok-reply.ensures.sent)
    (sends_then c.reply-3.result _ _ _ _ _ _ _ c.in_ok-reply-2.ensures.same (rw c.sizes_information.ensures at c.in_ok-reply-2.ensures.sent)
    c.reply-3.ensures.sent)
