use Rattle.std.proofs.lemmas.Result.{err_from_is_err_and}
use Rattle.nbd.specs.Handshake.{option_reply_text}
use Rattle.serve_run.proofs.Sending.{sends_short, sends_then}
use Rattle.serve_run.proofs.handshake.reply.Goals as goal

pub returns-in_err-send-clause-sent : goal.returns-in_err-send-clause-sent
returns-in_err-send-clause-sent g c =
    let p = err_from_is_err_and c.from_residual.result c.from_residual.ensures.1 in
    rw (p.1, p.2) (sends_short _ _ _ _ (option_reply_text _) c.args.bytes.now (rw c.to_bytes.ensures at c.in_err-send.ensures.sent))

pub returns-clause-sent : goal.returns-clause-sent
returns-clause-sent g c =
    sends_then c.send-2.result _ _ _ _ _ (option_reply_text _) c.args.bytes.now c.in_ok-send.ensures.same
    (rw c.to_bytes.ensures at c.in_ok-send.ensures.sent) c.send-2.ensures.sent
