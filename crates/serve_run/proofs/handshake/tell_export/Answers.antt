use Rattle.std.proofs.Common.{rules, ◌≡◌, List, ℕ}
use Rattle.std.proofs.lemmas.Result.{err_from_is_err_and}
use Rattle.nbd.specs.Handshake.{export_text}
use Rattle.serve_run.proofs.Sending.{sends_short, sends_then}
use Rattle.serve_run.specs.Handshake.{export_of, export_zeros}
use Rattle.serve_run.proofs.handshake.tell_export.Goals as goal

pub returns-in_err-send-clause-sent : goal.returns-in_err-send-clause-sent
returns-in_err-send-clause-sent g c =
    let text : List ℕ = export_text (export_of c.args.size) in
    let is : c.to_bytes.result ≡ text = search rules in
    let p = err_from_is_err_and c.from_residual.result c.from_residual.ensures.1 in
    rw (p.1, p.2) (sends_short _ _ _ _ text _ (rw is at c.in_err-send.ensures.sent))

pub returns-clause-sent : goal.returns-clause-sent
unfolding export_zeros
returns-clause-sent g c =
    let text : List ℕ = export_text (export_of c.args.size) in
    let is : c.to_bytes.result ≡ text = search rules in
    rw c.if-lacks_zeros.false (sends_then c.send-2.result _ _ _ _ _ text _ c.in_ok-send.ensures.same (rw is at c.in_ok-send.ensures.sent)
    c.send-2.ensures.sent)
