use Rattle.std.proofs.lemmas.Result.{err_from_is_err_and}
use Rattle.usb_serve.proofs.Gathering.{began_more, began_then}
use Rattle.usb_serve.proofs.sending.send_behind.Goals as goal

pub returns-in_err-send_gathered-clause-began : goal.returns-in_err-send_gathered-clause-began
returns-in_err-send_gathered-clause-began g c =
    let p = err_from_is_err_and c.from_residual.result c.from_residual.ensures.1 in
    rw p.1 (began_more _ _ c.args.gathered.now.items c.args.bytes.now c.in_err-send_gathered.ensures.began)

pub returns-in_err-send-clause-began : goal.returns-in_err-send-clause-began
returns-in_err-send-clause-began g c =
    let p = err_from_is_err_and c.from_residual-in_err-send.result c.from_residual-in_err-send.ensures.1 in
    rw p.1 (began_then (g.O.Output.written c.args.output.now) (g.O.Output.written c.send_gathered.new.output) (g.O.Output.written c.send.new.output)
    c.args.gathered.now.items c.args.bytes.now c.in_ok-send_gathered.ensures.sent c.in_err-send.ensures.sent.2)
