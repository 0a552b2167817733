use Rattle.std.proofs.Common.{◌∙◌, ℕ, List, ◌++◌, subst}
use Rattle.byte_io.specs.Streams.{Began}
use Rattle.std.proofs.lemmas.Result.{err_from_is_err_and}
use Rattle.usbredir.specs.Device.{device_text}
use Rattle.usb_serve.specs.Sending.{Gathers, data_text}
use Rattle.usb_serve.proofs.Gathering.{began_behind, began_front, gathers_then, on_err, on_ok}
use Rattle.usb_serve.proofs.sending.gather_answer.Goals as goal

pub returns-in_err-gather-clause-began : goal.returns-in_err-gather-clause-began
returns-in_err-gather-clause-began g c =
    let p = err_from_is_err_and c.from_residual.result c.from_residual.ensures.1 in
    rw p.1 (began_front c.args.gathered.now.items (g.O.Output.written c.args.output.now) (g.O.Output.written c.gather.new.output)
    (device_text c.args.answer.now.id c.args.answer.now.packet) (data_text c.args.usb.now c.args.answer.now.body)
    (subst (λ (text : List ℕ). Began (g.O.Output.written c.args.output.now) (g.O.Output.written c.gather.new.output)
    (c.args.gathered.now.items ++ text)) (c.deref.ensures.0 ∙ c.to_bytes.ensures) c.in_err-gather.ensures.began))

pub returns-clause-gathers : goal.returns-clause-gathers
returns-clause-gathers g c =
    on_ok c.gather-2.result (λ second. gathers_then c.args.gathered.now.items c.gather.new.gathered.items c.gather-2.new.gathered.items
    (g.O.Output.written c.args.output.now) (g.O.Output.written c.gather.new.output) (g.O.Output.written c.gather-2.new.output)
    (device_text c.args.answer.now.id c.args.answer.now.packet) (data_text c.args.usb.now c.args.answer.now.body)
    (subst (Gathers c.args.gathered.now.items c.gather.new.gathered.items (g.O.Output.written c.args.output.now)
    (g.O.Output.written c.gather.new.output)) (c.deref.ensures.0 ∙ c.to_bytes.ensures) c.in_ok-gather.ensures.gathers)
    (subst (Gathers c.gather.new.gathered.items c.gather-2.new.gathered.items (g.O.Output.written c.gather.new.output)
    (g.O.Output.written c.gather-2.new.output)) c.data_of-bytes.ensures.bytes second)) c.gather-2.ensures.gathers

pub returns-clause-began : goal.returns-clause-began
returns-clause-began g c =
    on_err c.gather-2.result (λ second. began_behind c.args.gathered.now.items c.gather.new.gathered.items
    (g.O.Output.written c.args.output.now) (g.O.Output.written c.gather.new.output) (g.O.Output.written c.gather-2.new.output)
    (device_text c.args.answer.now.id c.args.answer.now.packet) (data_text c.args.usb.now c.args.answer.now.body)
    (subst (Gathers c.args.gathered.now.items c.gather.new.gathered.items (g.O.Output.written c.args.output.now)
    (g.O.Output.written c.gather.new.output)) (c.deref.ensures.0 ∙ c.to_bytes.ensures) c.in_ok-gather.ensures.gathers)
    (subst (λ (text : List ℕ). Began (g.O.Output.written c.gather.new.output) (g.O.Output.written c.gather-2.new.output)
    (c.gather.new.gathered.items ++ text)) c.data_of-bytes.ensures.bytes second)) c.gather-2.ensures.began
