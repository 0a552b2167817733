use Rattle.std.proofs.Common.{◌∙◌, length, take, Some, ap, refl, arith}
use Rattle.std.proofs.lemmas.Option.{slice_get_past, slice_get_read}
use Rattle.usb_serve.specs.declared.files.Did.{Did}
use Rattle.usb_serve.specs.Files.{filed}
use Rattle.usb_serve.proofs.Filing.{asked_nowhere, asked_there}
use Rattle.usb_serve.proofs.files.do_on.Goals as goal

pub returns-then-number-units-clause-asked : goal.returns-then-number-units-clause-asked
returns-then-number-units-clause-asked g c =
    let view = filed g.B.Blocks.tells g.B.Blocks.can_fail g.B.Blocks.holds g.B.Blocks.synced g.B.Blocks.is_spoiled in
    let units = c.args.units.now in
    asked_there view units c.unit_of-number.result _ c.do_request.new.unit c.args.request.now c.args.brought.now _ _
    c.unit_of-number.ensures (slice_get_read units (length units) c.unit_of-number.result c.index-units-number.result refl c.if-number-units.true
    c.index-units-number.is ∙ ap Some c.index-units-number.is) c.do_request.ensures.served

pub returns-else-number-units-clause-asked : goal.returns-else-number-units-clause-asked
returns-else-number-units-clause-asked g c =
    let view = filed g.B.Blocks.tells g.B.Blocks.can_fail g.B.Blocks.holds g.B.Blocks.synced g.B.Blocks.is_spoiled in
    let units = c.args.units.now in
    asked_nowhere view units c.unit_of-number.result c.args.request.now c.args.brought.now _ _ c.unit_of-number.ensures
    (slice_get_past units c.unit_of-number.result (omega (arith, c.if-number-units.false))) (ap (λ (d : Did). d.outcome) c.without_bytes.ensures)
    (ap (λ (d : Did). take d.given c.args.buffer.now) c.without_bytes.ensures)
