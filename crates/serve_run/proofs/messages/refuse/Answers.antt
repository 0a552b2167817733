use Rattle.std.proofs.Common.{inl, inr, refl}
use Rattle.std.proofs.lemmas.Result.{err_from_is_err_and}
use Rattle.serve_run.proofs.messages.refuse.Goals as goal

pub returns-in_err-drop_data-clause-refused : goal.returns-in_err-drop_data-clause-refused
returns-in_err-drop_data-clause-refused g c =
    let p = err_from_is_err_and c.from_residual.result c.from_residual.ensures.1 in
    rw (p.1, p.2) (inl (record { reason = c.in_err-drop_data.field-0.0; is = refl; silent = refl; lacks = inr c.in_err-drop_data.ensures.cut }))

pub returns-clause-refused : goal.returns-clause-refused
returns-clause-refused g c = inr (c.in_ok-drop_data.ensures.bytes, c.tell.ensures.sent)
