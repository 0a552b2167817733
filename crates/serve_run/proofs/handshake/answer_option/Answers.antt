use Rattle.std.proofs.Common.{inl, inr, refl}
use Rattle.std.proofs.lemmas.Result.{err_from_is_err_and}
use Rattle.serve_run.proofs.handshake.answer_option.Goals as goal

pub returns-in_err-well_formed-clause-broken : goal.returns-in_err-well_formed-clause-broken
returns-in_err-well_formed-clause-broken g c =
    let p = err_from_is_err_and c.from_residual.result c.from_residual.ensures.1 in
    rw (p.1, p.2) (inl (refl, c.in_err-well_formed.ensures.cut))

pub returns-in_err-tell_option-clause-broken : goal.returns-in_err-tell_option-clause-broken
returns-in_err-tell_option-clause-broken g c =
    let tested = c.in_ok-well_formed.ensures.tested in
    let p = err_from_is_err_and c.from_residual-in_err-tell_option.result c.from_residual-in_err-tell_option.ensures.1 in
    rw (p.1, p.2) (inr (
      _,
      record {
        brought = tested.brought;
        len = tested.len;
        read = tested.read;
        sent = rw tested.tests at c.in_err-tell_option.ensures.sent;
        goes_on = refl;
      },
    ))

pub returns-clause-answered : goal.returns-clause-answered
returns-clause-answered g c =
    let tested = c.in_ok-well_formed.ensures.tested in
    record {
      brought = tested.brought;
      len = tested.len;
      read = tested.read;
      sent = rw tested.tests at c.in_ok-tell_option.ensures.sent;
      goes_on = rw tested.tests at c.next_of.ensures;
    }
