use Rattle.std.proofs.Common.{inl, inr, refl}
use Rattle.std.proofs.lemmas.Result.{err_from_is_err_and}
use Rattle.serve_run.proofs.Talking.{on_err}
use Rattle.serve_run.proofs.messages.read_data.Goals as goal

pub returns-in_err-make_room-clause-lacks : goal.returns-in_err-make_room-clause-lacks
returns-in_err-make_room-clause-lacks g c =
    let p = err_from_is_err_and c.from_residual.result c.from_residual.ensures.1 in
    rw (p.1, p.2) (inl (c.in_err-make_room.ensures.memory, inr c.requires, refl))

pub returns-clause-lacks : goal.returns-clause-lacks
returns-clause-lacks g c = on_err c.read_front.result (λ reason cut. inr (c.requires, cut)) c.read_front.ensures.cut
