use Rattle.std.proofs.Common.{Bool, inl, inr, refl, subst}
use Rattle.std.proofs.lemmas.Result.{err_from_is_err_and}
use Rattle.std.specs.Prelude.{IsTrue}
use Rattle.serve_run.proofs.Flushing.{flushed_behind}
use Rattle.serve_run.proofs.serve.serve_client.Goals as goal

pub returns-in_err-served-clause-failed : goal.returns-in_err-served-clause-failed
returns-in_err-served-clause-failed g c =
    let p = err_from_is_err_and c.from_residual.result c.from_residual.ensures.1 in
    rw (p.1, p.2) (inr (record {
      size = _;
      sized = c.requires;
      last = _;
      talked = inl c.in_err-served.ensures.broken;
      flushed = flushed_behind c.flush-flushed.result _ _ _ _ _ _ c.talk-served.ensures.same c.talk-served.ensures.told c.flush-flushed.ensures.safe
          c.flush-flushed.ensures.bytes c.flush-flushed.ensures.kept c.flush-flushed.ensures.len c.flush-flushed.ensures.fault;
    }))

pub returns-in-Err-clause-failed : goal.returns-in-Err-clause-failed
returns-in-Err-clause-failed g c = inr (record {
  size = _;
  sized = c.requires;
  last = _;
  talked = inr (refl, subst (λ (b : Bool). IsTrue b) c.talk-served.ensures.same c.in-Err.ensures.fault, c.in_ok-served.ensures.talked);
  flushed = flushed_behind c.flush-flushed.result _ _ _ _ _ _ c.talk-served.ensures.same c.talk-served.ensures.told c.flush-flushed.ensures.safe
      c.flush-flushed.ensures.bytes c.flush-flushed.ensures.kept c.flush-flushed.ensures.len c.flush-flushed.ensures.fault;
})
