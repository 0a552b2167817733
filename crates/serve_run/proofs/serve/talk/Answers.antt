use Rattle.std.proofs.Common.{rules, ◌≡◌, ℕ, true, false, Ok, inl, inr, refl, subst}
use Rattle.std.proofs.lemmas.Result.{err_from_is_err_and}
use Rattle.serve_run.specs.Handshake.{Shaken}
use Rattle.serve_run.proofs.Talking.{on_err, on_ok, on_ok_of}
use Rattle.serve_run.proofs.Transcripts.{transmission_same}
use Rattle.serve_run.proofs.serve.talk.Goals as goal

pub returns-then-not-branch-clause-talked : goal.returns-then-not-branch-clause-talked
returns-then-not-branch-clause-talked g c =
    let no : c.shake.result ≡ Ok false = search rules in
    record {
      begins = false;
      left_greeted = g.S.Source.left c.shake.new.input;
      written_greeted = g.O.Output.written c.shake.new.output;
      shaken = subst (λ (n : ℕ). Shaken n false (g.S.Source.left c.args.input.now) (g.S.Source.left c.shake.new.input)
          (g.O.Output.written c.args.output.now) (g.O.Output.written c.shake.new.output)) c.size.ensures.size
          (on_ok_of _ c.shake.result false no c.shake.ensures.shaken);
      went = record { same = refl; read = refl; sent = refl };
    }

pub returns-in_err-shake-clause-broken : goal.returns-in_err-shake-clause-broken
returns-in_err-shake-clause-broken g c =
    let p = err_from_is_err_and c.from_residual.result c.from_residual.ensures.1 in
    rw (p.1, p.2) (inl (refl, rw c.size.ensures.size at c.in_err-shake.ensures.broken))

pub returns-clause-talked : goal.returns-clause-talked
returns-clause-talked g c =
    let yes : c.shake.result ≡ Ok true = search rules in
    on_ok c.transmit.result (λ went. record {
      begins = true;
      left_greeted = g.S.Source.left c.shake.new.input;
      written_greeted = g.O.Output.written c.shake.new.output;
      shaken = subst (λ (n : ℕ). Shaken n true (g.S.Source.left c.args.input.now) (g.S.Source.left c.shake.new.input)
          (g.O.Output.written c.args.output.now) (g.O.Output.written c.shake.new.output)) c.size.ensures.size
          (on_ok_of _ c.shake.result true yes c.shake.ensures.shaken);
      went = went;
    }) c.transmit.ensures.answered

pub returns-clause-broken : goal.returns-clause-broken
returns-clause-broken g c =
    let yes : c.shake.result ≡ Ok true = search rules in
    on_err c.transmit.result (λ reason broken. inr (record {
      left_greeted = g.S.Source.left c.shake.new.input;
      written_greeted = g.O.Output.written c.shake.new.output;
      shaken = subst (λ (n : ℕ). Shaken n true (g.S.Source.left c.args.input.now) (g.S.Source.left c.shake.new.input)
          (g.O.Output.written c.args.output.now) (g.O.Output.written c.shake.new.output)) c.size.ensures.size
          (on_ok_of _ c.shake.result true yes c.shake.ensures.shaken);
      broken = transmission_same reason _ _ _ _ _ _ _ _ _ _ _ _ _ c.shake.ensures.read c.shake.ensures.written broken;
    })) c.transmit.ensures.broken
