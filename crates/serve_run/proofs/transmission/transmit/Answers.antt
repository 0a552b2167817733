use Rattle.std.proofs.Common.{rules, ◌≡◌, ◌*◌, ◌∙◌, ℕ, Bool, Ok, ap, inl, inr, refl, subst, sym}
use Rattle.std.specs.Prelude.{IsTrue}
use Rattle.std.specs.Io.KnownBytes.{Consumes}
use Rattle.std.proofs.lemmas.Result.{err_from_is_err_and}
use Rattle.nbd.specs.Transmission.{IsCommand, request_text}
use Rattle.serve_run.proofs.Transcripts.{broken_request, broken_unread, served_answers, serves_same, transmitted, turns_none, turns_then}
use Rattle.serve_run.proofs.transmission.transmit.Goals as goal

pub loop-turn-init : goal.loop-turn-init
loop-turn-init g c =
    record { disk = refl; told = refl; same = refl; read = refl; written = refl; len = c.requires; turns = turns_none _ _ _ _ _ _ }

pub loop-turn-preserved : goal.loop-turn-preserved
loop-turn-preserved g c =
    let inv = c.loop-turn.invariant in
    let head : Consumes (g.S.Source.left c.loop-turn.input) (g.S.Source.left c.read_request.new.input) (request_text c.in-Some.request) =
    rw c.in-Some.is at c.in_ok-request.ensures.request in
    let named : IsCommand c.in-Some.request.command = rw c.in-Some.is at c.in_ok-request.ensures.named in
    record {
      disk = c.in_ok-serve_request.ensures.disk ∙ inv.disk;
      told = c.in_ok-serve_request.ensures.told ∙ inv.told;
      same = c.in_ok-serve_request.ensures.same ∙ inv.same;
      read = c.in_ok-serve_request.ensures.read ∙ (c.in_ok-request.ensures.same ∙ inv.read);
      written = c.in_ok-serve_request.ensures.written ∙ inv.written;
      len = λ t. c.in_ok-serve_request.ensures.len (subst (λ (b : Bool). IsTrue b) (sym inv.told) t) ∙ inv.len t;
      turns = turns_then _ _ _ _ c.in-Some.request _ _ _ _ _ _ _ _ _ _ inv.turns head named
          (served_answers (g.S.Source.can_fail c.args.input.now) (g.O.Output.can_fail c.args.output.now) _ _ _ _ _ c.in-Some.request _ _ _ _
          (serves_same _ _ _ _ _ _ _ _ _ _ _ _ _ c.in-Some.request _ _ _ _ (c.in_ok-request.ensures.same ∙ inv.read) inv.written inv.same inv.told
          (ap (λ (n : ℕ). 512 * n) inv.disk) c.in_ok-serve_request.ensures.served));
    }

pub returns-in_default-clause-answered : goal.returns-in_default-clause-answered
returns-in_default-clause-answered g c =
    let none : c.read_request.result ≡ Ok _ = search rules in
    transmitted _ _ _ _ _ _ _ _ _ _ _ c.loop-turn.invariant.turns (c.read_request.ensures.leaves none)

pub returns-in_err-request-clause-broken : goal.returns-in_err-request-clause-broken
returns-in_err-request-clause-broken g c =
    let p = err_from_is_err_and c.from_residual.result c.from_residual.ensures.1 in
    rw (p.1, p.2) (broken_unread _ _ _ _ _ _ _ _ _ _ _ _ _ _ _ c.loop-turn.invariant.read c.loop-turn.invariant.turns
    (inl c.in_err-request.ensures.refused))

pub returns-in_err-serve_request-clause-broken : goal.returns-in_err-serve_request-clause-broken
returns-in_err-serve_request-clause-broken g c =
    let inv = c.loop-turn.invariant in
    let p = err_from_is_err_and c.from_residual-in_err-serve_request.result c.from_residual-in_err-serve_request.ensures.1 in
    rw (p.1, p.2) (broken_request _ _ _ _ _ _ _ c.in-Some.request _ _ _ _ _ _ _ _ _ _ inv.turns (rw c.in-Some.is at c.in_ok-request.ensures.request)
    (rw c.in-Some.is at c.in_ok-request.ensures.named)
    (serves_same _ _ _ _ _ _ _ _ _ _ _ _ _ c.in-Some.request _ _ _ _ (c.in_ok-request.ensures.same ∙ inv.read) inv.written inv.same inv.told
    (ap (λ (n : ℕ). 512 * n) inv.disk) c.in_err-serve_request.ensures.served))

pub returns-clause-broken : goal.returns-clause-broken
returns-clause-broken g c =
    broken_unread _ _ _ _ _ _ _ _ _ _ _ _ _ _ _ c.loop-turn.invariant.read c.loop-turn.invariant.turns (inr (refl, search rules, refl))
