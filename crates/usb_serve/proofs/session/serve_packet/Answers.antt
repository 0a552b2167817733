use Rattle.std.proofs.Common.{rules, ◌≡◌, ◌∙◌, [], true, false, Ok, inr, refl}
use Rattle.std.proofs.lemmas.Result.{err_from_is_err_and}
use Rattle.usb_serve.proofs.Gathering.{on_err, on_ok}
use Rattle.usb_serve.proofs.Reading.{on_err_of, on_ok_of}
use Rattle.usb_serve.proofs.Stepping.{fails_sending, gathers_none, made_began, made_endless, made_fails, made_more, made_most, made_sent, made_stops, stepped_none}
use Rattle.usb_serve.proofs.session.serve_packet.Goals as goal

pub loop-turn-init : goal.loop-turn-init
loop-turn-init g c = record {
  rooms = c.requires.has;
  written = refl;
  steps = ([], stepped_none _, gathers_none _ _ c.requires.none);
}

pub loop-turn-preserved : goal.loop-turn-preserved
loop-turn-preserved g c =
    let yes : c.step.result ≡ Ok true = search rules in
    record {
      rooms = c.in_ok-step.ensures.rooms;
      written = c.in_ok-step.ensures.same ∙ c.loop-turn.invariant.written;
      steps = made_more _ _ _ _ _ _ _ _ _ c.loop-turn.invariant.steps (on_ok_of _ c.step.result true yes c.step.ensures.goes);
    }

pub returns-in_err-step-clause-broken : goal.returns-in_err-step-clause-broken
returns-in_err-step-clause-broken g c =
    let p = err_from_is_err_and c.from_residual.result c.from_residual.ensures.1 in
    rw p.1 (made_stops _ _ _ _ _ _ _ _ c.loop-turn.invariant.steps c.in_err-step.ensures.stops)

pub returns-then-not-branch-clause-sent : goal.returns-then-not-branch-clause-sent
returns-then-not-branch-clause-sent g c =
    let no : c.step.result ≡ Ok false = search rules in
    on_ok c.send_gathered.result (λ sent. made_sent _ _ _ _ _ _ _ _ _ _ c.loop-turn.invariant.steps
    (on_ok_of _ c.step.result false no c.step.ensures.goes) sent) c.send_gathered.ensures.sent

pub returns-then-not-branch-clause-broken : goal.returns-then-not-branch-clause-broken
returns-then-not-branch-clause-broken g c =
    let no : c.step.result ≡ Ok false = search rules in
    on_err c.send_gathered.result (λ sent. made_began _ _ _ _ _ _ _ _ _ _ c.loop-turn.invariant.steps
    (on_ok_of _ c.step.result false no c.step.ensures.goes) sent) c.send_gathered.ensures.began

pub returns-clause-broken : goal.returns-clause-broken
returns-clause-broken g c = made_most _ _ _ _ _ _ c.loop-turn.invariant.steps

pub returns-in_err-step-clause-cause : goal.returns-in_err-step-clause-cause
returns-in_err-step-clause-cause g c =
    let p = err_from_is_err_and c.from_residual.result c.from_residual.ensures.1 in
    rw (p.1, p.2) (made_fails _ _ _ _ _ _ _ _ _ _ c.loop-turn.invariant.written c.loop-turn.invariant.steps c.in_err-step.ensures.cause)

pub returns-then-not-branch-clause-cause : goal.returns-then-not-branch-clause-cause
returns-then-not-branch-clause-cause g c =
    on_err_of c.send_gathered.result (λ reason stream. fails_sending reason _ _ _ _
    (c.in_ok-step.ensures.same ∙ c.loop-turn.invariant.written) stream) c.send_gathered.ensures.cause

pub returns-clause-cause : goal.returns-clause-cause
returns-clause-cause g c =
    let most : c.loop-turn.turn ≡ 4294967295 = search rules in
    inr (inr (refl, made_endless _ _ _ _ _ _ most c.loop-turn.invariant.steps))
