use Rattle.std.proofs.Common.{rules, ◌≡◌, ◌∙◌, List, ℕ, Ok, true, false, length, ap, inl, inr, refl, sym, ltb, arith}
use Rattle.std.proofs.lemmas.Result.{err_from_is_err_and}
use Rattle.serve_run.specs.Handshake.{may_take}
use Rattle.serve_run.specs.declared.handshake.Next.TheVariants as next
use Rattle.serve_run.proofs.Handshakes.{above_three, at_most_three, broken_headless, broken_option, shaken_begins, shaken_ends, shaken_left, shaken_none}
use Rattle.serve_run.proofs.Handshakes.{shaking_begun, shaking_on, turned}
use Rattle.serve_run.proofs.handshake.shake.Goals as goal

pub returns-in_err-send-clause-broken : goal.returns-in_err-send-clause-broken
returns-in_err-send-clause-broken g c =
    let p = err_from_is_err_and c.from_residual.result c.from_residual.ensures.1 in
    rw (p.1, p.2) (inl (refl, rw c.greeting.ensures at c.in_err-send.ensures.sent))

pub returns-in_err-read_message-clause-broken : goal.returns-in_err-read_message-clause-broken
returns-in_err-read_message-clause-broken g c =
    let p = err_from_is_err_and c.from_residual-in_err-read_message.result c.from_residual-in_err-read_message.ensures.1 in
    rw (p.1, p.2) (inr (inl (rw c.greeting.ensures at c.in_ok-send.ensures.sent, inl c.in_err-read_message.ensures.cut)))

pub returns-then-not-branch-clause-shaken : goal.returns-then-not-branch-clause-shaken
returns-then-not-branch-clause-shaken g c =
    let none : c.read_message.result ≡ Ok false = search rules in
    shaken_none c.args.size (g.S.Source.left c.args.input.now) (g.S.Source.left c.read_message.new.input) (g.O.Output.written c.args.output.now)
    (g.O.Output.written c.send.new.output) (c.read_message.ensures.none none) (c.read_message.ensures.end none)
    (rw c.greeting.ensures at c.in_ok-send.ensures.sent)

pub returns-then-flags-from-clause-broken : goal.returns-then-flags-from-clause-broken
returns-then-flags-from-clause-broken g c =
    let flags : List ℕ = c.read_message.new.buffer in
    let whole : c.read_message.result ≡ Ok true = search rules in
    inr (inl (
      rw c.greeting.ensures at c.in_ok-send.ensures.sent,
      inr (
        refl,
        record {
          bytes = flags;
          len = omega arith;
          read = c.read_message.ensures.whole whole;
          refused = above_three flags c.client_flags-flags.result.0 c.client_flags-flags.ensures (omega arith);
        },
      ),
    ))

pub loop-turn-init : goal.loop-turn-init
loop-turn-init g c =
    let flags : List ℕ = c.read_message.new.buffer in
    let whole : c.read_message.result ≡ Ok true = search rules in
    let four : length flags ≡ 4 = omega arith in
    let may : may_take flags ≡ true = at_most_three flags c.client_flags-flags.result.0 c.client_flags-flags.ensures (omega arith) in
    record {
      read = c.read_message.ensures.same;
      written = c.send.ensures.same;
      shaking = shaking_begun c.args.size _ flags (g.S.Source.left c.args.input.now) (g.S.Source.left c.read_message.new.input)
          (g.O.Output.written c.args.output.now) (g.O.Output.written c.send.new.output) four may (ap (ltb 1) (sym c.client_flags-flags.ensures))
          (c.read_message.ensures.whole whole) (rw c.greeting.ensures at c.in_ok-send.ensures.sent);
    }

pub loop-turn-preserved : goal.loop-turn-preserved
loop-turn-preserved g c =
    let inv = c.loop-turn.invariant in
    record {
      read = c.in_ok-answer_option.ensures.read ∙ (c.in_ok-head.ensures.same ∙ inv.read);
      written = c.in_ok-answer_option.ensures.written ∙ inv.written;
      shaking = shaking_on c.args.size _ _ _ _ _ _ _ _ inv.shaking
          (turned c.args.size _ c.in-Some.head next.Option _ _ _ _ (rw c.in-Some.is at c.in_ok-head.ensures.head)
          (rw c.in-Option.is at c.in_ok-answer_option.ensures.answered));
    }

pub returns-in_err-head-clause-broken : goal.returns-in_err-head-clause-broken
returns-in_err-head-clause-broken g c =
    let p = err_from_is_err_and c.from_residual-in_err-head.result c.from_residual-in_err-head.ensures.1 in
    rw (p.1, p.2) (broken_headless _ _ _ _ c.args.size _ _ _ _ _ _ _ c.loop-turn.invariant.read c.loop-turn.invariant.shaking (inl c.in_err-head.ensures.refused))

pub returns-in_err-answer_option-clause-broken : goal.returns-in_err-answer_option-clause-broken
returns-in_err-answer_option-clause-broken g c =
    let inv = c.loop-turn.invariant in
    let p = err_from_is_err_and c.from_residual-in_err-answer_option.result c.from_residual-in_err-answer_option.ensures.1 in
    rw (p.1, p.2) (broken_option _ _ _ _ _ c.args.size _ _ c.in-Some.head _ _ _ _ _ _ _ (c.in_ok-head.ensures.same ∙ inv.read) inv.written inv.shaking
    (rw c.in-Some.is at c.in_ok-head.ensures.head) c.in_err-answer_option.ensures.broken)

pub returns-in_default-clause-shaken : goal.returns-in_default-clause-shaken
returns-in_default-clause-shaken g c =
    shaken_left c.args.size _ _ _ _ _ _ _ c.loop-turn.invariant.shaking (rw c.in_default.is at c.in_ok-head.ensures.head)

pub returns-in-Transmission-clause-shaken : goal.returns-in-Transmission-clause-shaken
returns-in-Transmission-clause-shaken g c =
    shaken_begins c.args.size _ _ _ _ _ _ _ _ c.loop-turn.invariant.shaking
    (turned c.args.size _ c.in-Some.head next.Transmission _ _ _ _ (rw c.in-Some.is at c.in_ok-head.ensures.head)
    (rw c.in-Transmission.is at c.in_ok-answer_option.ensures.answered))

pub returns-in-End-clause-shaken : goal.returns-in-End-clause-shaken
returns-in-End-clause-shaken g c =
    shaken_ends c.args.size _ _ _ _ _ _ _ _ c.loop-turn.invariant.shaking
    (turned c.args.size _ c.in-Some.head next.End _ _ _ _ (rw c.in-Some.is at c.in_ok-head.ensures.head)
    (rw c.in-End.is at c.in_ok-answer_option.ensures.answered))

pub returns-clause-broken : goal.returns-clause-broken
returns-clause-broken g c =
    broken_headless _ _ _ _ c.args.size _ _ _ _ _ _ _ c.loop-turn.invariant.read c.loop-turn.invariant.shaking (inr (refl, search rules, refl))
