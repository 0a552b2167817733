use Rattle.std.proofs.Common.{[], ◌∷◌, ◌++◌, ap, sym, ◌∙◌}
use Rattle.uas_decode.proofs.Streams.{refusal-end, refusal-more, text-end, text-more}
use Rattle.uas_decode.proofs.run.Lines.push.Goals as goal

pub returns-in_ok-push-clause-text : goal.returns-in_ok-push-clause-text
returns-in_ok-push-clause-text c = λ rest.
    text-end _ _ _ _ c.args.byte rest c.if-byte-eq10.true (c.in_ok-push.ensures.items ∙ ap (λ l. l ++ c.args.byte ∷ []) c.in_ok-end.ensures.text)
    c.in_ok-end.ensures.line

pub returns-in_ok-push-clause-refused : goal.returns-in_ok-push-clause-refused
returns-in_ok-push-clause-refused c = λ rest.
    refusal-end _ _ _ _ c.args.byte rest c.if-byte-eq10.true c.in_ok-end.ensures.refused c.in_ok-end.ensures.line

pub returns-in_ok-push-2-clause-text : goal.returns-in_ok-push-2-clause-text
returns-in_ok-push-2-clause-text c = λ rest. text-more _ _ _ c.args.byte rest c.if-byte-eq10.false c.in_ok-push-2.ensures.items

pub returns-in_ok-push-2-clause-refused : goal.returns-in_ok-push-2-clause-refused
returns-in_ok-push-2-clause-refused c = λ rest. refusal-more _ _ _ c.args.byte rest c.if-byte-eq10.false c.in_ok-push-2.ensures.items
