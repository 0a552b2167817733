use Rattle.line_objects.proofs.ByteByByte.{text-end, text-more}
use Rattle.line_objects.proofs.telling.Teller.push.Goals as goal

pub returns-in_ok-end-clause-text : goal.returns-in_ok-end-clause-text
returns-in_ok-end-clause-text c = λ rest. text-end _ _ _ _ _ c.args.byte rest c.if-byte-eq10.true c.in_ok-end.ensures.text c.in_ok-end.ensures.line

pub returns-in_ok-push-clause-text : goal.returns-in_ok-push-clause-text
returns-in_ok-push-clause-text c = λ rest. text-more _ _ _ _ c.args.byte rest c.if-byte-eq10.false c.in_ok-push.ensures.items
