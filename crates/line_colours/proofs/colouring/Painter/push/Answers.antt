use Rattle.std.proofs.Common.{[], ◌∷◌, ◌++◌, ap, ◌∙◌}
use Rattle.line_colours.proofs.Leaving.{text-end, text-more}
use Rattle.line_colours.proofs.colouring.Painter.push.Goals as goal

pub returns-in_ok-push : goal.returns-in_ok-push
returns-in_ok-push c = λ rest.
    text-end _ _ _ _ c.args.byte rest c.if-byte-eq10.true (c.in_ok-push.ensures.items ∙ ap (λ l. l ++ c.args.byte ∷ []) c.in_ok-end.ensures.text)
    c.in_ok-end.ensures.line

pub returns-in_ok-push-2 : goal.returns-in_ok-push-2
returns-in_ok-push-2 c = λ rest. text-more _ _ _ c.args.byte rest c.if-byte-eq10.false c.in_ok-push-2.ensures.items
