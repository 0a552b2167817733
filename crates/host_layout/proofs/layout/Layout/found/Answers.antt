use Rattle.std.proofs.Common.{◌≡◌, ap, sym, ◌∙◌, Some}
use Rattle.std.proofs.lemmas.Option.{none-some, same_Some}
use Rattle.host_layout.specs.Rings.{guess_of, trb_of}
use Rattle.host_layout.proofs.Found.{guess_is}
use Rattle.host_layout.proofs.layout.Layout.found.Goals as goal

pub returns-in-Some-clause-every : goal.returns-in-Some-clause-every
returns-in-Some-clause-every c = λ at e.
    let layout = c.args.self.now in
    ap Some (c.guess-at.ensures ∙ ap (guess_of layout.shape) c.saturating_sub.ensures ∙ guess_is layout at c.args.pointer e)

pub returns-in_default-clause-every : goal.returns-in_default-clause-every
returns-in_default-clause-every c = λ at e.
    let layout = c.args.self.now in
    let same : c.guess-at.result ≡ at = c.guess-at.ensures ∙ ap (guess_of layout.shape) c.saturating_sub.ensures ∙ guess_is layout at c.args.pointer e in
    absurd (c.if-address-pointer.false (same_Some _ _ (sym c.in-Some.is ∙ c.trb.ensures ∙ ap (trb_of layout) same ∙ e)))

pub returns-in_default-2-clause-every : goal.returns-in_default-2-clause-every
returns-in_default-2-clause-every c = λ at e.
    let layout = c.args.self.now in
    let same : c.guess-at.result ≡ at = c.guess-at.ensures ∙ ap (guess_of layout.shape) c.saturating_sub.ensures ∙ guess_is layout at c.args.pointer e in
    absurd (none-some _ (sym c.in_default.is ∙ c.trb.ensures ∙ ap (trb_of layout) same ∙ e))
