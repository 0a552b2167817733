use Rattle.std.proofs.Common.{ℕ, ◌≡◌, true, sym, subst, ◌∙◌}
use Rattle.marks.specs.Marks.{is_marked}
use Rattle.marks.proofs.Words.{marked_in}
use Rattle.marks.proofs.Marks.is_empty.Goals as goal

pub returns-then-is_some-clause-some : goal.returns-then-is_some-clause-some
returns-then-is_some-clause-some g c = λ some.
    subst (λ words. (place : ℕ) × (is_marked words place ≡ true)) c.self.view_is
    (marked_in c.self.inside.words c.loop-word.word-index c.lowest_from.result
    (sym (sym c.is_some.ensures ∙ c.if-is_some.true)) c.lowest_from.ensures.lowest)
