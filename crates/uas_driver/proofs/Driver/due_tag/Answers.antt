use Rattle.std.proofs.Common.{◌≡◌, false, nat_eq, refl, sym, ◌∙◌, arith}
use Rattle.std.proofs.lemmas.Bool.{ne_eqb}
use Rattle.uas_profile.specs.declared.TheConstants.{STREAMS}
use Rattle.uas_driver.specs.Endings.{due_tag, is_due}
use Rattle.uas_driver.proofs.Least.{find-least, find-none}
use Rattle.uas_driver.proofs.Driver.due_tag.Goals as goal

pub returns-then-self-eq0-clause-due : goal.returns-then-self-eq0-clause-due
unfolding due_tag
returns-then-self-eq0-clause-due c = rw (← c.self.view_is) (rw c.if-self-eq0.true refl)

pub returns-then-is_due-clause-due : goal.returns-then-is_due-clause-due
unfolding due_tag
returns-then-is_due-clause-due c =
    let some : nat_eq c.args.self.now.ending 0 ≡ false = rw (← c.self.view_is) (ne_eqb c.self.inside.ending 0 c.if-self-eq0.false) in
    let known = c.is_due.ensures.known c.if-is_due.true in
    rw some (sym (find-least (is_due c.args.self.now c.args.pipe) STREAMS 1 c.loop-tag.tag known.0 (omega (arith, known.1))
    (sym c.is_due.ensures.due ∙ c.if-is_due.true) c.loop-tag.invariant))

pub returns-clause-due : goal.returns-clause-due
unfolding due_tag
returns-clause-due c =
    let some : nat_eq c.args.self.now.ending 0 ≡ false = rw (← c.self.view_is) (ne_eqb c.self.inside.ending 0 c.if-self-eq0.false) in
    rw some (sym (find-none (is_due c.args.self.now c.args.pipe) STREAMS 1
    (λ other above below. c.loop-tag.invariant other above (omega (arith, below, c.loop-tag-test.false)))))
