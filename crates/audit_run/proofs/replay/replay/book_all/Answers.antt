-- The first fault of all steps is that of those that are left.
use Rattle.std.proofs.Common.{◌≡◌, ◌+◌, Option, Result, Ok, Err, IfErr, drop, arith, sym, subst, ◌∙◌}
use Rattle.std.specs.Prelude.{IsErrAnd}
use Rattle.audit_run.specs.declared.replay.ReplayFault.{ReplayFault}
use Rattle.audit_run.specs.replay.Replaying.{StopsBy, first_fault}
use Rattle.audit_run.proofs.Replayed.{fault-end, fault-here, ticketed-at}
use Rattle.audit_run.proofs.replay.replay.book_all.Goals as goal

err_given : (fault : ReplayFault) (P : ReplayFault → Type 0) (result : Result (Unit {0}) ReplayFault) → IsErrAnd result (λ given. given ≡ fault)
    → P fault → IfErr result P
err_given fault P (Ok done) is holds = tt
err_given fault P (Err given) is holds = subst P (sym is) holds

pub book-requires-clause-ticket : goal.book-requires-clause-ticket
book-requires-clause-ticket c =
    ticketed-at c.args.steps.now c.loop-at.at c.index-steps-at.result c.requires.ticketed c.loop-at-test.true c.index-steps-at.is

pub returns-in_err-book-clause-fault : goal.returns-in_err-book-clause-fault
returns-in_err-book-clause-fault c =
    let steps = c.args.steps.now in
    let at = c.loop-at.at in
    let here = c.loop-at.invariant.fault
    ∙ fault-here at c.loop-at.booked.bus steps at c.index-steps-at.result c.loop-at-test.true c.index-steps-at.is in
    let stops = subst (λ (first : Option ReplayFault). StopsBy first c.in_err-book.field-0.0) (sym here) (c.in_err-book.ensures.fault (drop (at + 1) steps)) in
    err_given c.in_err-book.field-0.0 (StopsBy (first_fault 0 c.args.booked.now.bus steps)) c.from_residual.result c.from_residual.ensures.1 stops

pub returns-clause-ok : goal.returns-clause-ok
returns-clause-ok c = c.loop-at.invariant.fault ∙ fault-end c.loop-at.at c.loop-at.booked.bus c.args.steps.now c.loop-at.at (omega arith)
