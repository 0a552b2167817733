-- What is told is inside what the options and the lent memory were when time had passed; that leaves the options as they were.
use Rattle.std.proofs.Common.{subst}
use Rattle.bring_up.specs.Accesses.{IsInside}
use Rattle.bring_up.specs.Calls.{at_time, layout_of, woken}
use Rattle.bring_up.specs.declared.bring_up.BringUp.{BringUp}
use Rattle.bring_up.specs.declared.options.Options.{Options}
use Rattle.bring_up.proofs.bring_up.BringUp.next.Goals as goal

pub returns-clause-inside : goal.returns-clause-inside
returns-clause-inside c =
    let ByState : BringUp → Type 0 = λ b. IsInside c.pass.new.self.options.bar_bytes (layout_of b.stage) c.tell.result in
    let ByOptions : Options → Type 0 =
    λ o. IsInside o.bar_bytes (layout_of (woken (at_time c.args.self.now c.args.now)).stage) c.tell.result in
    subst ByOptions c.pass.ensures.options (subst ByState c.pass.ensures.is c.tell.ensures.inside)
