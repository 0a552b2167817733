use Rattle.std.proofs.Common.{◌≡◌, ℕ, true, List, Result, Ok, sym, ap, ◌∙◌}
use Rattle.uas_driver.specs.declared.Refusal.{Refusal}
use Rattle.uas_driver.specs.Calls.{is_named}
use Rattle.uas_driver.proofs.Loans.{named-passes}
use Rattle.uas_driver.proofs.Driver.read.Goals as goal

pub returns : goal.returns
returns c =
    let inside = c.self.inside in
    let named : is_named inside.frames c.args.address c.args.len ≡ true =
    named-passes inside.frames c.args.address c.args.len c.check.result c.check.ensures.whole c.check.ensures.named
    (sym c.is_err.ensures.value ∙ c.if-is_err.false) in
    let ok : List ℕ → Result (List ℕ) Refusal = λ bytes. Ok bytes in
    rw (← c.self.view_is) (rw named (ap ok c.read.ensures.value))
