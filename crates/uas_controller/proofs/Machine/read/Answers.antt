use Rattle.std.proofs.Common.{◌≡◌, ℕ, true, List, Result, Ok, sym, ap, ◌∙◌}
use Rattle.uas_controller.specs.declared.Refusal.{Refusal}
use Rattle.uas_controller.specs.Own.{is_named}
use Rattle.uas_controller.proofs.OwnLaws.{named-passes}
use Rattle.uas_controller.proofs.Machine.read.Goals as goal

pub returns-clause-bytes : goal.returns-clause-bytes
returns-clause-bytes c =
    let inside = c.self.inside in
    let named : is_named inside.frames c.args.address c.args.len ≡ true =
    named-passes inside.frames c.args.address c.args.len c.check.result c.check.ensures.whole c.check.ensures.named
    (sym c.is_err.ensures.value ∙ c.if-is_err.false) in
    let ok : List ℕ → Result (List ℕ) Refusal = λ bytes. Ok bytes in
    rw (← c.self.view_is) (rw named (ap ok c.read.ensures.value))
