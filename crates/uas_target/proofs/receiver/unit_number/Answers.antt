use Rattle.std.proofs.Common.{◌≡◌, Option, None, Some, ℕ, sym, ◌∙◌, arith}
use Rattle.std.proofs.lemmas.Option.{slice_get_past}
use Rattle.uas_target.proofs.Luns.{addressed-no_number, addressed-number}
use Rattle.uas_target.proofs.receiver.unit_number.Goals as goal

pub returns-in_err-lun_number-clause-none : goal.returns-in_err-lun_number-clause-none
returns-in_err-lun_number-clause-none g c =
    rw c.from_residual.ensures
    (addressed-no_number c.args.units.now c.args.lun.now c.told-lun
    (λ number is. let no : ◌≡◌ {A = Option ℕ} None (Some number) = sym c.in_err-lun_number.was ∙ c.lun_number.ensures.only number is in cc))

pub returns-else-number-units-clause-none : goal.returns-else-number-units-clause-none
returns-else-number-units-clause-none g c =
    addressed-number c.args.units.now c.args.lun.now c.in_ok-lun_number.field-0 c.in_ok-lun_number.ensures.found
    ∙ slice_get_past c.args.units.now c.in_ok-lun_number.field-0 (omega arith)
