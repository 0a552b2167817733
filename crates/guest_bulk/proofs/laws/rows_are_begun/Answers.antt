use Rattle.std.proofs.Common.{refl}
use Rattle.uas_iu.specs.Units.{unit_text}
use Rattle.guest_bulk.proofs.laws.rows_are_begun.Goals as goal

pub returns-clause-command : goal.returns-clause-command
unfolding unit_text
returns-clause-command c = (refl, refl, refl)

pub returns-clause-kept : goal.returns-clause-kept
returns-clause-kept c = (refl, refl, refl, refl, refl, refl)

pub returns-clause-told : goal.returns-clause-told
returns-clause-told c = (refl, refl, refl, refl)

pub returns-clause-kept_by : goal.returns-clause-kept_by
returns-clause-kept_by c = (refl, refl)
