use Rattle.std.proofs.Common.{refl}
use Rattle.bulk_only.specs.Command.{cbw_text}
use Rattle.bulk_only.specs.Status.{csw_text}
use Rattle.bulk_only.proofs.laws.rows_are_told.Goals as goal

pub returns-clause-good : goal.returns-clause-good
unfolding csw_text
returns-clause-good c = (refl, refl, refl)

pub returns-clause-write : goal.returns-clause-write
unfolding cbw_text
returns-clause-write c = refl

pub returns-clause-phase : goal.returns-clause-phase
unfolding csw_text
returns-clause-phase c = (refl, refl, refl)

pub returns-clause-takes_more : goal.returns-clause-takes_more
unfolding csw_text
returns-clause-takes_more c = refl
