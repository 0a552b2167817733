use Rattle.std.proofs.Common.{refl}
use Rattle.bulk_only.specs.Command.{cdb_in}
use Rattle.bulk_only.proofs.laws.rows_are_read.Goals as goal

pub returns-clause-read : goal.returns-clause-read
unfolding cdb_in
returns-clause-read c = refl

pub returns-clause-ready : goal.returns-clause-ready
unfolding cdb_in
returns-clause-ready c = (refl, refl, refl)

pub returns-clause-faults : goal.returns-clause-faults
unfolding cdb_in
returns-clause-faults c = (refl, refl, refl, refl)

pub returns-clause-reserved : goal.returns-clause-reserved
unfolding cdb_in
returns-clause-reserved c = refl

pub returns-clause-cleared : goal.returns-clause-cleared
unfolding cdb_in
returns-clause-cleared c = (refl, refl, refl)
