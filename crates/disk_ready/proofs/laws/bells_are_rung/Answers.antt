use Rattle.std.proofs.Common.{refl}
use Rattle.disk_ready.proofs.laws.bells_are_rung.Goals as goal

pub returns-clause-data_in : goal.returns-clause-data_in
returns-clause-data_in c = λ k layout sent spots pieces doorbells tag way. rw (doorbells, tag, way) refl

pub returns-clause-data_out : goal.returns-clause-data_out
returns-clause-data_out c = λ k layout sent spots pieces doorbells tag way. rw (doorbells, tag, way) refl

pub returns-clause-status : goal.returns-clause-status
returns-clause-status c = λ k layout sent spots pieces doorbells tag way. rw (doorbells, tag) refl

pub returns-clause-command : goal.returns-clause-command
returns-clause-command c = λ k layout sent spots pieces doorbells tag way. rw doorbells refl
