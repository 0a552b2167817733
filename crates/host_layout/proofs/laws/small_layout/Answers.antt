use Rattle.std.proofs.Common.{refl}
use Rattle.host_layout.proofs.laws.small_layout.Goals as goal

pub returns-clause-bytes : goal.returns-clause-bytes
returns-clause-bytes c = λ tags pieces scratchpads. rw (tags, pieces, scratchpads) refl

pub returns-clause-data_in : goal.returns-clause-data_in
returns-clause-data_in c = λ tags pieces. rw (tags, pieces) refl

pub returns-clause-data_out : goal.returns-clause-data_out
returns-clause-data_out c = λ tags pieces. rw (tags, pieces) refl
