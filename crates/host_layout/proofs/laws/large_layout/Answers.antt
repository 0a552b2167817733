use Rattle.std.proofs.Common.{refl}
use Rattle.host_layout.proofs.laws.large_layout.Goals as goal

pub returns : goal.returns
returns c = λ tags pieces scratchpads. rw (tags, pieces, scratchpads) refl
