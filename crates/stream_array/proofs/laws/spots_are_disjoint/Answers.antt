use Rattle.stream_array.proofs.Apart.{same_spot}
use Rattle.stream_array.proofs.laws.spots_are_disjoint.Goals as goal

pub returns : goal.returns
returns c = same_spot
