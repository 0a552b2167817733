use Rattle.std.proofs.Common.{ℕ, List, ap, ◌∙◌}
use Rattle.c_disks.specs.Records.{record_in, record_of}
use Rattle.c_disks.proofs.fields.read.Goals as goal

pub returns : goal.returns
unfolding record_of
returns c = c.all_fields.ensures ∙ ap (λ (bytes : List ℕ). record_in bytes) c.sized.ensures
