use Rattle.std.proofs.Common.{refl, ◌-◌}
use Rattle.tag_range.proofs.Flags.{flags-zero}
use Rattle.tag_range.proofs.client_range.ClientRange.new.Goals as goal

pub returns : goal.returns
returns c = rw (flags-zero (c.args.tags - 1)) refl
