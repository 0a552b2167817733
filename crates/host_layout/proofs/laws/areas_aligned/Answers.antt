use Rattle.host_layout.proofs.Blocks.{area_aligned}
use Rattle.host_layout.proofs.laws.areas_aligned.Goals as goal

pub returns : goal.returns
returns c = area_aligned c.args.layout.now c.args.area
