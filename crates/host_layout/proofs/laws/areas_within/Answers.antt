use Rattle.host_layout.proofs.Areas.{area_within}
use Rattle.host_layout.proofs.laws.areas_within.Goals as goal

pub returns : goal.returns
returns c = λ has. area_within c.args.layout.now.shape c.args.area has
