use Rattle.host_layout.proofs.Areas.{apart}
use Rattle.host_layout.proofs.laws.areas_apart.Goals as goal

pub returns : goal.returns
returns c = λ offset a b. apart c.args.layout.now.shape c.args.first c.args.second offset a b
