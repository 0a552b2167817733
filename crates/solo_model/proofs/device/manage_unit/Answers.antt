use Rattle.std.proofs.Common.{ap, ◌∙◌}
use Rattle.block_unit.specs.Laws.{with_attention-count}
use Rattle.solo_model.proofs.device.manage_unit.Goals as goal

pub returns-in-Reset-clause-count : goal.returns-in-Reset-clause-count
returns-in-Reset-clause-count c = ap (λ maps. maps.count) c.set_attention.ensures ∙ with_attention-count _ _
