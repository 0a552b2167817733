use Rattle.std.proofs.Common.{◌∙◌, ap, length}
use Rattle.uas_host.proofs.Texts.{task_text-length}
use Rattle.uas_host.proofs.units.task_unit.Goals as goal

pub returns-clause-bytes : goal.returns-clause-bytes
returns-clause-bytes c = ap length c.write.ensures.text ∙ task_text-length _ _ _ _ c.write.ensures.fits
