use Rattle.disk_image.proofs.Contents.{fill-holds}
use Rattle.disk_image.proofs.fill.run_fill.Goals as goal

pub returns-in-Ok-clause-blocks : goal.returns-in-Ok-clause-blocks
returns-in-Ok-clause-blocks g c = λ zero tells. fill-holds _ _ _ _ _ _ _ _ (c.in-Ok.ensures.told tells) (c.in-Ok.ensures.image zero tells) zero
