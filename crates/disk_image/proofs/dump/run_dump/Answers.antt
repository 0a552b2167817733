use Rattle.disk_image.proofs.Contents.{dump-shows}
use Rattle.disk_image.proofs.dump.run_dump.Goals as goal

pub returns-in-Ok-clause-blocks : goal.returns-in-Ok-clause-blocks
returns-in-Ok-clause-blocks g c = λ zero. dump-shows _ _ _ _ _ _ c.in-Ok.ensures.told zero
