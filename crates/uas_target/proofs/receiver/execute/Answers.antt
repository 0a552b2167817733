use Rattle.uas_target.proofs.Sound.{missing_sound}
use Rattle.uas_target.proofs.receiver.execute.Goals as goal

pub returns-in-None-clause-sound : goal.returns-in-None-clause-sound
returns-in-None-clause-sound c = rw c.missing_task.ensures (missing_sound _ c.args.cdb.now)
