use Rattle.device_server.specs.declared.Answer.TheVariants.{Good, Check}
use Rattle.scsi_cmd.specs.Sense.{write_error}
use Rattle.file_disk.proofs.device.Device.synchronize.Goals as goal

pub returns-in-Ok-clause-fault : goal.returns-in-Ok-clause-fault
returns-in-Ok-clause-fault g c = rw (c.finish.ensures.told Good c.in-Ok.ensures.done) tt

pub returns-in-Err-clause-safe : goal.returns-in-Err-clause-safe
returns-in-Err-clause-safe g c = rw (c.finish-in-Err.ensures.told (Check write_error) c.in-Err.ensures.failed) tt

pub returns-in-Err-clause-bytes : goal.returns-in-Err-clause-bytes
returns-in-Err-clause-bytes g c = rw (c.finish-in-Err.ensures.told (Check write_error) c.in-Err.ensures.failed) tt

pub returns-in-Ok-clause-kept : goal.returns-in-Ok-clause-kept
returns-in-Ok-clause-kept g c = rw (c.finish.ensures.told Good c.in-Ok.ensures.done) tt

pub returns-in-Ok-clause-spoiled : goal.returns-in-Ok-clause-spoiled
returns-in-Ok-clause-spoiled g c = rw (c.finish.ensures.told Good c.in-Ok.ensures.done) tt

pub returns-in-Err-clause-sound : goal.returns-in-Err-clause-sound
returns-in-Err-clause-sound g c = rw (c.finish-in-Err.ensures.told (Check write_error) c.in-Err.ensures.failed) tt
