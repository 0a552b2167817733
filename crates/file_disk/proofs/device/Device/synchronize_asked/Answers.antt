use Rattle.file_disk.proofs.Answered.{sync_done, sync_failed}
use Rattle.file_disk.proofs.device.Device.synchronize_asked.Goals as goal

pub returns-in-Ok-clause-done : goal.returns-in-Ok-clause-done
returns-in-Ok-clause-done g c =
    sync_done c.args.self.now.blocks c.in-Asks.number 0 c.args.self.now.blocks c.in-Asks.request c.args.self.now.tasks c.next.new.self
    c.answered.new.self c.answered.result c.requires c.in-Asks.ensures c.answered.ensures

pub returns-in-Err-clause-failed : goal.returns-in-Err-clause-failed
returns-in-Err-clause-failed g c =
    sync_failed c.args.self.now.blocks c.in-Asks.number 0 c.args.self.now.blocks c.in-Asks.request c.args.self.now.tasks c.next.new.self
    c.answered-in-Err.new.self c.answered-in-Err.result c.requires c.in-Asks.ensures c.answered-in-Err.ensures
