use Rattle.file_disk.proofs.Answered.{write_bytes, write_done, write_failed}
use Rattle.file_disk.proofs.device.Device.write_asked.Goals as goal

pub returns-in-Ok-clause-done : goal.returns-in-Ok-clause-done
returns-in-Ok-clause-done g c =
    write_done c.args.self.now.blocks c.in-Asks.number c.args.block c.in-Asks.request c.args.bytes.now c.args.self.now.tasks c.next.new.self
    c.answered.new.self c.answered.result c.requires.asks c.in-Asks.ensures c.answered.ensures c.requires.whole

pub returns-in-Err-clause-failed : goal.returns-in-Err-clause-failed
returns-in-Err-clause-failed g c =
    write_failed c.args.self.now.blocks c.in-Asks.number c.args.block _ c.in-Asks.request c.args.self.now.tasks c.next.new.self
    c.answered-in-Err.new.self c.answered-in-Err.result c.requires.asks c.in-Asks.ensures c.answered-in-Err.ensures
