use Rattle.file_disk.proofs.Answered.{may_take, take_done}
use Rattle.file_disk.proofs.device.Device.fill.Goals as goal

pub take-requires : goal.take-requires
take-requires c =
    may_take c.args.self.now.blocks c.args.block c.args.bytes.now c.args.self.now.tasks c.requires.moves c.requires.whole

pub returns-clause-asks : goal.returns-clause-asks
returns-clause-asks c =
    (take_done c.args.self.now.blocks c.args.block c.args.bytes.now c.args.self.now.tasks _ c.requires.moves c.requires.whole c.take.ensures).0

pub returns-clause-bytes : goal.returns-clause-bytes
returns-clause-bytes c =
    (take_done c.args.self.now.blocks c.args.block c.args.bytes.now c.args.self.now.tasks _ c.requires.moves c.requires.whole c.take.ensures).1
