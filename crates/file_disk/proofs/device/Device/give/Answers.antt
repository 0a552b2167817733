use Rattle.std.proofs.Common.{length, ◌∙◌}
use Rattle.file_disk.proofs.Answered.{give_bytes, give_done, may_give}
use Rattle.file_disk.proofs.device.Device.give.Goals as goal

pub give-requires : goal.give-requires
give-requires c =
    may_give c.args.self.now.blocks c.args.block c.args.into.now c.args.self.now.tasks c.requires.moves c.requires.whole

pub returns-clause-done : goal.returns-clause-done
returns-clause-done c =
    give_done c.args.self.now.blocks c.args.block c.args.into.now c.args.self.now.tasks _ c.requires.moves c.requires.whole c.give.ensures.machine

pub returns-clause-bytes : goal.returns-clause-bytes
returns-clause-bytes c =
    c.give.ensures.bytes ∙ give_bytes c.args.self.now.blocks c.args.block _ (length c.args.into.now) c.args.self.now.tasks c.requires.moves
