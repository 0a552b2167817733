use Rattle.file_disk.proofs.Opened.{opened, set_made, shape_made}
use Rattle.file_disk.proofs.device.Device.new.Goals as goal

pub returns-clause-ready : goal.returns-clause-ready
returns-clause-ready c =
    opened c.args.blocks c.in-Ok-new.shape c.in-Ok-host.set c.in_ok-tasks.tasks
    (shape_made c.args.blocks c.in-Ok.serial c.new.result c.new-2.result c.in-Ok-new.shape c.requires.some c.requires.most c.in-Ok.is c.new.ensures
    c.in-Ok-new.is c.new-2.ensures)
    (set_made c.host.result c.in-Ok-host.set c.in-Ok-host.is c.host.ensures) c.in_ok-tasks.ensures
