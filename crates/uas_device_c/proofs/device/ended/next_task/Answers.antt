use Rattle.uas_device_c.proofs.Ended.{next-is}
use Rattle.uas_device_c.proofs.device.ended.next_task.Goals as goal

pub returns : goal.returns
returns c = next-is c.args.target.now c.args.tag c.next_task.result c.next_task.ensures.next c.next_task.ensures.none
