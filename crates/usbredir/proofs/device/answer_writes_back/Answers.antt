use Rattle.std.proofs.Common.{rules}
use Rattle.usbredir.proofs.RepliesBack.{head-device_in, text-device_in}
use Rattle.usbredir.proofs.device.answer_writes_back.Goals as goal

pub returns-clause-fields : goal.returns-clause-fields
returns-clause-fields c = text-device_in c.args.head.now c.args.bytes.now (search rules)

pub returns-clause-head : goal.returns-clause-head
returns-clause-head c = head-device_in c.args.head.now c.args.bytes.now (search rules)
