use Rattle.std.proofs.Common.{rules}
use Rattle.usbredir.proofs.Requests.{head-guest_in, text-guest_in}
use Rattle.usbredir.proofs.guest.request_writes_back.Goals as goal

pub returns-clause-fields : goal.returns-clause-fields
returns-clause-fields c = text-guest_in c.args.head.now c.args.bytes.now (search rules)

pub returns-clause-head : goal.returns-clause-head
returns-clause-head c = head-guest_in c.args.head.now c.args.bytes.now (search rules)
