use Rattle.task_laws.proofs.Calls.{one_device, stays_one}
use Rattle.task_laws.proofs.one_device.Goals as goal

pub returns-clause-seen : goal.returns-clause-seen
returns-clause-seen c = one_device

pub returns-clause-same : goal.returns-clause-same
returns-clause-same c = stays_one
