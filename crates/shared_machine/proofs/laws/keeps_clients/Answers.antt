use Rattle.shared_machine.proofs.NumberOfClients.{length-parts}
use Rattle.shared_machine.proofs.Drains.{drained-parts}
use Rattle.shared_machine.proofs.laws.keeps_clients.Goals as goal

pub returns-clause-step : goal.returns-clause-step
returns-clause-step c = length-parts

pub returns-clause-drain : goal.returns-clause-drain
returns-clause-drain c = drained-parts
