use Rattle.std.proofs.Common.{rules}
use Rattle.guest_bulk.specs.Incoming.{zeros_poured}
use Rattle.guest_bulk.proofs.Zeros.{front_of_zeros}
use Rattle.guest_bulk.proofs.bulk.Bulk.pour_zeros.Goals as goal

pub returns-clause-step : goal.returns-clause-step
unfolding zeros_poured
returns-clause-step g c = let zeros = front_of_zeros c.args.count 4096 c.requires.most in search rules
