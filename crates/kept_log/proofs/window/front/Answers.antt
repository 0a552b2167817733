use Rattle.std.proofs.Common.{arith}
use Rattle.log_records.proofs.Bytes.{bytes_taken}
use Rattle.kept_log.proofs.window.front.Goals as goal

pub returns-clause-are : goal.returns-clause-are
returns-clause-are c = bytes_taken c.args.count c.args.bytes.now (λ i. omega (arith, c.type_inv.bytes i))
