use Rattle.std.proofs.Common.{arith}
use Rattle.log_text.specs.Loading.{saved_of}
use Rattle.log_text.proofs.TakenLog.{whole_taken}
use Rattle.log_text.proofs.read_log.loaded.Goals as goal

pub invariant_of-result : goal.invariant_of-result
invariant_of-result c = (whole_taken c.args.text.now (saved_of c.in-Ok.field-0) (λ i. omega (arith, c.type_inv.text i)) c.in-Ok.ensures).1

pub returns-in-Ok-clause-found : goal.returns-in-Ok-clause-found
returns-in-Ok-clause-found c = whole_taken c.args.text.now (saved_of c.in-Ok.field-0) (λ i. omega (arith, c.type_inv.text i)) c.in-Ok.ensures
