use Rattle.std.proofs.Common.{◌∙◌, ap, arith, get_or}
use Rattle.log_records.specs.declared.checksum.table.TheConstants.{REMAINDERS}
use Rattle.log_records.proofs.Places.{remainder_at}
use Rattle.log_records.proofs.checksum.left_by.Goals as goal

pub returns : goal.returns
returns c = ap (λ place. get_or REMAINDERS place 0) c.from.ensures ∙ remainder_at c.args.byte (omega arith)
