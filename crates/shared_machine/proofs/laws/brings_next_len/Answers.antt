use Rattle.shared_machine.proofs.Lengths.{shared_step-len}
use Rattle.shared_machine.proofs.laws.brings_next_len.Goals as goal

pub returns : goal.returns
returns c = shared_step-len
