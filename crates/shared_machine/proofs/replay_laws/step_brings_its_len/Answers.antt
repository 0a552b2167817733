use Rattle.shared_machine.proofs.Replying.{shared_step-room}
use Rattle.shared_machine.proofs.replay_laws.step_brings_its_len.Goals as goal

pub returns : goal.returns
returns c = shared_step-room
