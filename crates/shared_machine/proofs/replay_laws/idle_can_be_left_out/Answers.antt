use Rattle.shared_machine.proofs.Replays.{replayed_without_idle}
use Rattle.shared_machine.proofs.replay_laws.idle_can_be_left_out.Goals as goal

pub returns : goal.returns
returns c = replayed_without_idle
