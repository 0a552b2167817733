use Rattle.shared_machine.proofs.Replays.{replayed_more}
use Rattle.shared_machine.proofs.replay_laws.replay_goes_on.Goals as goal

pub returns : goal.returns
returns c = replayed_more
