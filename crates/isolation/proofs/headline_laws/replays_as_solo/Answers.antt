use Rattle.isolation.proofs.FirstBlocks.{replay-solo, replay-agree}
use Rattle.isolation.proofs.headline_laws.replays_as_solo.Goals as goal

pub returns-clause-run : goal.returns-clause-run
returns-clause-run c = replay-solo

pub returns-clause-worlds : goal.returns-clause-worlds
returns-clause-worlds c = replay-agree
