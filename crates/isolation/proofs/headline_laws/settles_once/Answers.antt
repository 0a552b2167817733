use Rattle.isolation.proofs.Once.{solo-once, replay-once}
use Rattle.isolation.proofs.headline_laws.settles_once.Goals as goal

pub returns-clause-solo : goal.returns-clause-solo
returns-clause-solo c = solo-once

pub returns-clause-replay : goal.returns-clause-replay
returns-clause-replay c = replay-once
