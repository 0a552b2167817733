use Rattle.isolation.proofs.FirstBlocks.{opening-solo, opening-nobody}
use Rattle.isolation.proofs.headline_laws.opens_as_solo.Goals as goal

pub returns-clause-solo : goal.returns-clause-solo
returns-clause-solo c = opening-solo

pub returns-clause-nobody : goal.returns-clause-nobody
returns-clause-nobody c = opening-nobody
