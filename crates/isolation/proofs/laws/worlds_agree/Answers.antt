use Rattle.isolation.proofs.Worlds.{replayed-agree}
use Rattle.isolation.proofs.laws.worlds_agree.Goals as goal

pub returns : goal.returns
returns c = replayed-agree
