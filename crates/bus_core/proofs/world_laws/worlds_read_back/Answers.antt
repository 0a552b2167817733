-- A world that fits a state tells that state.
use Rattle.bus_core.proofs.common.ReadBack.{decoded-back}
use Rattle.bus_core.proofs.world_laws.worlds_read_back.Goals as goal

pub returns : goal.returns
returns c = decoded-back
