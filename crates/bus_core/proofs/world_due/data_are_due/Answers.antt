-- A step of a data stream is due where the stream is armed and the device moves data on it.
use Rattle.bus_core.proofs.chunks.DataDue.{data_due}
use Rattle.bus_core.proofs.world_due.data_are_due.Goals as goal

pub returns : goal.returns
returns c = data_due
