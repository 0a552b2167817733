use Rattle.std.proofs.Common.{drop}
use Rattle.uas_host.proofs.events.sight_in.Goals as goal

pub returns-in-Command : goal.returns-in-Command
returns-in-Command c = rw c.in-Command.is (c.where_success.ensures (drop 16 c.args.unit.now))

pub returns-in-DataIn : goal.returns-in-DataIn
returns-in-DataIn c = rw c.in-DataIn.is (c.where_success-in-DataIn.ensures (drop 16 c.args.unit.now))

pub returns-in-DataOut : goal.returns-in-DataOut
returns-in-DataOut c = rw c.in-DataOut.is (c.where_success-in-DataOut.ensures (drop 16 c.args.unit.now))
