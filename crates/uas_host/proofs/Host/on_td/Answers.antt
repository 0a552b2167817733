use Rattle.uas_host.proofs.Transfers.{transfer-matched}
use Rattle.uas_host.proofs.Host.on_td.Goals as goal

pub returns : goal.returns
returns c =
    rw c.in-Some.is (transfer-matched c.args.self.now c.see.new.self c.args.lines.now c.free.new.lines c.args.frames.now c.args.at.pointer c.args.residual c.args.code
    c.in-Some.td c.status_unit-unit.result.now c.sense_of.result.now c.in-Some-sight_in.sight c.see.result
    c.status_unit-unit.ensures.unit c.sense_of.ensures (rw c.in-Some-sight_in.is at c.sight_in.ensures)
    c.see.ensures c.if-not-see.false c.free.ensures)
