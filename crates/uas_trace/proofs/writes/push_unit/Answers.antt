use Rattle.uas_trace.proofs.Units.{unit_named}
use Rattle.uas_trace.proofs.writes.push_unit.Goals as goal

pub read-requires : goal.read-requires
read-requires c =
    let asked = c.requires in
    rw (c.address-address.ensures.value)
    (unit_named c.args.frames.now c.args.tag c.args.buffer c.args.len asked.frames asked.some asked.most asked.small asked.len)
