use Rattle.std.proofs.lemmas.List.{length-replicate}
use Rattle.std.proofs.Common.{subst}
use Rattle.std.specs.Prelude.{option_to_list}
use Rattle.stream_array.specs.Rings.{IsLines}
use Rattle.block_unit.specs.BlockMaps.{fresh}
use Rattle.uas_replay.specs.Told.{zeroed_units}
use Rattle.uas_replay.specs.Walks.{machine_of}
use Rattle.uas_replay.proofs.Opening.{opening_by}
use Rattle.uas_replay.proofs.replay.ScriptRun.new.Goals as goal

pub returns-clause-walk : goal.returns-clause-walk
unfolding machine_of
returns-clause-walk c =
    let bus = c.in_ok-bus.bus in
    let are : IsLines bus.lines = subst IsLines c.lines.ensures.lines c.stand.ensures in
    opening_by c.args.disks.tags (zeroed_units c.args.disks.clients c.args.disks.blocks c.args.disks.bad) c.in_ok-units.units.items c.args.disks.clients (machine_of bus)
    c.in_ok-ranges.ranges.items c.in_ok-brings_in.brings_in.items c.new.result.items bus c.in_ok-units.ensures
    (length-replicate c.args.disks.clients (fresh c.args.disks.blocks (option_to_list c.args.disks.bad))) c.in_ok-bus.ensures.opening
    c.in_ok-ranges.ensures c.in_ok-brings_in.ensures c.new.ensures.items c.in_ok-bus.ensures.world are c.in_ok-bus.ensures.lines
