use Rattle.std.proofs.Common.{◌+◌, arith}
use Rattle.std.proofs.lemmas.List.{length-drop}
use Rattle.uas_host.proofs.Emptying.{engine-item}
use Rattle.uas_host.proofs.engine.free_engine.Goals as goal

pub reclaim_engine-requires : goal.reclaim_engine-requires
reclaim_engine-requires c =
    let found = engine-item c.addresses_name_items.ensures.items_only c.args.lines.now.engine c.args.pointer c.requires in (found.0, found.2)

pub returns-clause-lines : goal.returns-clause-lines
returns-clause-lines c =
    let found = engine-item c.addresses_name_items.ensures.items_only c.args.lines.now.engine c.args.pointer c.requires in
    rw found.1 (c.reclaim_engine.ensures found.0 found.2)

pub returns-clause-room : goal.returns-clause-room
returns-clause-room c =
    let found = engine-item c.addresses_name_items.ensures.items_only c.args.lines.now.engine c.args.pointer c.requires in
    let standing = c.room_engine.ensures.standing in
    rw (c.reclaim_engine.ensures found.0 found.2)
    (omega (arith, length-drop (found.0 + 1) c.args.lines.now.engine.put, found.2.0, standing.consumed, standing.room_left))
