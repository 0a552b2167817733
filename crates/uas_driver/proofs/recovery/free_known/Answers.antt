use Rattle.uas_host.proofs.Emptying.{engine-item}
use Rattle.uas_driver.proofs.recovery.free_known.Goals as goal

pub reclaim_engine-requires : goal.reclaim_engine-requires
reclaim_engine-requires c =
    let found = engine-item c.addresses_name_items.ensures.items_only c.args.lines.now.engine c.args.pointer c.requires in (found.0, found.2)

pub returns : goal.returns
returns c =
    let found = engine-item c.addresses_name_items.ensures.items_only c.args.lines.now.engine c.args.pointer c.requires in
    rw found.1 (c.reclaim_engine.ensures found.0 found.2)
