use Rattle.std.proofs.Common.{ap, sym, ◌∙◌, slice_set}
use Rattle.std.proofs.lemmas.List.Edits.{map_over_more}
use Rattle.uas_tasks.specs.Machine.{without_its_task}
use Rattle.uas_tasks.proofs.Places.{map-all}
use Rattle.uas_tasks.proofs.management.end_all.Goals as goal

pub loop-slot-preserved : goal.loop-slot-preserved
loop-slot-preserved c =
    ap (slice_set c.loop-slot.slots c.loop-slot.slot-index) (c.set.ensures ∙ ap without_its_task (sym c.slot-item.is))
    ∙ map_over_more without_its_task c.args.slots.now c.loop-slot.slots c.loop-slot.slot-index c.slot-item.result c.loop-slot-test.true
    c.loop-slot.invariant c.slot-item.is

pub returns : goal.returns
returns c = map-all without_its_task c.args.slots.now c.loop-slot.slots c.loop-slot.slot-index c.loop-slot.invariant c.loop-slot-test.false
