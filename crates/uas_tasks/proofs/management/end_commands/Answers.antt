use Rattle.std.proofs.Common.{ap, sym, ◌∙◌, slice_set}
use Rattle.std.proofs.lemmas.List.Edits.{map_over_more}
use Rattle.uas_tasks.specs.Slots.{spared_slot}
use Rattle.uas_tasks.proofs.Places.{map-all}
use Rattle.uas_tasks.proofs.management.end_commands.Goals as goal

pub loop-slot-preserved : goal.loop-slot-preserved
loop-slot-preserved c =
    ap (slice_set c.loop-slot.slots c.loop-slot.slot-index) (c.end_command.ensures ∙ ap (spared_slot c.args.number) (sym c.slot-item.is))
    ∙ map_over_more (spared_slot c.args.number) c.args.slots.now c.loop-slot.slots c.loop-slot.slot-index c.slot-item.result c.loop-slot-test.true
    c.loop-slot.invariant c.slot-item.is

pub returns : goal.returns
returns c = map-all (spared_slot c.args.number) c.args.slots.now c.loop-slot.slots c.loop-slot.slot-index c.loop-slot.invariant c.loop-slot-test.false
