use Rattle.std.proofs.Common.{length, refl, ap, ◌∙◌}
use Rattle.uas_tasks.specs.Soundness.{counted_up}
use Rattle.uas_tasks.specs.Stale.{stale_unit}
use Rattle.uas_tasks.proofs.Counts.{all_counted, counted_next, length-up, may_count_next, within_next, zeros}
use Rattle.uas_tasks.proofs.stale.count_anew.Goals as goal

pub loop-slot-init : goal.loop-slot-init
loop-slot-init c =
    record { len = refl; counts = zeros c.fill.new.self (λ k within. c.fill.ensures.clones k 0 (rw (← c.fill.ensures.len) within) refl) }

pub count_up-requires : goal.count_up-requires
count_up-requires c =
    let len = c.loop-slot.invariant.len ∙ c.fill.ensures.len in
    let sound = within_next (length c.loop-slot.stale) (length c.args.stale.now) c.args.slots.now c.loop-slot.slot-index c.slot-item.result len c.requires.within
    c.loop-slot-test.true c.slot-item.is in
    rw c.stale_unit.ensures (may_count_next c.loop-slot.stale c.args.slots.now c.loop-slot.slot-index c.slot-item.result c.loop-slot.invariant.counts
    c.requires.few sound)

pub loop-slot-preserved : goal.loop-slot-preserved
loop-slot-preserved c =
    let len = c.loop-slot.invariant.len ∙ c.fill.ensures.len in
    let sound = within_next (length c.loop-slot.stale) (length c.args.stale.now) c.args.slots.now c.loop-slot.slot-index c.slot-item.result len c.requires.within
    c.loop-slot-test.true c.slot-item.is in
    let up = c.count_up.ensures ∙ ap (counted_up c.loop-slot.stale) c.stale_unit.ensures in
    record {
      len = rw up (length-up c.loop-slot.stale (stale_unit c.slot-item.result) ∙ c.loop-slot.invariant.len);
      counts = rw up (counted_next c.loop-slot.stale c.args.slots.now c.loop-slot.slot-index c.slot-item.result c.loop-slot.invariant.counts
          c.loop-slot-test.true c.slot-item.is sound);
    }

pub returns : goal.returns
returns c = record { counts = all_counted c.loop-slot.stale c.args.slots.now c.loop-slot.slot-index c.loop-slot.invariant.counts c.loop-slot-test.false }
