use Rattle.std.proofs.Common.{arith}
use Rattle.log_keeper.proofs.Behind.{added_same, added_then, all_counted, all_fit, all_summed, all_written, nothing_behind}
use Rattle.log_keeper.proofs.adding.add_records.Goals as goal

pub loop-place-init : goal.loop-place-init
loop-place-init c = added_same c.args.log.now c.args.place.now c.args.text.now.items

pub loop-place-smaller : goal.loop-place-smaller
loop-place-smaller c = omega (arith, c.loop-place-test.true, c.in_ok-add_next.ensures.count)

pub loop-place-preserved : goal.loop-place-preserved
loop-place-preserved c = added_then _ _ _ _ _ _ _ c.loop-place.invariant c.in_ok-add_next.ensures.one

pub returns-in_err-add_next-clause-added : goal.returns-in_err-add_next-clause-added
returns-in_err-add_next-clause-added c = rw (c.in_err-add_next.ensures.place, c.in_err-add_next.ensures.text) c.loop-place.invariant

pub returns-clause-none : goal.returns-clause-none
returns-clause-none c =
    nothing_behind c.args.log.now c.loop-place.place c.told_steps-count.result c.told_steps-count.ensures.all (omega (arith, c.loop-place-test.false))

pub returns-clause-all : goal.returns-clause-all
returns-clause-all c =
    all_written _ _ _ _ _ c.loop-place.invariant
    (nothing_behind c.args.log.now c.loop-place.place c.told_steps-count.result c.told_steps-count.ensures.all (omega (arith, c.loop-place-test.false)))

pub returns-clause-sum : goal.returns-clause-sum
returns-clause-sum c =
    all_summed _ _ _ _ _ c.loop-place.invariant
    (nothing_behind c.args.log.now c.loop-place.place c.told_steps-count.result c.told_steps-count.ensures.all (omega (arith, c.loop-place-test.false)))

pub returns-clause-steps : goal.returns-clause-steps
returns-clause-steps c =
    all_counted _ _ _ _ _ c.loop-place.invariant
    (nothing_behind c.args.log.now c.loop-place.place c.told_steps-count.result c.told_steps-count.ensures.all (omega (arith, c.loop-place-test.false)))

pub returns-clause-fit : goal.returns-clause-fit
returns-clause-fit c =
    all_fit _ _ _ _ _ c.loop-place.invariant
    (nothing_behind c.args.log.now c.loop-place.place c.told_steps-count.result c.told_steps-count.ensures.all (omega (arith, c.loop-place-test.false)))
