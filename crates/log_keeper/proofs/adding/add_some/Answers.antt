use Rattle.std.proofs.Common.{arith}
use Rattle.log_keeper.proofs.Behind.{added_same, added_then, nothing_behind}
use Rattle.log_keeper.proofs.adding.add_some.Goals as goal

pub loop-place-init : goal.loop-place-init
loop-place-init c = record { added = added_same c.args.log.now c.args.place.now c.args.text.now.items; goes = omega arith }

pub loop-place-smaller : goal.loop-place-smaller
loop-place-smaller c = omega (arith, c.loop-place-test.true, c.in_ok-add_next.ensures.count)

pub loop-place-preserved : goal.loop-place-preserved
loop-place-preserved c = record {
  added = added_then _ _ _ _ _ _ _ c.loop-place.invariant.added c.in_ok-add_next.ensures.one;
  goes = omega (arith, c.loop-place.invariant.goes, c.in_ok-add_next.ensures.count);
}

pub returns-in_err-add_next-clause-added : goal.returns-in_err-add_next-clause-added
returns-in_err-add_next-clause-added c = rw (c.in_err-add_next.ensures.place, c.in_err-add_next.ensures.text) c.loop-place.invariant.added

pub returns-clause-none : goal.returns-clause-none
returns-clause-none c = λ is.
    nothing_behind c.args.log.now c.loop-place.place c.told_steps-told.result c.told_steps-told.ensures.all (omega (arith, c.loop-place-test.false))

pub returns-then-len-enough-clause-added : goal.returns-then-len-enough-clause-added
returns-then-len-enough-clause-added c = added_then _ _ _ _ _ _ _ c.loop-place.invariant.added c.in_ok-add_next.ensures.one
