use Rattle.bus_core.proofs.drain.DrainTags.{tried-further, tried-whole}
use Rattle.bus_core.proofs.RingBus.try_left_over.Goals as goal

pub loop-next-preserved : goal.loop-next-preserved
loop-next-preserved c = tried-further c.loop-next.invariant c.in-Some.ensures.next (λ other rests. rests) c.try_retirement_of-left.ensures

pub returns : goal.returns
returns c = tried-whole c.loop-next.invariant c.in_default.ensures.none (λ other rests. rests)
