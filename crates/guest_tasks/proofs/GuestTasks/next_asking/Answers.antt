use Rattle.std.proofs.Common.{◌∙◌, sym, arith}
use Rattle.guest_tasks.proofs.Asking.{past}
use Rattle.guest_tasks.proofs.GuestTasks.next_asking.Goals as goal

pub loop-active-preserved : goal.loop-active-preserved
loop-active-preserved c = record {
  above = omega (arith, c.loop-active.invariant.above, c.in-Some.ensures.next.0);
  none = past c.args.self.now c.args.from c.loop-active.tag c.in-Some.active c.loop-active.invariant.none c.in-Some.ensures.next.3
      (sym c.asks.ensures ∙ c.if-asks.false);
}
