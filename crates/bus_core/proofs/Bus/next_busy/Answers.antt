use Rattle.std.proofs.Common.{IfNone, suc, subst}
use Rattle.shared_machine.specs.Drain.{AreQuiet}
use Rattle.shared_machine.specs.Shared.{Shared}
use Rattle.bus_core.specs.Busy.{IsNextBusy}
use Rattle.bus_core.proofs.Bus.next_busy.Goals as goal
use Rattle.shared_machine.specs.Shared.{greatest_tag}

pub returns-clause-busy : goal.returns-clause-busy
returns-clause-busy c = subst (λ (s : Shared). IsNextBusy s c.args.tag c.next_busy.result) c.self.view_is c.next_busy.ensures.busy

pub returns-clause-none : goal.returns-clause-none
returns-clause-none c =
    subst (λ (s : Shared). IfNone c.next_busy.result (AreQuiet s c.args.tag (suc (greatest_tag s)))) c.self.view_is c.next_busy.ensures.none
