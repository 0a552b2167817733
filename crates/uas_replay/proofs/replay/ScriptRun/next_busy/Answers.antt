use Rattle.std.proofs.Common.{◌≡◌, suc, ap, subst}
use Rattle.std.specs.Prelude.{IfNone}
use Rattle.shared_machine.specs.Drain.{AreQuiet}
use Rattle.shared_machine.specs.Shared.{Shared, greatest_tag}
use Rattle.bus_core.specs.Busy.{IsNextBusy}
use Rattle.bus_core.specs.Decoded.{decoded}
use Rattle.uas_replay.specs.Walks.{Walk, machine_of}
use Rattle.uas_replay.proofs.replay.ScriptRun.next_busy.Goals as goal

pub returns-clause-none : goal.returns-clause-none
unfolding machine_of
returns-clause-none c =
    let is : decoded c.self.inside.bus ≡ c.args.self.now.telling.machine = cc (ap (λ (w : Walk). w.telling.machine) c.self.view_is) in
    subst (λ (m : Shared). IfNone c.next_busy.result (AreQuiet m c.args.tag (suc (greatest_tag m)))) is c.next_busy.ensures.none

pub returns-clause-busy : goal.returns-clause-busy
unfolding machine_of
returns-clause-busy c =
    let is : decoded c.self.inside.bus ≡ c.args.self.now.telling.machine = cc (ap (λ (w : Walk). w.telling.machine) c.self.view_is) in
    subst (λ (m : Shared). IsNextBusy m c.args.tag c.next_busy.result) is c.next_busy.ensures.busy
