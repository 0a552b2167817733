use Rattle.guest_tasks.specs.Active.{TasksAreActive}
use Rattle.xhci_machine.proofs.Active.{KeptByAll, worked_kept}
use Rattle.xhci_machine.proofs.laws.tasks_stay_active.Goals as goal

pub returns : goal.returns
returns c =
    let law = c.tasks_stay_active.ensures in
    let kept : KeptByAll TasksAreActive = record {
      gave = law.gave;
      took = law.took;
      sent = law.sent;
      received = law.received;
      rests = law.rested;
      ends = law.ended;
    } in
    worked_kept TasksAreActive kept
