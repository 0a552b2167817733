use Rattle.guest_tasks.specs.Active.{TasksAreActive}
use Rattle.xhci_machine.proofs.Active.{KeptByAll, no_task_left}
use Rattle.xhci_machine.proofs.laws.no_task_is_left_out.Goals as goal

pub returns : goal.returns
returns c =
    let law = c.tasks_stay_active.ensures in
    let kept : KeptByAll TasksAreActive = record {
      gave = law.gave;
      took = law.took;
      sent = law.sent;
      received = law.received;
      rests = law.rested;
      ends = law.ended;
    } in
    no_task_left kept
