use Rattle.xhci_machine.specs.Bus.{stall_error}
use Rattle.xhci_machine.proofs.TurnsTaken.{command_pipe_taken, data_taken, status_taken, stray_taken}
use Rattle.xhci_machine.proofs.laws.pipes_that_lack_nothing_are_stepped.Goals as goal

pub returns : goal.returns
returns c =
    let law = c.what_lacks_nothing_is_taken.ensures in
    let bulk = c.what_lacks_nothing_is_taken-2.ensures in
    record {
      of_command = command_pipe_taken law.of_command law.of_silent_command;
      of_stray = stray_taken (law.of_stray stall_error) law.of_silent (record { to_host = bulk.to_host; to_device = bulk.to_device });
      of_data = data_taken law.of_data;
      of_status = status_taken law.of_status;
    }
