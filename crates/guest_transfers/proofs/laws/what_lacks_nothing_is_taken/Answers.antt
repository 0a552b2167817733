use Rattle.guest_transfers.proofs.DataSteps.{data_there}
use Rattle.guest_transfers.proofs.Lacking.{command_there, status_there}
use Rattle.guest_transfers.proofs.SilentSteps.{silent_command_there, silent_there}
use Rattle.guest_transfers.proofs.Stray.{stray_there}
use Rattle.guest_transfers.proofs.laws.what_lacks_nothing_is_taken.Goals as goal

pub returns : goal.returns
returns g c = record {
  of_data = λ w tag none. data_there g.D.UasDevice.kind w tag none;
  of_status = λ w tag none. status_there g.D.UasDevice.kind w tag none;
  of_command = λ w none. command_there g.D.UasDevice.kind w none;
  of_stray = λ code memory events t name none. stray_there code memory events t name none;
  of_silent = λ code memory events t name none. silent_there code memory events t name none;
  of_silent_command = λ code memory events t none. silent_command_there code memory events t none;
}
