use Rattle.guest_transfers.proofs.DataSteps.{data_lacks}
use Rattle.guest_transfers.proofs.Lacking.{command_lacks, status_lacks}
use Rattle.guest_transfers.proofs.SilentSteps.{silent_command_lacks, silent_lacks}
use Rattle.guest_transfers.proofs.Stray.{stray_lacks}
use Rattle.guest_transfers.proofs.laws.what_is_wanted_is_not_there.Goals as goal

pub returns : goal.returns
returns g c = record {
  of_data = λ w tag ends. data_lacks g.D.UasDevice.kind w tag ends;
  of_status = λ w tag ends. status_lacks g.D.UasDevice.kind w tag ends;
  of_command = λ w. command_lacks g.D.UasDevice.kind w;
  of_stray = λ memory events t name. stray_lacks memory events t name;
  of_silent = λ memory events t name ends. silent_lacks memory events t name ends;
  of_silent_command = λ memory events t. silent_command_lacks memory events t;
}
