use Rattle.guest_transfers.proofs.DataSteps.{data-beside}
use Rattle.guest_transfers.proofs.BesideSteps.{command-beside, status-beside}
use Rattle.guest_transfers.proofs.SilentSteps.{silent-beside, silent_command-beside}
use Rattle.guest_transfers.proofs.Stray.{stray-beside}
use Rattle.guest_transfers.proofs.laws.copies_stand_for_all_memory.Goals as goal

pub returns : goal.returns
returns g c = record {
  of_data = λ w rest tag whole none. data-beside g.D.UasDevice.kind w rest tag whole none;
  of_status = λ w rest tag none. status-beside g.D.UasDevice.kind w rest tag none;
  of_command = λ w rest none. command-beside g.D.UasDevice.kind w rest none;
  of_stray = λ code memory rest events t name none. stray-beside code memory rest events t name none;
  of_silent = λ code memory rest events t name none. silent-beside code memory rest events t name none;
  of_silent_command = λ code memory rest events t none. silent_command-beside code memory rest events t none;
}
