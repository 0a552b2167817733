use Rattle.xhci_slots.proofs.Lacking.{command_there, tell_there}
use Rattle.xhci_slots.proofs.wanting.what_lacks_nothing_is_executed.Goals as goal

pub returns : goal.returns
returns c = record {
  of_command = λ w array command none. command_there w array command none;
  of_tell = λ w number state none. tell_there w number state none;
}
