use Rattle.xhci_slots.proofs.Lacking.{command_lacks, tell_lacks}
use Rattle.xhci_slots.proofs.wanting.what_is_wanted_is_not_there.Goals as goal

pub returns : goal.returns
returns c = record {
  of_command = λ w array command ends. command_lacks w array command ends;
  of_tell = λ w ends. tell_lacks w ends;
}
