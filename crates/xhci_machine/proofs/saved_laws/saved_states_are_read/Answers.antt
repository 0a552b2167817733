use Rattle.controller_bytes.proofs.TagsExact.{slots-exact}
use Rattle.xhci_machine.proofs.ActiveExact.{active-exact}
use Rattle.xhci_machine.proofs.KeptExact.{kept-exact}
use Rattle.xhci_machine.proofs.SavedRead.{saved_is_read}
use Rattle.xhci_machine.proofs.saved_laws.saved_states_are_read.Goals as goal

pub returns-clause-kept : goal.returns-clause-kept
returns-clause-kept c = kept-exact

pub returns-clause-active : goal.returns-clause-active
returns-clause-active c = active-exact

pub returns-clause-tags : goal.returns-clause-tags
returns-clause-tags c = slots-exact

pub returns-clause-saved : goal.returns-clause-saved
returns-clause-saved c = saved_is_read
