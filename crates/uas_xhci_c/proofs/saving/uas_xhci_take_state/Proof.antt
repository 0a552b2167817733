-- Restoring is a call of a handle over regions: what lies at the pointer is lent to `take_state`.
use Rattle.uas_xhci_c.proofs.OverRegions.{meets}
use Rattle.uas_xhci_c.specs.Saving.{IsRestored}
use Rattle.uas_xhci_c.specs.contracts.saving.UasXhciLoaded.{the_row as loaded_row}
use Rattle.uas_xhci_c.specs.contracts.door.KeptXhci.{the_row as xhci_row}
use Rattle.uas_xhci_c.proofs.saving.take_state.Symbol.{name as #take}
use Rattle.uas_xhci_c.proofs.saving.take_state.Met.{met}
use Rattle.uas_xhci_c.specs.contracts.saving.uas_xhci_take_state.Key.{name}
use Rattle.uas_xhci_c.proofs.saving.uas_xhci_take_state.Statement.{statement}
use Rattle.uas_xhci_c.proofs.saving.uas_xhci_take_state.Code as code

pub uas_xhci_take_state_spec : {M : Type 1} → statement M
uas_xhci_take_state_spec 𝓤 𝓛 𝓜 𝓡 wired =
    meets xhci_row loaded_row #take IsRestored 𝓤 𝓛 𝓜 𝓡 name (code.unfolded 𝓤 𝓛.H 𝓜 𝓡 wired)
    (met 𝓤 𝓛 𝓜 𝓡 (code.calls-uas_xhci_c::saving::take_state 𝓡.env wired))
