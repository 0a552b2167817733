-- A look ahead is a call of a handle over regions: what lies at the pointer is lent to `look`.
use Rattle.uas_xhci_c.proofs.OverRegions.{meets}
use Rattle.uas_xhci_c.specs.Looked.{Looked}
use Rattle.uas_xhci_c.specs.contracts.wants.UasXhciRange.{the_row as range_row}
use Rattle.uas_xhci_c.specs.contracts.door.KeptXhci.{the_row as xhci_row}
use Rattle.uas_xhci_c.proofs.wants.look.Symbol.{name as #look}
use Rattle.uas_xhci_c.proofs.wants.look.Met.{met}
use Rattle.uas_xhci_c.specs.contracts.wants.uas_xhci_look.Key.{name}
use Rattle.uas_xhci_c.proofs.wants.uas_xhci_look.Statement.{statement}
use Rattle.uas_xhci_c.proofs.wants.uas_xhci_look.Code as code

pub uas_xhci_look_spec : {M : Type 1} → statement M
uas_xhci_look_spec 𝓤 𝓛 𝓜 𝓡 wired =
    meets xhci_row range_row #look Looked 𝓤 𝓛 𝓜 𝓡 name (code.unfolded 𝓤 𝓛.H 𝓜 𝓡 wired)
    (met 𝓤 𝓛 𝓜 𝓡 (code.calls-uas_xhci_c::wants::look 𝓡.env wired))
