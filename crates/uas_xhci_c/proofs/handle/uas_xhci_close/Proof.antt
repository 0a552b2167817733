-- The end of the controller is the end of a handle: what lies at the pointer is moved out, and given to `release`.
use Rattle.std.proofs.Common.{refl}
use Rattle.c_common.proofs.Closed.{meets}
use Rattle.uas_xhci_c.specs.contracts.door.KeptXhci.{the_row as xhci_row}
use Rattle.uas_xhci_c.proofs.door.KeptXhci.TheLaws.{the_field_loose}
use Rattle.uas_xhci_c.proofs.handle.release.Symbol.{name as #release}
use Rattle.uas_xhci_c.proofs.handle.release.Met.{met}
use Rattle.uas_xhci_c.specs.contracts.handle.uas_xhci_close.Key.{name}
use Rattle.uas_xhci_c.proofs.handle.uas_xhci_close.Statement.{statement}
use Rattle.uas_xhci_c.proofs.handle.uas_xhci_close.Code as code

pub uas_xhci_close_spec : {M : Type 1} → statement M
uas_xhci_close_spec 𝓤 𝓛 𝓜 𝓡 wired =
    meets xhci_row refl #release 𝓤 𝓛 𝓜 𝓡 (the_field_loose.lawful 𝓛) name (code.unfolded 𝓤 𝓛.H 𝓜 𝓡 wired)
    (met 𝓤 𝓛 𝓜 𝓡 (code.calls-uas_xhci_c::handle::release 𝓡.env wired))
