-- A call of the controller is a call of a handle: what lies at the three pointers is lent to `serve`.
use Rattle.c_common.proofs.Called.{meets}
use Rattle.uas_xhci_c.specs.XhciCall.{after_call}
use Rattle.uas_xhci_c.specs.contracts.door.UasXhciDoor.{the_row as door_row}
use Rattle.uas_xhci_c.specs.contracts.door.KeptXhci.{the_row as xhci_row}
use Rattle.uas_xhci_c.proofs.door.serve.Symbol.{name as #serve}
use Rattle.uas_xhci_c.proofs.door.serve.Met.{met}
use Rattle.uas_xhci_c.specs.contracts.handle.uas_xhci_call.Key.{name}
use Rattle.uas_xhci_c.proofs.handle.uas_xhci_call.Statement.{statement}
use Rattle.uas_xhci_c.proofs.handle.uas_xhci_call.Code as code

pub uas_xhci_call_spec : {M : Type 1} → statement M
uas_xhci_call_spec 𝓤 𝓛 𝓜 𝓡 wired =
    meets xhci_row door_row #serve (λ r. after_call) 𝓤 𝓛 𝓜 𝓡 name (code.unfolded 𝓤 𝓛.H 𝓜 𝓡 wired)
    (met 𝓤 𝓛 𝓜 𝓡 (code.calls-uas_xhci_c::door::serve 𝓡.env wired))
