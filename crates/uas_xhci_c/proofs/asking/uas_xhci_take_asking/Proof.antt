-- A turn that asks for memory is a call of a handle over regions: what lies at the pointer is lent to `take_asking`.
use Rattle.uas_xhci_c.proofs.Over.{meets}
use Rattle.uas_xhci_c.specs.Asked.{Asked}
use Rattle.uas_xhci_c.specs.contracts.asking.UasXhciAsking.{the_row as asking_row}
use Rattle.uas_xhci_c.specs.contracts.door.KeptXhci.{the_row as xhci_row}
use Rattle.uas_xhci_c.proofs.asking.take_asking.Symbol.{name as #asking}
use Rattle.uas_xhci_c.proofs.asking.take_asking.Met.{met}
use Rattle.uas_xhci_c.specs.contracts.asking.uas_xhci_take_asking.Key.{name}
use Rattle.uas_xhci_c.proofs.asking.uas_xhci_take_asking.Statement.{statement}
use Rattle.uas_xhci_c.proofs.asking.uas_xhci_take_asking.Code as code

pub uas_xhci_take_asking_spec : {M : Type 1} → statement M
uas_xhci_take_asking_spec 𝓤 𝓛 𝓜 𝓡 wired =
    meets xhci_row asking_row #asking Asked 𝓤 𝓛 𝓜 𝓡 name (code.unfolded 𝓤 𝓛.H 𝓜 𝓡 wired)
    (met 𝓤 𝓛 𝓜 𝓡 (code.calls-uas_xhci_c::asking::take_asking 𝓡.env wired))
