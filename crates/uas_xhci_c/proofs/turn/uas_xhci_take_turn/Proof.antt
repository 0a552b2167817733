-- A turn of the controller is a call of a handle over regions: what lies at the pointer is lent to `take_turn`.
use Rattle.uas_xhci_c.proofs.Over.{meets}
use Rattle.uas_xhci_c.specs.Turned.{Turned}
use Rattle.uas_xhci_c.specs.contracts.turn.UasXhciTurn.{the_row as turn_row}
use Rattle.uas_xhci_c.specs.contracts.door.KeptXhci.{the_row as xhci_row}
use Rattle.uas_xhci_c.proofs.turn.take_turn.Symbol.{name as #turn}
use Rattle.uas_xhci_c.proofs.turn.take_turn.Met.{met}
use Rattle.uas_xhci_c.specs.contracts.turn.uas_xhci_take_turn.Key.{name}
use Rattle.uas_xhci_c.proofs.turn.uas_xhci_take_turn.Statement.{statement}
use Rattle.uas_xhci_c.proofs.turn.uas_xhci_take_turn.Code as code

pub uas_xhci_take_turn_spec : {M : Type 1} → statement M
uas_xhci_take_turn_spec 𝓤 𝓛 𝓜 𝓡 wired =
    meets xhci_row turn_row #turn Turned 𝓤 𝓛 𝓜 𝓡 name (code.unfolded 𝓤 𝓛.H 𝓜 𝓡 wired)
    (met 𝓤 𝓛 𝓜 𝓡 (code.calls-uas_xhci_c::turn::take_turn 𝓡.env wired))
