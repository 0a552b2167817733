-- The making of a controller with logical units that say what there is to tell is the making of a handle of them: `made` makes it, and it is handed out.
use Rattle.std.proofs.Common.{[], ◌∷◌, refl}
use mir.Syntax.{Dict, dnil, impl, method, no_args, tnil}
use Rattle.c_common.proofs.Behind.{known}
use Rattle.c_tasks.proofs.MadeExport.{exported, of_disks}
use Rattle.uas_xhci_c.specs.Made.{IsMadeOfDisks}
use Rattle.uas_xhci_c.specs.contracts.door.KeptXhci.{the_row}
use Rattle.uas_xhci_c.proofs.door.KeptXhci.TheLaws as laws
use Rattle.uas_xhci_c.specs.contracts.making.UasXhci.{the_row as name_row}
use Rattle.uas_xhci_c.proofs.making.UasXhci.TheLaws as name_laws
use Rattle.uas_xhci_c.proofs.uas_xhci_c++door++KeptXhci+Destruct.drop.Symbol as dropped
use Rattle.uas_xhci_c.proofs.uas_xhci_c++door++KeptXhci+Destruct.drop.Met.{met}
use Rattle.uas_xhci_c.proofs.making.made_of_disks.Symbol.{name as #made}
use Rattle.uas_xhci_c.proofs.making.made_of_disks.Met.{met as made_met}
use Rattle.uas_xhci_c.specs.contracts.making.uas_xhci_new_disks.Key.{name}
use Rattle.uas_xhci_c.proofs.making.uas_xhci_new_disks.Statement.{statement}
use Rattle.uas_xhci_c.proofs.making.uas_xhci_new_disks.Code as code

pub uas_xhci_new_disks_spec : {M : Type 1} → statement M
uas_xhci_new_disks_spec 𝓤 𝓛 𝓜 𝓡 wired =
    let drops : Dict = impl ("uas_xhci_c::uas_xhci_c++door++KeptXhci+Destruct::drop" ∷ []) tnil dnil in
    let drop = code.calls-uas_xhci_c::uas_xhci_c++door++KeptXhci+Destruct::drop 𝓡.env wired in
    exported of_disks (known the_row laws.the_row_laws refl laws.the_within) (known name_row name_laws.the_row_laws refl name_laws.the_within)
    IsMadeOfDisks drops 𝓤 𝓛 𝓜 𝓡 (code.calls-c_common::hand_out_made 𝓡.env wired)
    dropped.name (dropped.as_method 𝓡.env drop (method drops 0 no_args) refl) (met 𝓤 𝓛 𝓜 𝓡 drop)
    #made (made_met 𝓤 𝓛 𝓜 𝓡 (code.calls-uas_xhci_c::making::made_of_disks 𝓡.env wired)) name (code.unfolded 𝓤 𝓛.H 𝓜 𝓡 wired)
