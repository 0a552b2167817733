-- The making of a device of logical units that say what there is to tell is the making of a handle of them: `made` makes it, and it is handed out.
use Rattle.std.proofs.Common.{◌≡◌, [], ◌∷◌, refl}
use mir.Syntax.{Dict, dnil, impl, method, no_args, tnil}
use Rattle.c_common.proofs.Behind.{known}
use Rattle.c_tasks.proofs.MadeExport.{exported, of_disks}
use Rattle.c_tasks.specs.Disks.{made_of_disks}
use Rattle.uas_tasks_c.specs.contracts.door.KeptTasks.{the_row}
use Rattle.uas_tasks_c.proofs.door.KeptTasks.TheLaws as laws
use Rattle.uas_tasks_c.specs.contracts.making.UasTasks.{the_row as name_row}
use Rattle.uas_tasks_c.proofs.making.UasTasks.TheLaws as name_laws
use Rattle.uas_tasks_c.proofs.uas_tasks_c++door++KeptTasks+Destruct.drop.Symbol as dropped
use Rattle.uas_tasks_c.proofs.uas_tasks_c++door++KeptTasks+Destruct.drop.Met.{met}
use Rattle.uas_tasks_c.proofs.making.made_of_disks.Symbol.{name as #made}
use Rattle.uas_tasks_c.proofs.making.made_of_disks.Met.{met as made_met}
use Rattle.uas_tasks_c.specs.contracts.making.uas_tasks_new_disks.Key.{name}
use Rattle.uas_tasks_c.proofs.making.uas_tasks_new_disks.Statement.{statement}
use Rattle.uas_tasks_c.proofs.making.uas_tasks_new_disks.Code as code

pub uas_tasks_new_disks_spec : {M : Type 1} → statement M
uas_tasks_new_disks_spec 𝓤 𝓛 𝓜 𝓡 wired =
    let drops : Dict = impl ("uas_tasks_c::uas_tasks_c++door++KeptTasks+Destruct::drop" ∷ []) tnil dnil in
    let drop = code.calls-uas_tasks_c::uas_tasks_c++door++KeptTasks+Destruct::drop 𝓡.env wired in
    exported of_disks (known the_row laws.the_row_laws refl laws.the_within) (known name_row name_laws.the_row_laws refl name_laws.the_within)
    (λ units set most chunk made. made ≡ made_of_disks units set most chunk) drops 𝓤 𝓛 𝓜 𝓡 (code.calls-c_common::hand_out_made 𝓡.env wired)
    dropped.name (dropped.as_method 𝓡.env drop (method drops 0 no_args) refl) (met 𝓤 𝓛 𝓜 𝓡 drop)
    #made (made_met 𝓤 𝓛 𝓜 𝓡 (code.calls-uas_tasks_c::making::made_of_disks 𝓡.env wired)) name (code.unfolded 𝓤 𝓛.H 𝓜 𝓡 wired)
