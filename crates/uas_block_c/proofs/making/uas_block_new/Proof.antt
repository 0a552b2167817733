-- The making of a driver is the making of a handle of options: `made` makes it, and it is handed out.
use Rattle.std.proofs.Common.{[], ◌∷◌, refl}
use mir.Syntax.{Dict, dnil, impl, method, no_args, tnil}
use Rattle.c_common.proofs.Behind.{known}
use Rattle.uas_block_c.proofs.Handing.{Asked, exported}
use Rattle.uas_block_c.specs.Made.{IsMade, making_fault}
use Rattle.uas_block_c.specs.contracts.options.UasBlockOptions.{the_row as options_row}
use Rattle.uas_block_c.specs.contracts.door.KeptBlock.{the_row}
use Rattle.uas_block_c.proofs.door.KeptBlock.TheLaws as laws
use Rattle.uas_block_c.specs.contracts.making.UasBlock.{the_row as name_row}
use Rattle.uas_block_c.proofs.making.UasBlock.TheLaws as name_laws
use Rattle.uas_block_c.proofs.uas_block_c++door++KeptBlock+Destruct.drop.Symbol as dropped
use Rattle.uas_block_c.proofs.uas_block_c++door++KeptBlock+Destruct.drop.Met.{met}
use Rattle.uas_block_c.proofs.making.made.Symbol.{name as #made}
use Rattle.uas_block_c.proofs.making.made.Met.{met as made_met}
use Rattle.uas_block_c.specs.contracts.making.uas_block_new.Key.{name}
use Rattle.uas_block_c.proofs.making.uas_block_new.Statement.{statement}
use Rattle.uas_block_c.proofs.making.uas_block_new.Code as code

abbrev options : Asked
options = record { row = options_row; one = tt; fault = making_fault }

pub uas_block_new_spec : {M : Type 1} → statement M
uas_block_new_spec 𝓤 𝓛 𝓜 𝓡 wired =
    let drops : Dict = impl ("uas_block_c::uas_block_c++door++KeptBlock+Destruct::drop" ∷ []) tnil dnil in
    let drop = code.calls-uas_block_c::uas_block_c++door++KeptBlock+Destruct::drop 𝓡.env wired in
    exported options (known the_row laws.the_row_laws refl laws.the_within) (known name_row name_laws.the_row_laws refl name_laws.the_within)
    IsMade drops 𝓤 𝓛 𝓜 𝓡 (code.calls-c_common::hand_out_made 𝓡.env wired)
    dropped.name (dropped.as_method 𝓡.env drop (method drops 0 no_args) refl) (met 𝓤 𝓛 𝓜 𝓡 drop)
    #made (made_met 𝓤 𝓛 𝓜 𝓡 (code.calls-uas_block_c::making::made 𝓡.env wired)) name (code.unfolded 𝓤 𝓛.H 𝓜 𝓡 wired)
