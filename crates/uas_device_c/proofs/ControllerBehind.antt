-- What lies behind the handle of a controller.
use Rattle.std.proofs.Common.{[], ◌∷◌, refl}
use mir.Syntax.{dnil, impl, tnil}
use Rattle.c_common.proofs.Behind.{Behind, behind, known}
use Rattle.uas_device_c.specs.contracts.controller.KeptMachine.{the_row}
use Rattle.uas_device_c.proofs.controller.KeptMachine.TheLaws as laws
use Rattle.uas_device_c.specs.contracts.controller.handle.UasController.{the_row as name_row}
use Rattle.uas_device_c.proofs.controller.handle.UasController.TheLaws as name_laws
use Rattle.uas_device_c.specs.contracts.controller.KeptMachineOfUnits.TheImpl as of_units

abbrev pub controller : Behind
controller =
    behind (known the_row laws.the_row_laws refl laws.the_within) (known name_row name_laws.the_row_laws refl name_laws.the_within)
    of_units.ghosts of_units.dict (impl ("uas_device_c::uas_device_c++controller++KeptMachine+Destruct::drop" ∷ []) tnil dnil)
