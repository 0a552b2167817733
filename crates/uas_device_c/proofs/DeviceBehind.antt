-- What lies behind the handle of a device.
use Rattle.std.proofs.Common.{[], ◌∷◌, refl}
use mir.Syntax.{dnil, impl, tnil}
use Rattle.c_common.proofs.Behind.{Behind, behind, known}
use Rattle.uas_device_c.specs.contracts.device.KeptDevice.{the_row}
use Rattle.uas_device_c.proofs.device.KeptDevice.TheLaws as laws
use Rattle.uas_device_c.specs.contracts.device.handle.UasDevice.{the_row as name_row}
use Rattle.uas_device_c.proofs.device.handle.UasDevice.TheLaws as name_laws
use Rattle.uas_device_c.specs.contracts.device.KeptDeviceOfUnits.TheImpl as of_units

abbrev pub device : Behind
device =
    behind (known the_row laws.the_row_laws refl laws.the_within) (known name_row name_laws.the_row_laws refl name_laws.the_within)
    of_units.ghosts of_units.dict (impl ("uas_device_c::uas_device_c++device++KeptDevice+Destruct::drop" ∷ []) tnil dnil)
