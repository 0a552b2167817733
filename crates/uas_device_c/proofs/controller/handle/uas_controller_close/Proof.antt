-- The end of the controller is the end of a handle: what lies at the pointer is moved out, and given to `release`.
use Rattle.std.proofs.Common.{refl}
use Rattle.c_common.proofs.Closed.{meets}
use Rattle.uas_device_c.specs.contracts.controller.KeptMachine.{the_row as machine_row}
use Rattle.uas_device_c.proofs.controller.KeptMachine.TheLaws.{the_field_loose}
use Rattle.uas_device_c.proofs.controller.handle.release.Symbol.{name as #release}
use Rattle.uas_device_c.proofs.controller.handle.release.Met.{met}
use Rattle.uas_device_c.specs.contracts.controller.handle.uas_controller_close.Key.{name}
use Rattle.uas_device_c.proofs.controller.handle.uas_controller_close.Statement.{statement}
use Rattle.uas_device_c.proofs.controller.handle.uas_controller_close.Code as code

pub uas_controller_close_spec : {M : Type 1} → statement M
uas_controller_close_spec 𝓤 𝓛 𝓜 𝓡 wired =
    meets machine_row refl #release 𝓤 𝓛 𝓜 𝓡 (the_field_loose.lawful 𝓛) name (code.unfolded 𝓤 𝓛.H 𝓜 𝓡 wired)
    (met 𝓤 𝓛 𝓜 𝓡 (code.calls-uas_device_c::controller::handle::release 𝓡.env wired))
