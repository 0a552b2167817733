-- The making of a controller of zeros is the making of a handle of it.
use Rattle.std.proofs.Common.{refl}
use mir.Syntax.{method, no_args}
use Rattle.c_common.proofs.NewExport.{exported}
use Rattle.uas_device_c.proofs.ControllerBehind.{controller}
use Rattle.uas_device_c.proofs.controller.KeptMachineOfUnits.TheImpl.Met as of_units
use Rattle.uas_device_c.proofs.uas_device_c++controller++KeptMachine+Destruct.drop.Symbol as dropped
use Rattle.uas_device_c.proofs.uas_device_c++controller++KeptMachine+Destruct.drop.Met.{met}
use Rattle.uas_device_c.specs.contracts.controller.handle.uas_controller_new.Key.{name}
use Rattle.uas_device_c.proofs.controller.handle.uas_controller_new.Statement.{statement}
use Rattle.uas_device_c.proofs.controller.handle.uas_controller_new.Code as code

pub uas_controller_new_spec : {M : Type 1} → statement M
uas_controller_new_spec 𝓤 𝓛 𝓜 𝓡 wired =
    let drops = code.calls-uas_device_c::uas_device_c++controller++KeptMachine+Destruct::drop 𝓡.env wired in
    exported controller 𝓤 𝓛 𝓜 𝓡 (code.calls-c_common::new_handle 𝓡.env wired) (of_units.passed 𝓡.env (code.calls-uas_device_c::controller::KeptMachineOfUnits::of_units 𝓡.env wired) _ 𝓤 𝓛 𝓜 𝓡)
    dropped.name (dropped.as_method 𝓡.env drops (method (controller).drop 0 no_args) refl) (met 𝓤 𝓛 𝓜 𝓡 drops) name (code.unfolded 𝓤 𝓛.H 𝓜 𝓡 wired)
