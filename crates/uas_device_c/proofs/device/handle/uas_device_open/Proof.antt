-- The making of a device of an image is the making of a handle of it.
use Rattle.std.proofs.Common.{refl}
use mir.Syntax.{method, no_args}
use Rattle.c_common.proofs.OpenExport.{exported}
use Rattle.uas_device_c.proofs.DeviceBehind.{device}
use Rattle.uas_device_c.proofs.device.KeptDeviceOfUnits.TheImpl.Met as of_units
use Rattle.uas_device_c.proofs.uas_device_c++device++KeptDevice+Destruct.drop.Symbol as dropped
use Rattle.uas_device_c.proofs.uas_device_c++device++KeptDevice+Destruct.drop.Met.{met}
use Rattle.uas_device_c.specs.contracts.device.handle.uas_device_open.Key.{name}
use Rattle.uas_device_c.proofs.device.handle.uas_device_open.Statement.{statement}
use Rattle.uas_device_c.proofs.device.handle.uas_device_open.Code as code

pub uas_device_open_spec : {M : Type 1} → statement M
uas_device_open_spec 𝓤 𝓛 𝓜 𝓡 wired =
    let drops = code.calls-uas_device_c::uas_device_c++device++KeptDevice+Destruct::drop 𝓡.env wired in
    exported device 𝓤 𝓛 𝓜 𝓡 (code.calls-c_common::open_handle 𝓡.env wired) (of_units.passed 𝓡.env (code.calls-uas_device_c::device::KeptDeviceOfUnits::of_units 𝓡.env wired) _ 𝓤 𝓛 𝓜 𝓡)
    dropped.name (dropped.as_method 𝓡.env drops (method (device).drop 0 no_args) refl) (met 𝓤 𝓛 𝓜 𝓡 drops) name (code.unfolded 𝓤 𝓛.H 𝓜 𝓡 wired)
