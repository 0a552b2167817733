-- A call of the device is a call of a handle: what lies at the three pointers is lent to `serve`.
use Rattle.c_common.proofs.Called.{meets}
use Rattle.uas_device_c.specs.DeviceCall.{after_call}
use Rattle.uas_device_c.specs.contracts.device.UasDeviceDoor.{the_row as door_row}
use Rattle.uas_device_c.specs.contracts.device.KeptDevice.{the_row as device_row}
use Rattle.uas_device_c.proofs.device.serve.Symbol.{name as #serve}
use Rattle.uas_device_c.proofs.device.serve.Met.{met}
use Rattle.uas_device_c.specs.contracts.device.handle.uas_device_call.Key.{name}
use Rattle.uas_device_c.proofs.device.handle.uas_device_call.Statement.{statement}
use Rattle.uas_device_c.proofs.device.handle.uas_device_call.Code as code

pub uas_device_call_spec : {M : Type 1} → statement M
uas_device_call_spec 𝓤 𝓛 𝓜 𝓡 wired =
    meets device_row door_row #serve (λ r. after_call) 𝓤 𝓛 𝓜 𝓡 name (code.unfolded 𝓤 𝓛.H 𝓜 𝓡 wired)
    (met 𝓤 𝓛 𝓜 𝓡 (code.calls-uas_device_c::device::serve 𝓡.env wired))
