-- A call of the controller is a call of a handle: what lies at the three pointers is lent to `serve`.
use Rattle.c_common.proofs.Called.{meets}
use Rattle.uas_device_c.specs.ControllerCall.{controller_answer}
use Rattle.uas_device_c.specs.contracts.controller.KeptMachine.{the_row as machine_row}
use Rattle.uas_device_c.specs.contracts.controller.door.UasControllerDoor.{the_row as door_row}
use Rattle.uas_device_c.proofs.controller.serve.Symbol.{name as #serve}
use Rattle.uas_device_c.proofs.controller.serve.Met.{met}
use Rattle.uas_device_c.specs.contracts.controller.handle.uas_controller_call.Key.{name}
use Rattle.uas_device_c.proofs.controller.handle.uas_controller_call.Statement.{statement}
use Rattle.uas_device_c.proofs.controller.handle.uas_controller_call.Code as code

pub uas_controller_call_spec : {M : Type 1} → statement M
uas_controller_call_spec 𝓤 𝓛 𝓜 𝓡 wired =
    meets machine_row door_row #serve controller_answer 𝓤 𝓛 𝓜 𝓡 name (code.unfolded 𝓤 𝓛.H 𝓜 𝓡 wired)
    (met 𝓤 𝓛 𝓜 𝓡 (code.calls-uas_device_c::controller::serve 𝓡.env wired))
