-- A call of the driver is a call of a handle: what lies at the three pointers is lent to `serve`.
use Rattle.c_common.proofs.Called.{meets}
use Rattle.uas_c.specs.DriverCall.{driver_answer}
use Rattle.uas_c.specs.contracts.driver.KeptDriver.{the_row as driver_row}
use Rattle.uas_c.specs.contracts.driver.door.UasDriverDoor.{the_row as door_row}
use Rattle.uas_c.proofs.driver.serve.Symbol.{name as #serve}
use Rattle.uas_c.proofs.driver.serve.Met.{met}
use Rattle.uas_c.specs.contracts.driver.handle.uas_driver_call.Key.{name}
use Rattle.uas_c.proofs.driver.handle.uas_driver_call.Statement.{statement}
use Rattle.uas_c.proofs.driver.handle.uas_driver_call.Code as code

pub uas_driver_call_spec : {M : Type 1} → statement M
uas_driver_call_spec 𝓤 𝓛 𝓜 𝓡 wired =
    meets driver_row door_row #serve driver_answer 𝓤 𝓛 𝓜 𝓡 name (code.unfolded 𝓤 𝓛.H 𝓜 𝓡 wired)
    (met 𝓤 𝓛 𝓜 𝓡 (code.calls-uas_c::driver::serve 𝓡.env wired))
