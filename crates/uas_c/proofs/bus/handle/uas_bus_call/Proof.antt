-- A call of the bus is a call of a handle: what lies at the three pointers is lent to `serve`.
use Rattle.c_common.proofs.Called.{meets}
use Rattle.uas_c.specs.BusCall.{bus_answer}
use Rattle.uas_c.specs.contracts.bus.KeptBus.{the_row as bus_row}
use Rattle.uas_c.specs.contracts.bus.UasBusDoor.{the_row as door_row}
use Rattle.uas_c.proofs.bus.serve.Symbol.{name as #serve}
use Rattle.uas_c.proofs.bus.serve.Met.{met}
use Rattle.uas_c.specs.contracts.bus.handle.uas_bus_call.Key.{name}
use Rattle.uas_c.proofs.bus.handle.uas_bus_call.Statement.{statement}
use Rattle.uas_c.proofs.bus.handle.uas_bus_call.Code as code

pub uas_bus_call_spec : {M : Type 1} → statement M
uas_bus_call_spec 𝓤 𝓛 𝓜 𝓡 wired =
    meets bus_row door_row #serve bus_answer 𝓤 𝓛 𝓜 𝓡 name (code.unfolded 𝓤 𝓛.H 𝓜 𝓡 wired)
    (met 𝓤 𝓛 𝓜 𝓡 (code.calls-uas_c::bus::serve 𝓡.env wired))
