-- The end of the bus is the end of a handle: what lies at the pointer is moved out, and given to `release`.
use Rattle.std.proofs.Common.{refl}
use Rattle.c_common.proofs.Closed.{meets}
use Rattle.uas_c.specs.contracts.bus.KeptBus.{the_row as bus_row}
use Rattle.uas_c.proofs.bus.KeptBus.TheLaws.{the_field_loose}
use Rattle.uas_c.proofs.bus.handle.release.Symbol.{name as #release}
use Rattle.uas_c.proofs.bus.handle.release.Met.{met}
use Rattle.uas_c.specs.contracts.bus.handle.uas_bus_close.Key.{name}
use Rattle.uas_c.proofs.bus.handle.uas_bus_close.Statement.{statement}
use Rattle.uas_c.proofs.bus.handle.uas_bus_close.Code as code

pub uas_bus_close_spec : {M : Type 1} → statement M
uas_bus_close_spec 𝓤 𝓛 𝓜 𝓡 wired =
    meets bus_row refl #release 𝓤 𝓛 𝓜 𝓡 (the_field_loose.lawful 𝓛) name (code.unfolded 𝓤 𝓛.H 𝓜 𝓡 wired)
    (met 𝓤 𝓛 𝓜 𝓡 (code.calls-uas_c::bus::handle::release 𝓡.env wired))
