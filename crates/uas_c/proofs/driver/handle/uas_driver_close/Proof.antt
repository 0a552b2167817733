-- The end of the driver is the end of a handle: what lies at the pointer is moved out, and given to `release`.
use Rattle.std.proofs.Common.{refl}
use Rattle.c_common.proofs.Closed.{meets}
use Rattle.uas_c.specs.contracts.driver.KeptDriver.{the_row as driver_row}
use Rattle.uas_c.proofs.driver.KeptDriver.TheLaws.{the_field_loose}
use Rattle.uas_c.proofs.driver.handle.release.Symbol.{name as #release}
use Rattle.uas_c.proofs.driver.handle.release.Met.{met}
use Rattle.uas_c.specs.contracts.driver.handle.uas_driver_close.Key.{name}
use Rattle.uas_c.proofs.driver.handle.uas_driver_close.Statement.{statement}
use Rattle.uas_c.proofs.driver.handle.uas_driver_close.Code as code

pub uas_driver_close_spec : {M : Type 1} → statement M
uas_driver_close_spec 𝓤 𝓛 𝓜 𝓡 wired =
    meets driver_row refl #release 𝓤 𝓛 𝓜 𝓡 (the_field_loose.lawful 𝓛) name (code.unfolded 𝓤 𝓛.H 𝓜 𝓡 wired)
    (met 𝓤 𝓛 𝓜 𝓡 (code.calls-uas_c::driver::handle::release 𝓡.env wired))
