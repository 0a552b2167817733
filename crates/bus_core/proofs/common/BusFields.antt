-- The fields of a bus as a world of rings. Cited by the answers of the bus's functions.
use Rattle.std.proofs.Common.{◌≡◌, subst}
use Rattle.bus_core.specs.declared.RingBus.TheInside.{Inside}
use Rattle.bus_core.specs.World.{World, world_of}
use Rattle.bus_core.specs.Fits.{Fits}
use Rattle.bus_core.specs.Decoded.{decoded, FitsItself}

-- the world that the fields of a bus hold
abbrev pub world_in : Inside → World
world_in bus = world_of bus.host bus.controller bus.target bus.lines bus.frames

-- it fits what is read back from it, which is the bus to its callers
pub fits-in : {world : World} (bus : Inside) → world_in bus ≡ world → FitsItself (world_in bus) → Fits (decoded world) (world_in bus)
fits-in {world} bus is fits = subst (λ w. Fits (decoded w) (world_in bus)) is fits

pub fits-on : {world : World} (bus : Inside) → world_in bus ≡ world → FitsItself (world_in bus) → FitsItself world
fits-on {world} bus is fits = subst FitsItself is fits
