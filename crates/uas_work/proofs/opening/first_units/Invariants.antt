use Rattle.std.proofs.Common.{◌≡◌, map, take}
use Rattle.uas_log.specs.Booking.{first_maps}
use Rattle.uas_work.specs.Booked.{first_unit}
use Rattle.uas_work.proofs.opening.first_units.Given as goal

abbrev pub invariant-loop-unit : goal.invariant-loop-unit
invariant-loop-unit l =
    (l.firsts.items ≡ map first_unit (take l.unit-index l.units)) × (map first_maps l.firsts.items ≡ take l.unit-index l.units)
