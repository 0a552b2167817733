use Rattle.std.proofs.Common.{◌≡◌, map, take}
use Rattle.uas_log.specs.Booking.{first_maps}
use Rattle.audit_run.proofs.replay.units.made_units.Given as goal

abbrev pub invariant-loop-first : goal.invariant-loop-first
invariant-loop-first l = l.units.items ≡ map first_maps (take l.first-index l.firsts)
