use Rattle.std.proofs.Common.{◌≡◌, ◌-◌}
use Rattle.device_bytes.specs.Devices.{places_loaded, tag_loaded, tags_loaded}
use Rattle.device_bytes.proofs.tags.load_tags.Given as goal

-- what is left to be loaded makes of what was what all makes
abbrev pub invariant-loop-at : goal.invariant-loop-at
invariant-loop-at l = places_loaded tag_loaded (240 - l.at) l.at l.tasks l.reader ≡ tags_loaded l.fn.tasks l.fn.reader
