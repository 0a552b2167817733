use Rattle.std.proofs.Common.{◌≡◌, ◌-◌, length}
use Rattle.device_bytes.specs.Devices.{attention_loaded, attentions_loaded, places_loaded}
use Rattle.device_bytes.proofs.tags.load_attentions.Given as goal

-- what is left to be loaded makes of what was what all makes
abbrev pub invariant-loop-at : goal.invariant-loop-at
invariant-loop-at l = places_loaded attention_loaded (length l.fn.tasks.units - l.at) l.at l.tasks l.reader ≡ attentions_loaded l.fn.tasks l.fn.reader
