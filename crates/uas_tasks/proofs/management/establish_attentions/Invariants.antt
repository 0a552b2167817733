use Rattle.std.proofs.Common.{◌≡◌, ◌++◌, map, take, drop}
use Rattle.uas_tasks.specs.Machine.{attentive}
use Rattle.uas_tasks.proofs.management.establish_attentions.Given as goal

-- the logical units so far have an attention, and the others are as they were
abbrev pub invariant-loop-unit : goal.invariant-loop-unit
invariant-loop-unit l = l.units ≡ map attentive (take l.unit-index l.initial.units) ++ drop l.unit-index l.initial.units
