use Rattle.std.proofs.Common.{◌≡◌}
use Rattle.uas_driver.specs.Recovery.{first_lost, times}
use Rattle.uas_driver.proofs.Driver.lose_all.Given as goal

-- as many were lost as turns were made
abbrev pub invariant-loop : goal.invariant-loop
invariant-loop l = l.self ≡ times l.counter (first_lost l.pipe l.code) l.initial.self
