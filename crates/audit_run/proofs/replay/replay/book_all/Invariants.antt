use Rattle.std.proofs.Common.{◌≡◌, drop, take}
use Rattle.audit_run.specs.replay.Replaying.{first_fault}
use Rattle.audit_run.proofs.replay.replay.book_all.Given as goal

abbrev pub invariant-loop-at : goal.invariant-loop-at
invariant-loop-at l = record {
  tags : l.booked.log.tags ≡ l.fn.booked.log.tags;
  units : l.booked.log.units ≡ l.fn.booked.log.units;
  steps : l.booked.log.steps ≡ take l.at l.steps;
  limit : l.booked.limit ≡ l.fn.booked.limit;
  fault : first_fault 0 l.fn.booked.bus l.steps ≡ first_fault l.at l.booked.bus (drop l.at l.steps);
}
