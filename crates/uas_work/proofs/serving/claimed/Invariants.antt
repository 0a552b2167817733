use Rattle.std.proofs.Common.{◌≡◌}
use Rattle.tag_desk.specs.Seats.{IsPumpOf}
use Rattle.uas_work.specs.Held.{ServesClient}
use Rattle.uas_work.specs.Pumps.{passed}
use Rattle.uas_work.proofs.serving.claimed.Given as goal

abbrev pub invariant-loop-slot : goal.invariant-loop-slot
invariant-loop-slot l = record {
  same : l.seat ≡ passed l.desk l.client l.ticket l.slot (record { seat = l.fn.seat; held = l.held });
  own : IsPumpOf l.desk l.seat;
  serves : ServesClient l.desk l.seat l.client;
}
