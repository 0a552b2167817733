use Rattle.tag_desk.specs.Seats.{IsPumpOf}
use Rattle.uas_work.specs.Held.{AreHeldBy}
use Rattle.uas_work.proofs.Holding.{Below}
use Rattle.uas_work.proofs.Held.give_back.Given as goal

abbrev pub invariant-loop-place : goal.invariant-loop-place
invariant-loop-place l = record {
  own : IsPumpOf l.desk l.seat;
  held : AreHeldBy l.desk l.seat l.self;
  below : Below l.fn.seat l.fn.self l.place l.seat l.self;
}
