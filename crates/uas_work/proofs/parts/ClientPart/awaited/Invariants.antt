use Rattle.std.specs.Prelude.{◌≡◌}
use Rattle.tag_desk.specs.Seats.{IsTagOf}
use Rattle.uas_work.specs.Batches.{LookedInVain}
use Rattle.uas_work.specs.Parts.{IsClientPart}
use Rattle.uas_work.proofs.parts.ClientPart.awaited.Given as goal

abbrev pub invariant-loop : goal.invariant-loop
invariant-loop g l =
    (goal.iterator-loop g).can_next l.iterator' × (goal.iterator-loop g).is_finite l.iterator'
    × IsClientPart l.shared.desk l.shared.board l.self
    × (l.self.client ≡ l.fn.self.client)
    × (l.self.replies ≡ l.fn.self.replies)
    × IsTagOf l.self.seat.tags l.self.seat.client l.tag
    × (l.self.tags ≡ l.fn.self.tags)
    × LookedInVain l.tag l.fn.self.seat l.self.seat
