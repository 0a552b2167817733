use Rattle.std.specs.Prelude.{◌≡◌, ◌+◌}
use Rattle.uas_work.specs.Parts.{IsClientPart}
use Rattle.uas_work.proofs.parts.ClientPart.posted_all.Given as goal

abbrev pub invariant-loop-posted : goal.invariant-loop-posted
invariant-loop-posted g l =
    IsClientPart l.shared.desk l.shared.board l.self
    × (l.self.client ≡ l.fn.self.client)
    × (l.self.replies ≡ l.fn.self.replies)
    × (l.self.tags.held.next ≡ l.fn.self.tags.held.next + l.posted)
