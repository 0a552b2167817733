use Rattle.std.specs.Prelude.{◌≡◌, ◌+◌, ◌-◌, ◌≤◌, vec_len, vec_capacity}
use Rattle.uas_work.specs.Parts.{IsClientPart}
use Rattle.uas_work.proofs.parts.ClientPart.took_rounds.Given as goal

-- a reply a ticket at most, and room for those of all tickets
abbrev pub invariant-loop-next : goal.invariant-loop-next
invariant-loop-next g l =
    IsClientPart l.shared.desk l.shared.board l.self
    × (l.self.client ≡ l.fn.self.client)
    × (vec_len l.self.replies ≡ l.next)
    × (l.all ≤ vec_capacity l.self.replies)
    × (l.next ≤ l.all)
    × (l.self.tags.held.next ≡ l.fn.self.tags.held.next + l.next)

abbrev pub decreases-loop-next : goal.decreases-loop-next
decreases-loop-next g l = l.all - l.next
