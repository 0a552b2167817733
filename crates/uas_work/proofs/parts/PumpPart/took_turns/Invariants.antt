use Rattle.std.specs.Prelude.{◌≡◌}
use Rattle.uas_work.specs.Parts.{IsPumpPart}
use Rattle.uas_work.proofs.parts.PumpPart.took_turns.Given as goal

abbrev pub invariant-loop : goal.invariant-loop
invariant-loop g l = (goal.iterator-loop g).can_next l.iterator' × (goal.iterator-loop g).is_finite l.iterator' × IsPumpPart l.shared.desk l.shared.board l.self × (l.self.pump ≡ l.fn.self.pump)
