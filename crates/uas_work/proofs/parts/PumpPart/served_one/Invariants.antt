use Rattle.std.specs.Prelude.{◌≡◌}
use Rattle.uas_work.specs.Held.{ServesClient}
use Rattle.uas_work.specs.Parts.{IsPumpPart}
use Rattle.uas_work.proofs.parts.PumpPart.served_one.Given as goal

abbrev pub invariant-loop : goal.invariant-loop
invariant-loop g l = IsPumpPart l.shared.desk l.shared.board l.self × (l.self.pump ≡ l.fn.self.pump) × ServesClient l.shared.desk l.self.seat l.client
