use Rattle.std.specs.Prelude.{◌≡◌}
use Rattle.uas_work.specs.Parts.{IsPumpPart}
use Rattle.uas_work.proofs.parts.PumpPart.took_round.Given as goal

abbrev pub invariant-loop-client : goal.invariant-loop-client
invariant-loop-client g l = IsPumpPart l.shared.desk l.shared.board l.self × (l.self.pump ≡ l.fn.self.pump)
