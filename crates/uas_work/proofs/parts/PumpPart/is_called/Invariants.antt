use Rattle.std.specs.Prelude.{◌≡◌}
use Rattle.uas_work.specs.Parts.{IsPumpPart}
use Rattle.uas_work.proofs.parts.PumpPart.is_called.Given as goal

abbrev pub invariant-loop-word : goal.invariant-loop-word
invariant-loop-word l = IsPumpPart l.shared.desk l.shared.board l.self × (l.self.pump ≡ l.fn.self.pump)
