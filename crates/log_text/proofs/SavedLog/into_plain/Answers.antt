use Rattle.std.proofs.Common.{ℕ, subst, sym}
use Rattle.log_text.specs.Plain.{IsPlain}
use Rattle.log_text.proofs.Plain.{saved_plain}
use Rattle.log_text.proofs.SavedLog.into_plain.Goals as goal

pub from_parts-requires : goal.from_parts-requires
from_parts-requires c =
    let inside = c.self.inside in
    subst (λ (n : ℕ). IsPlain (record { tags = n; units = inside.units; steps = inside.steps; replies = inside.replies })) (sym c.tags.ensures)
    (saved_plain (record { version = inside.version; units = inside.units; steps = inside.steps; replies = inside.replies }) c.self.invariant)
