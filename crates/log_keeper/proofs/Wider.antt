-- What fits a log of some clients fits the writers of records, which take as many as any log has.
use Rattle.std.proofs.Common.{ℕ, ◌≤◌, [], ◌∷◌}
use Rattle.shared_machine.specs.declared.Step.{Step}
use Rattle.log_text.specs.declared.SavedReply.{SavedReply}
use Rattle.log_text.specs.declared.Version.TheVariants.{Second}
use Rattle.log_text.specs.Text.{ReplyFits, StepFits}
use Rattle.log_text.proofs.Keeping.{replies_wider, steps_wider}

pub step_fits_more : (clients : ℕ) (step : Step) → clients ≤ 31 → StepFits Second clients step → StepFits Second 31 step
step_fits_more clients step few fits = (steps_wider Second clients 31 (step ∷ []) few (fits, tt)).0

pub reply_fits_more : (clients : ℕ) (saved : SavedReply) → clients ≤ 31 → ReplyFits clients saved → ReplyFits 31 saved
reply_fits_more clients saved few fits = (replies_wider clients 31 (saved ∷ []) few (fits, tt)).0
