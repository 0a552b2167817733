-- A client begins without a task.
use Rattle.std.proofs.Common.{ℕ, zero, suc, Option, None, replicate}
use Rattle.std.proofs.lemmas.List.{length-replicate}
use Rattle.uas_profile.specs.declared.TheConstants.{MOST_TAGS}
use Rattle.uas_profile.specs.Tags.{AreTags}
use Rattle.scsi_cmd.specs.Held.{AllHeld}
use Rattle.solo_model.specs.Soundness.{IsSound, IsSoundSolo}
use Rattle.solo_model.specs.TaggedTask.{TaggedTask}

AllHeld-none : {T : Type 0} → (P : T → Type 0) (n : ℕ) → AllHeld P (replicate n None)
AllHeld-none P zero = tt
AllHeld-none P (suc n) = (tt, AllHeld-none P n)

pub no_tasks-sound : (tags count : ℕ) → AreTags tags → IsSoundSolo tags count (replicate MOST_TAGS None)
no_tasks-sound tags count are =
    record { number = are; places = length-replicate {A = Option TaggedTask} MOST_TAGS None; tasks = AllHeld-none (IsSound count) MOST_TAGS }
