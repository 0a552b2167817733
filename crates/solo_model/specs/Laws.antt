-- What users of the definitions know without opening them.
use Rattle.std.proofs.Common.{◌≡◌, ℕ, List, length, sym, subst}
use Rattle.scsi_cmd.specs.declared.Command.{Command}
use Rattle.scsi_cmd.specs.Op.{moved_bytes}
use Rattle.solo_model.specs.TaggedTask.{TaggedTask}
use Rattle.solo_model.specs.Soundness.{IsSound}
use Rattle.scsi_cmd.specs.declared.Task.{Task}
use Rattle.solo_model.specs.TaggedTask.{queued, queued_management}

-- a task that brings its bytes is sound as it is submitted
pub IsSound-queued : (blocks ticket : ℕ) (command : Command) (task : TaggedTask) → task ≡ queued ticket command →
    length command.buffer ≡ moved_bytes command.op → IsSound blocks task
IsSound-queued blocks ticket command task is whole =
    let P : TaggedTask → Type 0 = λ t. IsSound blocks t in
    subst P (sym is) (record { whole = whole; chunk = tt })

-- and so is a task management, which brings none
pub IsSound-management : (blocks ticket : ℕ) (what : Task) (noted : List ℕ) (task : TaggedTask) →
    task ≡ queued_management ticket what noted → IsSound blocks task
IsSound-management blocks ticket what noted task is =
    let P : TaggedTask → Type 0 = λ t. IsSound blocks t in
    subst P (sym is) tt
