-- What a reply brings beside its numbers.
use Rattle.std.specs.Prelude.{ℕ, List, []}
use Rattle.scsi_cmd.specs.declared.Reply.{Reply}
use Rattle.scsi_cmd.specs.declared.Reply.TheVariants.{Status, Aborted, Task}

-- the bytes that a reply brings; a task management's brings none
abbrev pub brought_bytes : Reply → List ℕ
brought_bytes (Status tag ticket status sense buffer) = buffer
brought_bytes (Aborted tag ticket buffer) = buffer
brought_bytes (Task tag ticket code) = []
