-- The tag and the ticket that a reply names.
use Rattle.std.specs.Prelude.{ℕ}
use Rattle.scsi_cmd.specs.declared.Reply.{Reply}
use Rattle.scsi_cmd.specs.declared.Reply.TheVariants.{Status, Aborted, Task}

abbrev pub reply_tag : Reply → ℕ
reply_tag (Status tag ticket status sense buffer) = tag
reply_tag (Aborted tag ticket buffer) = tag
reply_tag (Task tag ticket code) = tag

abbrev pub reply_ticket : Reply → ℕ
reply_ticket (Status tag ticket status sense buffer) = ticket
reply_ticket (Aborted tag ticket buffer) = ticket
reply_ticket (Task tag ticket code) = ticket
