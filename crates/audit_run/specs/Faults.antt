-- The exit status of each fault, and its line.
use Rattle.std.specs.Prelude.{ℕ, List, codes}
use Rattle.log_text.specs.declared.LogFault.TheVariants as text
use Rattle.log_text.specs.declared.MigrateFault.TheVariants as old
use Rattle.audit_run.specs.declared.replay.ReplayFault.TheVariants as replay
use Rattle.kept_log.specs.declared.KeptFault.TheVariants as kept
use Rattle.audit_run.specs.declared.AuditFault.{AuditFault}
use Rattle.audit_run.specs.declared.AuditFault.TheVariants.{File, TooLarge, Text, Kept, Old, OtherHead, Replay, Output, NoMemory}

-- want of memory is 4, and every other fault 3
abbrev pub status_of : AuditFault → ℕ
status_of File = 3
status_of TooLarge = 3
status_of (Text text.BadHeader) = 3
status_of (Text text.Truncated) = 3
status_of (Text text.BadField) = 3
status_of (Text text.TrailingBytes) = 3
status_of (Text text.NoMemory) = 4
status_of (Kept (kept.Head text.BadHeader)) = 3
status_of (Kept (kept.Head text.Truncated)) = 3
status_of (Kept (kept.Head text.BadField)) = 3
status_of (Kept (kept.Head text.TrailingBytes)) = 3
status_of (Kept (kept.Head text.NoMemory)) = 4
status_of (Kept kept.HeadSum) = 3
status_of (Kept (kept.WrongRecord at)) = 3
status_of (Kept (kept.BadBody at)) = 3
status_of (Kept (kept.TooMany at)) = 3
status_of (Kept (kept.WrongCount at)) = 3
status_of (Kept (kept.BehindEnd at)) = 3
status_of (Kept kept.NoMemory) = 4
status_of (Old old.TooManyClients) = 3
status_of (Old old.NoMemory) = 4
status_of OtherHead = 3
status_of (Replay (replay.NotDue number)) = 3
status_of (Replay (replay.Refused number)) = 3
status_of (Replay (replay.OtherReplies number)) = 3
status_of (Replay replay.NoMemory) = 4
status_of Output = 3
status_of NoMemory = 4

-- of a log, the fault's name
abbrev pub line_of : AuditFault → List ℕ
line_of File = codes "log: file"
line_of TooLarge = codes "log: too large"
line_of (Text text.BadHeader) = codes "log: BadHeader"
line_of (Text text.Truncated) = codes "log: Truncated"
line_of (Text text.BadField) = codes "log: BadField"
line_of (Text text.TrailingBytes) = codes "log: TrailingBytes"
line_of (Text text.NoMemory) = codes "no memory"
line_of (Kept (kept.Head text.BadHeader)) = codes "log: BadHeader"
line_of (Kept (kept.Head text.Truncated)) = codes "log: Truncated"
line_of (Kept (kept.Head text.BadField)) = codes "log: BadField"
line_of (Kept (kept.Head text.TrailingBytes)) = codes "log: TrailingBytes"
line_of (Kept (kept.Head text.NoMemory)) = codes "no memory"
line_of (Kept kept.HeadSum) = codes "log: HeadSum"
line_of (Kept (kept.WrongRecord at)) = codes "log: WrongRecord"
line_of (Kept (kept.BadBody at)) = codes "log: BadBody"
line_of (Kept (kept.TooMany at)) = codes "log: TooMany"
line_of (Kept (kept.WrongCount at)) = codes "log: WrongCount"
line_of (Kept (kept.BehindEnd at)) = codes "log: BehindEnd"
line_of (Kept kept.NoMemory) = codes "no memory"
line_of (Old old.TooManyClients) = codes "log: TooManyClients"
line_of (Old old.NoMemory) = codes "no memory"
line_of OtherHead = codes "log: OtherHead"
line_of (Replay (replay.NotDue number)) = codes "log: NotDue"
line_of (Replay (replay.Refused number)) = codes "log: Refused"
line_of (Replay (replay.OtherReplies number)) = codes "log: OtherReplies"
line_of (Replay replay.NoMemory) = codes "no memory"
line_of Output = codes "script: file"
line_of NoMemory = codes "no memory"
