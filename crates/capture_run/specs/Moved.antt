-- The bytes that the commands of a run move, by client and ticket: those that a step hands in, and those that come back with its reply.
use Rattle.std.specs.Prelude.{ℕ, List, [], Option, Some, None}
use Rattle.shared_machine.specs.declared.Step.{Step}
use Rattle.shared_machine.specs.declared.Step.TheVariants as steps
use Rattle.scsi_cmd.specs.declared.Reply.{Reply}
use Rattle.scsi_cmd.specs.declared.Reply.TheVariants as replies
use Rattle.capture_run.specs.urbs.Records.{pushed, with_bytes}

-- with what a step hands in: the bytes of a command, none of a task management
abbrev pub with_handed : List (List (List ℕ)) → Step → List (List (List ℕ))
with_handed transfers (steps.Submit client tag ticket command) = pushed transfers client command.buffer
with_handed transfers (steps.Task client ticket task) = pushed transfers client []
with_handed transfers steps.CommandPipe = transfers
with_handed transfers (steps.Data tag) = transfers
with_handed transfers (steps.Status tag) = transfers
with_handed transfers steps.Engine = transfers
with_handed transfers steps.Event = transfers
with_handed transfers (steps.Retire pipe tag) = transfers
with_handed transfers (steps.Take client) = transfers

-- with what comes back with a reply that a client takes: the bytes of a command, also of one that was aborted
abbrev pub with_reply : List (List (List ℕ)) → ℕ → Option Reply → List (List (List ℕ))
with_reply transfers client None = transfers
with_reply transfers client (Some (replies.Status tag ticket status sense buffer)) = with_bytes transfers client ticket buffer
with_reply transfers client (Some (replies.Aborted tag ticket buffer)) = with_bytes transfers client ticket buffer
with_reply transfers client (Some (replies.Task tag ticket code)) = transfers

-- the client that takes a reply by a step
abbrev pub taker : Step → ℕ
taker (steps.Submit client tag ticket command) = 0
taker (steps.Task client ticket task) = 0
taker steps.CommandPipe = 0
taker (steps.Data tag) = 0
taker (steps.Status tag) = 0
taker steps.Engine = 0
taker steps.Event = 0
taker (steps.Retire pipe tag) = 0
taker (steps.Take client) = client
