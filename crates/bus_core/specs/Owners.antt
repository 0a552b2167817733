-- Whose a tag is, and the outcome of a reply.
use Rattle.std.specs.Prelude.{ℕ, suc, true, List, [], Option, None, Some, Result, Ok, Err}
use Rattle.scsi_cmd.specs.declared.Command.{Command}
use Rattle.scsi_cmd.specs.declared.SubmitFault.{SubmitFault}
use Rattle.scsi_cmd.specs.declared.Reply.{Reply}
use Rattle.scsi_cmd.specs.declared.Reply.TheVariants.{Status as StatusReply, Aborted, Task}
use Rattle.uas_profile.specs.Tags.{client_of, slot_of}
use Rattle.uas_profile.specs.declared.Pipe.{Pipe}
use Rattle.uas_profile.specs.declared.Pipe.TheVariants.{Command as CommandPipe, Status, DataIn, DataOut}
use Rattle.shared_machine.specs.declared.Mark.{Mark}
use Rattle.shared_machine.specs.declared.Mark.TheVariants.{Carry, Move, Send, Settle, Submit, Task as TaskMark, Quiet}
use Rattle.shared_machine.specs.declared.Outcome.{Outcome}
use Rattle.uas_host.specs.declared.Handled.{Handled}
use Rattle.uas_host.specs.declared.Handled.TheVariants.{Matched, Engine, Stray}
use Rattle.xhci_ctl.specs.declared.Acted.{Acted}
use Rattle.xhci_ctl.specs.declared.Acted.TheVariants.{Acted as ActedOn, Idle}
use Rattle.uas_host.specs.declared.Retirement.{Retirement}
use Rattle.shared_machine.specs.Shared.{acceptance, idle, refusal, ringing, task_refusal}
use Rattle.bus_core.specs.WorldDue.{marked}

-- The client whose tag it is, and the tag's index among that client's. Worked: of 16 tags, tag 34 is client 2's, its index is 2; of 8 it is
-- client 4's.
abbrev pub owner_of : ℕ → ℕ → ℕ
owner_of tags tag = client_of tags tag

abbrev pub index_of : ℕ → ℕ → ℕ
index_of tags tag = suc (slot_of tags tag)

-- what the controller acted on, by the mark of that step
abbrev pub acted_as : ℕ → (ℕ → Mark) → Acted → Outcome
acted_as tags mark (ActedOn tag) = marked (owner_of tags tag) (mark (index_of tags tag))
acted_as tags mark Idle = idle

-- what a step on a pipe is to the owner of the tag; those on the two data pipes are alike
abbrev pub mark_on : Pipe → ℕ → Mark
mark_on CommandPipe index = Carry index
mark_on Status index = Send index
mark_on DataIn index = Move index
mark_on DataOut index = Move index

-- a submission under a tag, by the host's answer and the doorbells that were rung
abbrev pub submitted_as : ℕ → ℕ → ℕ → List ℕ → Result (Unit {0}) (SubmitFault × Command) → Outcome
submitted_as tags client tag doors (Ok done) = acceptance client (Submit (index_of tags tag)) doors
submitted_as tags client tag doors (Err refused) = refusal client refused.0 refused.1

-- a task management, likewise
abbrev pub managed_as : ℕ → List ℕ → Result (Unit {0}) SubmitFault → Outcome
managed_as client doors (Ok done) = acceptance client TaskMark doors
managed_as client doors (Err fault) = task_refusal client fault

-- what the controller did of its own command ring is the retirement's
abbrev pub engine_of : Option Retirement → Outcome
engine_of None = idle
engine_of (Some retirement) = marked retirement.place.client Quiet

abbrev pub executed_as : Option Retirement → Acted → Outcome
executed_as retirement (ActedOn tag) = engine_of retirement
executed_as retirement Idle = idle

-- the event that the host took in, with the doorbells that it rang
abbrev pub retirement_seen : Option Retirement → List ℕ → Outcome
retirement_seen None doors = idle
retirement_seen (Some retirement) doors = ringing retirement.place.client doors

abbrev pub handled_as : ℕ → Option Retirement → List ℕ → Handled → Outcome
handled_as tags retirement doors (Matched tag) = ringing (owner_of tags tag) doors
handled_as tags retirement doors Engine = retirement_seen retirement doors
handled_as tags retirement doors Stray = idle

-- a reply settles the ticket under its tag
abbrev pub mark_by : ℕ → Reply → Mark
mark_by tags (StatusReply tag ticket status sense buffer) = Settle (index_of tags tag)
mark_by tags (Aborted tag ticket buffer) = Settle (index_of tags tag)
mark_by tags (Task tag ticket code) = Settle (index_of tags tag)

abbrev pub mark_of : ℕ → Option Reply → Mark
mark_of tags None = Quiet
mark_of tags (Some reply) = mark_by tags reply

-- a client took a reply, or none came
abbrev pub replying : ℕ → ℕ → Option Reply → Outcome
replying tags client reply =
    record { acted = true; owner = Some client; mark = mark_of tags reply; reply = reply; refused = None; doors = [] }

-- a client asked for the reply that was ready first: where there is none, nothing came of it
abbrev pub taken_as : ℕ → ℕ → Option Reply → Outcome
taken_as tags client None = idle
taken_as tags client (Some reply) = replying tags client (Some reply)
