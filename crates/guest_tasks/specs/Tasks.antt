-- A device without blocks (uas_tasks), as the pipes see a device. A tag whose request is to be asked or is out does nothing, nor does
-- one that waits for a stale request.
use Rattle.std.specs.Prelude.{ℕ, zero, suc, min, ◌==◌, Bool, true, false, List, [], Option, Some, None, Result, Ok, Err}
use Rattle.uas_iu.specs.declared.Iu.{Iu}
use Rattle.uas_iu.specs.declared.Iu.TheVariants.{Command, Sense, Response as ResponseIu, Task}
use Rattle.uas_iu.specs.Units.{unit_text}
use Rattle.uas_target.specs.declared.Overlap.{Overlap as OverlapError}
use Rattle.uas_target.specs.declared.Took.{Took}
use Rattle.uas_target.specs.declared.Took.TheVariants.{Began as TookBegan, Dropped as TookDropped}
use Rattle.uas_target.specs.Fields.{tag_in}
use Rattle.uas_tasks.specs.declared.Wants.{Wants}
use Rattle.uas_tasks.specs.declared.Wants.TheVariants.{Absent as NoTask, Asks, Waits, Gives as WantsGive, Takes as WantsTake, Ends}
use Rattle.uas_tasks.specs.Machine.{Machine, answer_on, gave, given, received, took, wanted, without_task}
use Rattle.guest_tags.specs.declared.device.End.{End}
use Rattle.guest_tags.specs.declared.device.End.TheVariants.{Good, Check, Response}
use Rattle.guest_tags.specs.declared.device.Phase.{Phase}
use Rattle.guest_tags.specs.declared.device.Phase.TheVariants.{Absent, Gives, Takes, Ended}
use Rattle.guest_tags.specs.declared.device.Received.{Received}
use Rattle.guest_tags.specs.declared.device.Received.TheVariants.{Began, Overlap, Dropped}
use Rattle.guest_tags.specs.Devices.{Kind}
use Rattle.guest_tasks.specs.declared.GuestTasks.{GuestTasks}
use Rattle.guest_tasks.specs.Active.{active_after}

-- how a task ended, by the status of the information unit that answers it: 00h is GOOD
abbrev pub end_of_status : Bool → End
end_of_status true = Good
end_of_status false = Check

abbrev pub end_of_unit : Iu → End
end_of_unit (Command tag lun cdb) = Response
end_of_unit (Sense tag status sense) = end_of_status (status == 0)
end_of_unit (ResponseIu tag code) = Response
end_of_unit (Task tag function task_tag lun) = Response

abbrev pub end_of : Option Iu → End
end_of None = Response
end_of (Some unit) = end_of_unit unit

-- a chunk is of at most 4,096 bytes
abbrev pub gives_of : ℕ → Phase
gives_of zero = Absent
gives_of (suc count) = Gives (min (suc count) 4096)

abbrev pub takes_of : ℕ → Phase
takes_of zero = Absent
takes_of (suc count) = Takes (min (suc count) 4096)

abbrev pub phase_of : Wants → Option Iu → Phase
phase_of NoTask answer = Absent
phase_of Asks answer = Absent
phase_of Waits answer = Absent
phase_of (WantsGive count) answer = gives_of count
phase_of (WantsTake count) answer = takes_of count
phase_of Ends answer = Ended (end_of answer)

-- how many bytes the next chunk to the host has
abbrev pub chunk_in : Wants → ℕ
chunk_in NoTask = 0
chunk_in Asks = 0
chunk_in Waits = 0
chunk_in (WantsGive count) = min count 4096
chunk_in (WantsTake count) = 0
chunk_in Ends = 0

-- the bytes of the information unit that answers a task, once it has ended
abbrev pub text_of : Option Iu → List ℕ
text_of None = []
text_of (Some unit) = unit_text unit

-- what came of received bytes; an overlap is of the tag in bytes 2 and 3
abbrev pub received_as : List ℕ → Result Took OverlapError → Received
received_as bytes (Ok (TookBegan tag)) = Began tag
received_as bytes (Ok TookDropped) = Dropped
received_as bytes (Err overlap) = Overlap (tag_in bytes)

-- the tag on which it came is active
abbrev pub received_told : GuestTasks → List ℕ → Machine × Result Took OverlapError → GuestTasks × Received
received_told device bytes after =
    (record { tasks = after.0; active = active_after device.active (received_as bytes after.1) }, received_as bytes after.1)

abbrev pub with_tasks : GuestTasks → Machine → GuestTasks
with_tasks device tasks = record device { tasks = tasks }

-- no other call changes which tags are active
abbrev pub tasks_kind : Kind GuestTasks
tasks_kind = record {
  phase = λ device tag. phase_of (wanted device.tasks tag) (answer_on device.tasks tag);
  given = λ device tag. Some (given device.tasks tag (chunk_in (wanted device.tasks tag)));
  gave = λ device tag. with_tasks device (gave device.tasks tag (chunk_in (wanted device.tasks tag)));
  fits = λ device tag bytes. true;
  took = λ device tag bytes. with_tasks device (took device.tasks tag bytes);
  status = λ device tag. text_of (answer_on device.tasks tag);
  sent = λ device tag. with_tasks device (without_task device.tasks tag);
  received = λ device bytes. received_told device bytes (received device.tasks bytes);
}
