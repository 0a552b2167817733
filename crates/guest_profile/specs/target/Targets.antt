-- A simulated device of logical units (uas_target), as the pipes see a device.
use Rattle.std.specs.Prelude.{ℕ, ◌==◌, Bool, true, false, List, [], Option, Some, None, Result, Ok, Err}
use Rattle.uas_iu.specs.declared.Iu.{Iu}
use Rattle.uas_iu.specs.Units.{unit_text}
use Rattle.uas_target.specs.declared.Overlap.{Overlap as OverlapError}
use Rattle.uas_target.specs.declared.Phase.{Phase as TargetPhase}
use Rattle.uas_target.specs.declared.Phase.TheVariants.{Absent as NoTask, Gives as TargetGives, Takes as TargetTakes, Ends}
use Rattle.uas_target.specs.declared.Took.{Took}
use Rattle.uas_target.specs.declared.Took.TheVariants.{Began as TookBegan, Dropped as TookDropped}
use Rattle.uas_target.specs.Device.{Device, answered, fits, gave, given, received, took, wanted, without_task}
use Rattle.uas_target.specs.Fields.{tag_in}
use Rattle.uas_iu.specs.declared.Iu.TheVariants.{Command, Sense, Response as ResponseIu, Task}
use Rattle.guest_tags.specs.declared.device.End.{End}
use Rattle.guest_tags.specs.declared.device.End.TheVariants.{Good, Check, Response}
use Rattle.guest_tags.specs.declared.device.Phase.{Phase}
use Rattle.guest_tags.specs.declared.device.Phase.TheVariants.{Absent, Gives, Takes, Ended}
use Rattle.guest_tags.specs.declared.device.Received.{Received}
use Rattle.guest_tags.specs.declared.device.Received.TheVariants.{Began, Overlap, Dropped}
use Rattle.guest_tags.specs.Devices.{Kind}

-- how a task ended, by the status of the information unit that answers it: 00h is GOOD
abbrev pub end_of_status : Bool → End
end_of_status true = Good
end_of_status false = Check

abbrev pub end_of_unit : Iu → End
end_of_unit (Command tag lun cdb) = Response
end_of_unit (Sense tag status sense) = end_of_status (status == 0)
end_of_unit (ResponseIu tag code) = Response
end_of_unit (Task tag function task_tag lun) = Response

abbrev pub end_of : Option Iu → End
end_of None = Response
end_of (Some unit) = end_of_unit unit

abbrev pub phase_of : TargetPhase → Option Iu → Phase
phase_of NoTask answer = Absent
phase_of (TargetGives count) answer = Gives count
phase_of (TargetTakes count) answer = Takes count
phase_of Ends answer = Ended (end_of answer)

-- the bytes of the information unit that answers a task, once it has ended
abbrev pub text_of : Option Iu → List ℕ
text_of None = []
text_of (Some unit) = unit_text unit

-- what came of received bytes; an overlap is of the tag in bytes 2 and 3
abbrev pub received_as : List ℕ → Result Took OverlapError → Received
received_as bytes (Ok (TookBegan tag)) = Began tag
received_as bytes (Ok TookDropped) = Dropped
received_as bytes (Err overlap) = Overlap (tag_in bytes)

abbrev pub received_told : List ℕ → Device × Result Took OverlapError → Device × Received
received_told bytes after = (after.0, received_as bytes after.1)

abbrev pub target_kind : Kind Device
target_kind = record {
  phase = λ device tag. phase_of (wanted device tag) (answered device tag);
  given = given;
  gave = gave;
  fits = λ device tag bytes. fits device tag;
  took = took;
  status = λ device tag. text_of (answered device tag);
  sent = without_task;
  received = λ device bytes. received_told bytes (received device bytes);
}
