-- The units that cross the pipes, as bytes (INCITS 471, information units).
use Rattle.std.specs.Prelude.{ℕ, List}
use Rattle.scsi_cmd.specs.Op.{cdb_bytes}
use Rattle.uas_iu.specs.declared.Iu.TheVariants.{Command, Response, Sense, Task as TaskUnit}
use Rattle.uas_iu.specs.Units.{unit_text}
use Rattle.uas_iu.specs.Lun.{lun_text}
use Rattle.uas_host.specs.Tasks.{named_tag, function_of}
use Rattle.scsi_cmd.specs.declared.Request.{Request}
use Rattle.scsi_cmd.specs.declared.Request.TheVariants.{Execute, Manage}
use Rattle.solo_model.specs.declared.TaskAnswer.{TaskAnswer}
use Rattle.solo_model.specs.declared.TaskAnswer.TheVariants.{WithStatus, WithResponse}
use Rattle.solo_model.specs.TaggedTask.{response_number}
use Rattle.device_server.specs.Server.{status_of, sense_of}

-- The unit that asks for a request, of this logical unit under this tag: Command, or Task Management with its function and the
-- tag of the task that an abort names.
abbrev pub request_text : ℕ → ℕ → Request → List ℕ
request_text number tag (Execute op) = unit_text (Command tag (lun_text number) (cdb_bytes op))
request_text number tag (Manage what noted) = unit_text (TaskUnit tag (function_of what) (named_tag what) (lun_text number))

-- the unit that tells the answer of a task under this tag: Sense with a command's status, or Response with a task management's code
abbrev pub answer_text : ℕ → TaskAnswer → List ℕ
answer_text tag (WithStatus answer) = unit_text (Sense tag (status_of answer) (record { items = sense_of answer }))
answer_text tag (WithResponse code) = unit_text (Response tag (response_number code))
