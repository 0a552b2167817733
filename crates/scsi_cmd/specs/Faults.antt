-- The numbers of the refusals of a submission, in the order in which they are tested.
use Rattle.std.specs.Prelude.{ℕ}
use Rattle.scsi_cmd.specs.declared.SubmitFault.{SubmitFault}
use Rattle.scsi_cmd.specs.declared.SubmitFault.TheVariants.{NotYours, InUse, BadLength, TooLong, OutOfTurn, NoSuchTask}

abbrev pub fault_number : SubmitFault → ℕ
fault_number NotYours = 1
fault_number InUse = 2
fault_number BadLength = 3
fault_number TooLong = 4
fault_number (OutOfTurn least) = 5
fault_number NoSuchTask = 6
