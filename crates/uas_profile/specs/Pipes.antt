-- The pipes of a UAS interface: their numbers, their doorbell targets (xHCI 5.6), and which of them have streams.
use Rattle.std.specs.Prelude.{ℕ, ◌==◌, Bool}
use Rattle.uas_profile.specs.declared.TheConstants.{COMMAND_ENDPOINT, STATUS_ENDPOINT, DATA_OUT_ENDPOINT, DATA_IN_ENDPOINT}
use Rattle.uas_profile.specs.declared.Pipe.{Pipe}
use Rattle.uas_profile.specs.declared.Pipe.TheVariants.{Command, Status, DataIn, DataOut}

-- the doorbell target of a pipe, which is the number of its endpoint in an engine command too
abbrev pub target_of : Pipe → ℕ
target_of Command = COMMAND_ENDPOINT
target_of Status = STATUS_ENDPOINT
target_of DataIn = DATA_IN_ENDPOINT
target_of DataOut = DATA_OUT_ENDPOINT

-- a pipe's number
abbrev pub number_of : Pipe → ℕ
number_of Command = 1
number_of Status = 2
number_of DataIn = 3
number_of DataOut = 4

-- a pipe with streams
abbrev pub HasStreams : Pipe → Type 0
HasStreams Command = ⊥
HasStreams pipe = Unit {0}

-- two pipes are one
abbrev pub same_pipe : Pipe → Pipe → Bool
same_pipe one other = number_of one == number_of other
