-- Why a log isn't kept to its end.
use Rattle.byte_io.specs.declared.streams.StreamFault.{StreamFault}
use Rattle.byte_io.specs.declared.streams.StreamFault.TheVariants as stream
use Rattle.log_keeper.specs.declared.KeepFault.{KeepFault}
use Rattle.log_keeper.specs.declared.KeepFault.TheVariants as fault
use Rattle.log_keeper.specs.declared.stops.KeepStop.{KeepStop}
use Rattle.log_keeper.specs.declared.stops.KeepStop.TheVariants as stop

-- a record that couldn't be added
abbrev pub record_stop : KeepFault → KeepStop
record_stop fault.Limits = stop.Limits
record_stop fault.NoMemory = stop.NoMemory

-- bytes that the file didn't take
abbrev pub file_stop : StreamFault → KeepStop
file_stop stream.NoMemory = stop.NoMemory
file_stop stream.File = stop.File
