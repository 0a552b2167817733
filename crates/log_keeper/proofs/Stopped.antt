-- What stops a log from being kept, and where from.
use Rattle.std.proofs.Common.{◌≡◌, refl}
use Rattle.byte_io.specs.declared.streams.StreamFault.{StreamFault}
use Rattle.byte_io.specs.declared.streams.StreamFault.TheVariants as stream
use Rattle.log_keeper.specs.declared.KeepFault.{KeepFault}
use Rattle.log_keeper.specs.declared.KeepFault.TheVariants as fault
use Rattle.log_keeper.specs.declared.stops.KeepStop.TheVariants as stop
use Rattle.log_keeper.specs.Stops.{file_stop, record_stop}

-- a record's fault is none of the file
pub record_alone : (one : KeepFault) → record_stop one ≡ stop.File → ⊥
record_alone fault.Limits is = absurd cc
record_alone fault.NoMemory is = absurd cc

-- and a file's is none of the limits
pub file_within : (one : StreamFault) → file_stop one ≡ stop.Limits → ⊥
file_within stream.NoMemory is = absurd cc
file_within stream.File is = absurd cc

pub file_alone : (one : StreamFault) → file_stop one ≡ stop.File → one ≡ stream.File
file_alone stream.NoMemory is = absurd cc
file_alone stream.File is = refl

pub record_past : (one : KeepFault) → record_stop one ≡ stop.Limits → one ≡ fault.Limits
record_past fault.Limits is = refl
record_past fault.NoMemory is = absurd cc
