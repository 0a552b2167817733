-- How a capture ends: what stands in the file, and when it gives up.
use Rattle.std.specs.Prelude.{◌≡◌, ℕ, Bool, IsTrue, List, Option, Some, Result, Ok, Err}
use Rattle.std.specs.Io.KnownBytes.{Appends, Keeps}
use Rattle.byte_io.specs.declared.streams.StreamFault.{StreamFault}
use Rattle.byte_io.specs.declared.streams.StreamFault.TheVariants.{NoMemory as StreamNoMemory, File as StreamFile}
use Rattle.uas_replay.specs.declared.status.RunFault.TheVariants.{NoMemory}
use Rattle.uas_replay.specs.Runs.{ReplayGivesUp, status_of as run_status_of}
use Rattle.block_unit.specs.BlockMaps.{BlockMaps}
use Rattle.uas_script.specs.declared.Line.{Line}
use Rattle.uas_script.specs.declared.ScriptFault.{ScriptFault}
use Rattle.uas_trace.specs.Texts.{traced_text}
use Rattle.capture_run.specs.urbs.Records.{capture_of}
use Rattle.capture_run.specs.declared.fault.CaptureFault.{CaptureFault}
use Rattle.capture_run.specs.declared.fault.CaptureFault.TheVariants.{Run, File}

-- the capture of the trace of these lines on these units, with so many tags of each client, of commands that moved these bytes, was added
pub record AppendsCapture (tags : ℕ) (units : List BlockMaps) (lines : List Line) (old new : Option (List ℕ)) : Type 0 where
  pub transfers : List (List (List ℕ))
  pub added : Appends old new (capture_of transfers (traced_text tags units lines))

-- these are the bytes of the capture of the trace of these lines on these units, of commands that moved these bytes
pub record IsCaptureOf (tags : ℕ) (units : List BlockMaps) (lines : List Line) (bytes : Option (List ℕ)) : Type 0 where
  pub transfers : List (List (List ℕ))
  pub is : bytes ≡ Some (capture_of transfers (traced_text tags units lines))

-- likewise, of a script's lines
abbrev pub CapturesScript : ℕ → List BlockMaps → Result (List Line) ScriptFault → Option (List ℕ) → Type 0
CapturesScript tags units (Ok lines) bytes = IsCaptureOf tags units lines bytes
CapturesScript tags units (Err fault) bytes = ⊥

-- these are the bytes of a capture of a trace, of commands that moved these bytes
pub record IsCapture (bytes : Option (List ℕ)) : Type 0 where
  pub transfers : List (List (List ℕ))
  pub trace : List ℕ
  pub is : bytes ≡ Some (capture_of transfers trace)

-- the exit status of a fault
abbrev pub status_of : CaptureFault → ℕ
status_of (Run fault) = run_status_of fault
status_of File = 3

-- a fault of the capture's file, as the run tells it
abbrev pub capture_fault : StreamFault → CaptureFault
capture_fault StreamNoMemory = Run NoMemory
capture_fault StreamFile = File

-- a call that writes the file gives up for want of memory, or at a fault of the file, where that can fail
abbrev pub FileGivesUp : Bool → CaptureFault → Type 0
FileGivesUp can_fail (Run fault) = fault ≡ NoMemory
FileGivesUp can_fail File = IsTrue can_fail

-- a run gives up as `replay` does, or at a fault of the file, before anything is printed
abbrev pub CaptureGivesUp : ℕ → ℕ → Option (List ℕ) → Bool → Bool → Bool → Option (List ℕ) → Option (List ℕ) → CaptureFault → Type 0
CaptureGivesUp clients tags left can_read_fail can_write_fail file_can_fail old new (Run fault) =
    ReplayGivesUp clients tags left can_read_fail can_write_fail old new fault
CaptureGivesUp clients tags left can_read_fail can_write_fail file_can_fail old new File = IsTrue file_can_fail × Keeps old new
