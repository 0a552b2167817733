-- How the run `work` ends that saves its log: what is printed, what the file holds, and the exit status.
use Rattle.std.specs.Prelude.{◌≡◌, ℕ, ◌⊎◌, Bool, true, IsTrue, List, Option, Some, ⊤}
use Rattle.std.specs.Io.KnownBytes.{Keeps}
use Rattle.uas_log.specs.declared.Log.{Log}
use Rattle.log_file.specs.FileText.{IsPastLimits, file_text}
use Rattle.log_keeper.specs.declared.stops.KeepStop.{KeepStop}
use Rattle.log_keeper.specs.declared.stops.KeepStop.TheVariants as stop
use Rattle.byte_io.specs.declared.streams.StreamFault.{StreamFault}
use Rattle.byte_io.specs.declared.streams.StreamFault.TheVariants.{NoMemory as NoMemoryThere, File}
use Rattle.uas_replay.specs.declared.status.RunFault.TheVariants.{Image, ImageFile, Script, ScriptFile, NoMemory}
use Rattle.work_run.specs.declared.faults.WorkFault.{WorkFault}
use Rattle.work_run.specs.declared.faults.WorkFault.TheVariants.{LogFull, LogFile, Run}
use Rattle.work_run.specs.WorkEnds.{Audited}

-- The lines of clients and audits were printed, of a bus with a log,
-- and the file holds the text of this log, where the host tells what its files hold
pub record Saved (clients tags depth rounds : ℕ) (tells : Bool) (holds : Option (List ℕ)) (old new : Option (List ℕ)) (status : ℕ) : Type 0 where
  pub log : Log
  pub audited : Audited clients tags depth rounds log true old new status
  pub text : IsTrue tells → holds ≡ Some (file_text log)

-- a log whose lines were printed, but which isn't saved for this reason
pub record Unsaved (clients tags depth rounds : ℕ) (because : Log → Type 0) (old new : Option (List ℕ)) : Type 0 where
  pub log : Log
  pub status : ℕ
  pub audited : Audited clients tags depth rounds log true old new status
  pub reason : because log

-- the file fails, where it can
abbrev pub CantBeSaved : Bool → Log → Type 0
CantBeSaved can_fail log = IsTrue can_fail

-- Nothing is saved: the file couldn't be begun, before anything was printed, or the log couldn't be saved behind its lines.
abbrev pub NotSaved : ℕ → ℕ → ℕ → ℕ → Bool → Option (List ℕ) → Option (List ℕ) → Type 0
NotSaved clients tags depth rounds can_fail old new = (IsTrue can_fail × Keeps old new) ⊎ Unsaved clients tags depth rounds (CantBeSaved can_fail) old new

-- what a fault of the log's file is told as
abbrev pub file_fault : StreamFault → WorkFault
file_fault NoMemoryThere = Run NoMemory
file_fault File = LogFile

-- and what a log is told as that isn't saved
abbrev pub saving_fault : KeepStop → WorkFault
saving_fault stop.Limits = LogFull
saving_fault stop.NoMemory = Run NoMemory
saving_fault stop.File = LogFile

-- The saving of a log gives up. A step past the limits of its text is one that the text has no room for.
abbrev pub SavingGivesUp : Log → Bool → WorkFault → Type 0
SavingGivesUp log can_fail LogFull = IsPastLimits log
SavingGivesUp log can_fail LogFile = CantBeSaved can_fail log
SavingGivesUp log can_fail (Run (Image fault)) = ⊥
SavingGivesUp log can_fail (Run ImageFile) = ⊥
SavingGivesUp log can_fail (Run (Script fault)) = ⊥
SavingGivesUp log can_fail (Run ScriptFile) = ⊥
SavingGivesUp log can_fail (Run NoMemory) = ⊤

-- A run gives up as one without a file does, with nothing printed or at a fault of standard output; or at the file, with nothing printed or
-- once its lines were; or once they were for want of memory or of room.
abbrev pub SavedGivesUp : ℕ → ℕ → ℕ → ℕ → Bool → Bool → Option (List ℕ) → Option (List ℕ) → WorkFault → Type 0
SavedGivesUp clients tags depth rounds can_file_fail can_fail old new LogFull = Keeps old new ⊎ Unsaved clients tags depth rounds IsPastLimits old new
SavedGivesUp clients tags depth rounds can_file_fail can_fail old new LogFile = NotSaved clients tags depth rounds can_file_fail old new
SavedGivesUp clients tags depth rounds can_file_fail can_fail old new (Run (Image fault)) = ⊥
SavedGivesUp clients tags depth rounds can_file_fail can_fail old new (Run ImageFile) = ⊥
SavedGivesUp clients tags depth rounds can_file_fail can_fail old new (Run (Script fault)) = ⊥
SavedGivesUp clients tags depth rounds can_file_fail can_fail old new (Run ScriptFile) = IsTrue can_fail
SavedGivesUp clients tags depth rounds can_file_fail can_fail old new (Run NoMemory) = Keeps old new ⊎ Unsaved clients tags depth rounds (λ log. ⊤) old new
