-- How the run `work` ends that keeps its log: what is printed, what the file has, and the exit status.
use Rattle.std.specs.Prelude.{◌≡◌, ℕ, ◌⊎◌, Bool, true, IsTrue, List, [], Option, None, Some}
use Rattle.std.specs.Io.KnownBytes.{Keeps}
use Rattle.uas_log.specs.declared.FirstUnit.{FirstUnit}
use Rattle.uas_log.specs.declared.Log.{Log}
use Rattle.kept_log.specs.declared.Why.TheVariants as why
use Rattle.log_keeper.specs.declared.stops.KeepStop.{KeepStop}
use Rattle.log_keeper.specs.declared.stops.KeepStop.TheVariants as stop
use Rattle.uas_work.specs.declared.Ended.{Ended}
use Rattle.uas_replay.specs.declared.status.RunFault.TheVariants.{Image, ImageFile, Script, ScriptFile, NoMemory}
use Rattle.work_run.specs.declared.faults.WorkFault.{WorkFault}
use Rattle.work_run.specs.declared.faults.WorkFault.TheVariants.{LogFull, LogFile, Run}
use Rattle.work_run.specs.WorkEnds.{Audited, fault_of, why_of}
use Rattle.work_run.specs.KeptTexts.{HasBeginning, HasText, HasWhole}

-- What the file of a run that gives up has: what it had, where it couldn't be created; nothing, where the log's head couldn't be written; else
-- a beginning of a log.
abbrev pub HasLeft : ℕ → List FirstUnit → Option (List ℕ) → Option (List ℕ) → Type 0
HasLeft tags units old new = (new ≡ old) ⊎ ((new ≡ Some []) ⊎ HasBeginning tags units new)

-- With a full log it has the log up to there, and that it was full.
abbrev pub KeptLeaves : ℕ → List FirstUnit → Option (List ℕ) → Option (List ℕ) → WorkFault → Type 0
KeptLeaves tags units old new LogFull = HasText tags units (Some why.LogFull) new
KeptLeaves tags units old new LogFile = HasLeft tags units old new
KeptLeaves tags units old new (Run fault) = HasLeft tags units old new

-- The lines of clients and audits were printed, of a bus with a log whose threads met no fault; and the file holds the whole text of a log,
-- where the host tells what its files hold.
pub record KeptTold (clients tags depth rounds : ℕ) (tells : Bool) (held : Option (List ℕ)) (old new : Option (List ℕ)) (status : ℕ) : Type 0 where
  pub log : Log
  pub ended : Ended
  pub audited : Audited clients tags depth rounds log true old new status
  pub faultless : fault_of ended ≡ None
  pub text : IsTrue tells → ∥ HasWhole log (why_of ended) held ∥₁

-- the fault of a log that isn't kept to its end: a step past the limits of its text is one that it has no room for
abbrev pub stop_fault : KeepStop → WorkFault
stop_fault stop.Limits = LogFull
stop_fault stop.NoMemory = Run NoMemory
stop_fault stop.File = LogFile

-- A run gives up before its lines are printed: for want of memory, at a full log, or at a fault of the log's file where that can fail; or at
-- a fault of standard output, where that can fail.
abbrev pub KeptGivesUp : Bool → Bool → Option (List ℕ) → Option (List ℕ) → WorkFault → Type 0
KeptGivesUp can_file_fail can_fail old new LogFull = Keeps old new
KeptGivesUp can_file_fail can_fail old new LogFile = IsTrue can_file_fail × Keeps old new
KeptGivesUp can_file_fail can_fail old new (Run (Image fault)) = ⊥
KeptGivesUp can_file_fail can_fail old new (Run ImageFile) = ⊥
KeptGivesUp can_file_fail can_fail old new (Run (Script fault)) = ⊥
KeptGivesUp can_file_fail can_fail old new (Run ScriptFile) = IsTrue can_fail
KeptGivesUp can_file_fail can_fail old new (Run NoMemory) = Keeps old new
