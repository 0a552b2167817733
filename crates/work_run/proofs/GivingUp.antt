-- A run that saves its log and gives up.
use Rattle.std.proofs.Common.{◌≡◌, ℕ, Bool, true, List, Option, inl, inr, refl}
use Rattle.std.specs.Prelude.{IsTrue}
use Rattle.std.proofs.KnownBytes.{Keeps-refl}
use Rattle.byte_io.specs.declared.streams.StreamFault.{StreamFault}
use Rattle.byte_io.specs.declared.streams.StreamFault.TheVariants.{NoMemory as NoMemoryThere, File}
use Rattle.uas_log.specs.declared.Log.{Log}
use Rattle.uas_replay.specs.declared.status.RunFault.TheVariants.{Image, ImageFile, Script, ScriptFile, NoMemory}
use Rattle.work_run.specs.declared.faults.WorkFault.{WorkFault}
use Rattle.work_run.specs.declared.faults.WorkFault.TheVariants.{LogFull, LogFile, Run}
use Rattle.work_run.specs.SavedEnds.{SavedGivesUp, SavingGivesUp, file_fault}
use Rattle.work_run.specs.WorkEnds.{Audited, GivesUp}
use Rattle.work_run.specs.KeptEnds.{KeptGivesUp}

-- at a file that couldn't be begun
pub gives_up_unbegun : (clients tags depth rounds : ℕ) (can_file_fail can_fail : Bool) (old : Option (List ℕ)) (fault : StreamFault)
    → (fault ≡ File → IsTrue can_file_fail) → SavedGivesUp clients tags depth rounds can_file_fail can_fail old old (file_fault fault)
gives_up_unbegun clients tags depth rounds can_file_fail can_fail old NoMemoryThere can = inl (Keeps-refl old)
gives_up_unbegun clients tags depth rounds can_file_fail can_fail old File can = inl (can refl, Keeps-refl old)

-- before its lines were printed
pub gives_up_before : (clients tags depth rounds : ℕ) (can_file_fail can_fail : Bool) (old new : Option (List ℕ)) (fault : WorkFault)
    → GivesUp can_fail old new fault → SavedGivesUp clients tags depth rounds can_file_fail can_fail old new fault
gives_up_before clients tags depth rounds can_file_fail can_fail old new LogFull up = inl up
gives_up_before clients tags depth rounds can_file_fail can_fail old new LogFile up = absurd up
gives_up_before clients tags depth rounds can_file_fail can_fail old new (Run (Image fault)) up = up
gives_up_before clients tags depth rounds can_file_fail can_fail old new (Run ImageFile) up = up
gives_up_before clients tags depth rounds can_file_fail can_fail old new (Run (Script fault)) up = up
gives_up_before clients tags depth rounds can_file_fail can_fail old new (Run ScriptFile) up = up
gives_up_before clients tags depth rounds can_file_fail can_fail old new (Run NoMemory) up = inl up

-- and after that
pub gives_up_after : (clients tags depth rounds : ℕ) (can_file_fail can_fail : Bool) (old new : Option (List ℕ)) (log : Log) (status : ℕ) (fault : WorkFault)
    → Audited clients tags depth rounds log true old new status → SavingGivesUp log can_file_fail fault
    → SavedGivesUp clients tags depth rounds can_file_fail can_fail old new fault
gives_up_after clients tags depth rounds can_file_fail can_fail old new log status LogFull audited up =
    inr (record { log = log; status = status; audited = audited; reason = up })
gives_up_after clients tags depth rounds can_file_fail can_fail old new log status LogFile audited up =
    inr (record { log = log; status = status; audited = audited; reason = up })
gives_up_after clients tags depth rounds can_file_fail can_fail old new log status (Run (Image fault)) audited up = up
gives_up_after clients tags depth rounds can_file_fail can_fail old new log status (Run ImageFile) audited up = up
gives_up_after clients tags depth rounds can_file_fail can_fail old new log status (Run (Script fault)) audited up = up
gives_up_after clients tags depth rounds can_file_fail can_fail old new log status (Run ScriptFile) audited up = absurd up
gives_up_after clients tags depth rounds can_file_fail can_fail old new log status (Run NoMemory) audited up =
    inr (record { log = log; status = status; audited = audited; reason = tt })

-- a run that keeps its log, at its lines
pub kept_gives_up : (can_file_fail can_fail : Bool) (old new : Option (List ℕ)) (fault : WorkFault) → GivesUp can_fail old new fault
    → KeptGivesUp can_file_fail can_fail old new fault
kept_gives_up can_file_fail can_fail old new LogFull up = up
kept_gives_up can_file_fail can_fail old new LogFile up = absurd up
kept_gives_up can_file_fail can_fail old new (Run (Image fault)) up = up
kept_gives_up can_file_fail can_fail old new (Run ImageFile) up = up
kept_gives_up can_file_fail can_fail old new (Run (Script fault)) up = up
kept_gives_up can_file_fail can_fail old new (Run ScriptFile) up = up
kept_gives_up can_file_fail can_fail old new (Run NoMemory) up = up
