-- How the run `work` ends: what is printed, and the exit status.
use Rattle.std.specs.Prelude.{◌≡◌, ℕ, ◌+◌, ◌-◌, ◌*◌, ◌^◌, ◌≤◌, ◌⊎◌, ◌&&◌, min, Bool, false, IsTrue, if◌then◌else◌, List, [], ◌++◌, length, map}
use Rattle.std.specs.Prelude.{replicate, Option, None, Some}
use Rattle.std.specs.Io.KnownBytes.{Appends, Keeps}
use Rattle.block_unit.specs.BlockMaps.{BlockMaps, fresh}
use Rattle.scsi_cmd.specs.declared.Reply.{Reply}
use Rattle.uas_log.specs.declared.Log.{Log}
use Rattle.uas_log.specs.Booking.{IsReplay}
use Rattle.kept_log.specs.declared.Why.{Why}
use Rattle.kept_log.specs.declared.Why.TheVariants as why
use Rattle.uas_work.specs.Booked.{first_unit}
use Rattle.uas_work.specs.declared.Ended.{Ended}
use Rattle.uas_work.specs.declared.Ended.TheVariants as ended
use Rattle.uas_replay.specs.declared.status.RunFault.TheVariants.{Image, ImageFile, Script, ScriptFile, NoMemory}
use Rattle.uas_replay.specs.Runs.{status_of as run_status_of}
use Rattle.work_run.specs.declared.faults.WorkFault.{WorkFault}
use Rattle.work_run.specs.declared.faults.WorkFault.TheVariants.{LogFull, LogFile, Run}
use Rattle.work_run.specs.Audits.{AreAudits, all_true, audit_text}
use Rattle.work_run.specs.Tallies.{all_whole, tallies_of, work_text}

-- so many units of 64 zeroed blocks, none of them bad
abbrev pub work_units : ℕ → List BlockMaps
work_units clients = replicate clients (fresh 64 [])

-- one step more than those of all rounds, 16 each, or the most that a log may hold. By hand: 2 clients and 3 rounds have room for 97
abbrev pub step_limit : ℕ → ℕ → ℕ
step_limit clients rounds = min (16 * clients * rounds + 1) (2 ^ 32 - 1)

-- 0 where every client wrote, read and found equal each of its rounds, and every audit is true
abbrev pub audited_status : ℕ → List (List Reply) → List Bool → ℕ
audited_status rounds replies audits = if all_whole rounds (tallies_of replies) && all_true audits then 0 else 1

-- the clients' lines, and those of their audits where they are shown
abbrev pub told_text : Bool → List (List Reply) → List Bool → List ℕ
told_text shows_audits replies audits = work_text (tallies_of replies) ++ (if shows_audits then audit_text audits else [])

-- The clients took these replies of a bus with this log, which is its own replay with so many tags of each and began with their logical
-- units: their lines were printed, and the status follows from their replies and audits.
pub record Audited (clients tags depth rounds : ℕ) (log : Log) (shows_audits : Bool) (old new : Option (List ℕ)) (status : ℕ) : Type 0 where
  pub replay : IsReplay log
  pub tags_are : log.tags ≡ tags
  pub units : log.units ≡ map first_unit (work_units clients)
  pub replies : List (List Reply)
  pub of_each : length replies ≡ clients
  pub audits : List Bool
  pub audited : AreAudits log depth rounds replies audits
  pub lines : Appends old new (told_text shows_audits replies audits)
  pub follows : status ≡ audited_status rounds replies audits

-- so they did of some bus
pub record Told (clients tags depth rounds : ℕ) (shows_audits : Bool) (old new : Option (List ℕ)) (status : ℕ) : Type 0 where
  pub log : Log
  pub audited : Audited clients tags depth rounds log shows_audits old new status

-- A run that gives up printed nothing, or couldn't print: then standard output can fail.
pub record WorkEnds (clients tags depth rounds : ℕ) (can_fail : Bool) (old new : Option (List ℕ)) (status : ℕ) : Type 0 where
  pub statuses : (status ≤ 1) ⊎ ((status ≡ 3) ⊎ (status ≡ 4))
  pub told : status ≤ 1 → Told clients tags depth rounds false old new status
  pub fault : status ≡ 3 → IsTrue can_fail
  pub memory : status ≡ 4 → Keeps old new

-- the exit status of a fault
abbrev pub status_of : WorkFault → ℕ
status_of LogFull = 4
status_of LogFile = 3
status_of (Run fault) = run_status_of fault

-- the fault of threads that ended so; that the gate stopped them is told by the gate
abbrev pub fault_of : Ended → Option WorkFault
fault_of ended.Done = None
fault_of ended.LogFull = Some LogFull
fault_of ended.NoMemory = Some (Run NoMemory)
fault_of ended.Stopped = None
fault_of ended.NoThread = Some (Run NoMemory)

-- why the log of such threads ended, as its file has it
abbrev pub why_of : Ended → Why
why_of ended.Done = why.Complete
why_of ended.LogFull = why.LogFull
why_of ended.NoMemory = why.NoMemory
why_of ended.Stopped = why.LogFile
why_of ended.NoThread = why.NoMemory

-- A run gives up for want of memory or at a full log, with nothing printed; or at a fault of standard output, where that can fail.
abbrev pub GivesUp : Bool → Option (List ℕ) → Option (List ℕ) → WorkFault → Type 0
GivesUp can_fail old new LogFull = Keeps old new
GivesUp can_fail old new LogFile = ⊥
GivesUp can_fail old new (Run (Image fault)) = ⊥
GivesUp can_fail old new (Run ImageFile) = ⊥
GivesUp can_fail old new (Run (Script fault)) = ⊥
GivesUp can_fail old new (Run ScriptFile) = IsTrue can_fail
GivesUp can_fail old new (Run NoMemory) = Keeps old new
