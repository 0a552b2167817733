-- What a text has that comes in parts.
use Rattle.std.specs.Prelude.{◌≡◌, ℕ, ◌==◌, if◌then◌else◌, Bool, IsTrue, List, ◌++◌, Option, Some, None, IfSome, Ok, Err}
use Rattle.std.specs.Io.KnownBytes.{Consumes, IsAtEnd}
use Rattle.byte_io.specs.declared.StreamFault.TheVariants.{File, NoMemory}
use Rattle.log_records.specs.checksum.Bytes.{AreBytes}
use Rattle.log_records.specs.declared.First.{First}
use Rattle.log_records.specs.declared.First.TheVariants.{Nothing, Whole, Torn, Wrong}
use Rattle.uas_log.specs.declared.FirstUnit.{FirstUnit}
use Rattle.kept_log.specs.declared.Entry.{Entry}
use Rattle.kept_log.specs.declared.Found.{Found}
use Rattle.kept_log.specs.declared.KeptFault.{KeptFault}
use Rattle.kept_log.specs.declared.PartsFault.{PartsFault}
use Rattle.kept_log.specs.declared.PartsFault.TheVariants.{Kept, Read}
use Rattle.kept_log.specs.Form.{front_sum}
use Rattle.kept_log.specs.LoadAt.{Loads, load_at}
use Rattle.kept_log.specs.Loading.{IsKept, IsLoaded, IsRefusedBy, StandsIn}
use Rattle.kept_log.specs.Shown.{Shown}
use Rattle.kept_log.specs.Sums.{step_in}

-- THE ANSWER

-- behind how many steps of a text's log the checksum stands first that is asked for
abbrev pub step_asked : Option ℕ → List ℕ → Option ℕ
step_asked None text = None
step_asked (Some sum) text = step_in sum text

-- a text has this log, and the checksum stands there
pub record IsFound (wanted : Option ℕ) (text : List ℕ) (found : Found) : Type 0 where
  pub exact : load_at text ≡ Ok found.loaded
  pub loaded : IsLoaded text found.loaded
  pub kept : IsKept found.loaded.log found.loaded.torn text
  pub step : found.step ≡ step_asked wanted text

-- this is wrong with a text, or memory was wanting
pub record IsRefused (text : List ℕ) (fault : KeptFault) : Type 0 where
  pub exact : Loads (Err fault) (load_at text)
  pub because : IsRefusedBy text fault

-- Why reading gives up behind these bytes: what is wrong with the text, where the source is there, and it is known what it has left; the
-- source's fault, where it can fail; want of memory.
abbrev pub GivesUp : List ℕ → Option (List ℕ) → Bool → Bool → PartsFault → Type 0
GivesUp front left is_there can_fail (Kept fault) = IsTrue is_there × IfSome left (λ bytes. IsRefused (front ++ bytes) fault)
GivesUp front left is_there can_fail (Read File) = IsTrue can_fail
GivesUp front left is_there can_fail (Read NoMemory) = Unit {0}

-- THE WINDOW

-- More was read: a source lost these bytes, which a window has behind those that it had, and where it has ended none is left.
pub record Reads (old new : Option (List ℕ)) (window : List ℕ) (shown : Shown) : Type 0 where
  pub more : List ℕ
  pub are : AreBytes more
  pub consumed : Consumes old new more
  pub window_is : shown.bytes ≡ window ++ more
  pub ended : IsTrue shown.has_ended → IsAtEnd new

-- The head and the records of these entries stand at the front of what was seen of a text: these bytes, and more that a source lost. The
-- window has what stands behind them, and `sum` is the last checksum.
pub record HasTaken (seen : List ℕ) (old new : Option (List ℕ)) (tags : ℕ) (units : List FirstUnit) (entries : List Entry) (at sum : ℕ) (shown : Shown) : Type 0 where
  pub more : List ℕ
  pub are : AreBytes (seen ++ more)
  pub consumed : Consumes old new more
  pub stand : StandsIn (seen ++ more) tags units entries at shown.bytes
  pub sum_is : sum ≡ front_sum tags units entries
  pub ended : IsTrue shown.has_ended → IsAtEnd new

-- THE CHECKSUM

-- so many steps, where this is the checksum behind them that is asked for
abbrev pub step_here : Option ℕ → ℕ → ℕ → Option ℕ
step_here None sum steps = None
step_here (Some asked) sum steps = if sum == asked then Some steps else None

-- the step of a checksum that was found, or else the one behind so many steps
abbrev pub step_with : Option ℕ → Option ℕ → ℕ → ℕ → Option ℕ
step_with (Some step) wanted sum steps = Some step
step_with None wanted sum steps = step_here wanted sum steps

-- and where a record of the end may stand at the front
abbrev pub step_behind : Option ℕ → Option ℕ → ℕ → First → Option ℕ
step_behind step wanted steps Nothing = step
step_behind step wanted steps (Whole len sum) = step_with step wanted sum steps
step_behind step wanted steps Torn = step
step_behind step wanted steps Wrong = step
