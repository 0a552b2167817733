-- The log of a text, or the first fault from its front, as one function.
use Rattle.std.specs.Prelude.{◌≡◌, ℕ, zero, suc, ◌+◌, ◌-◌, ◌==◌, ◌⊎◌, if◌then◌else◌, List, [], ◌∷◌, length, drop, Result, Ok, Err, Option, None}
use Rattle.uas_log.specs.declared.FirstUnit.{FirstUnit}
use Rattle.log_text.specs.declared.LogFault.{LogFault}
use Rattle.kept_log.specs.declared.Entry.{Entry}
use Rattle.kept_log.specs.declared.KeptFault.{KeptFault}
use Rattle.kept_log.specs.declared.KeptFault.TheVariants.{Head, HeadSum, NoMemory}
use Rattle.kept_log.specs.declared.Loaded.{Loaded}
use Rattle.kept_log.specs.declared.Next.{Next}
use Rattle.kept_log.specs.declared.Next.TheVariants.{Goes, Ends}
use Rattle.kept_log.specs.declared.Why.{Why}
use Rattle.kept_log.specs.Form.{head_sum}
use Rattle.kept_log.specs.Loading.{next_at}
use Rattle.kept_log.specs.Reading.{ReadHead, head_at}

-- what stands behind a place: more steps, why the log ended, and where the beginning of a record stands that was cut off
pub record Rest : Type 0 where
  pub entries : List Entry
  pub ending : Option Why
  pub torn : Option ℕ

abbrev pub with_entry : Entry → Result Rest KeptFault → Result Rest KeptFault
with_entry entry (Err fault) = Err fault
with_entry entry (Ok rest) = Ok (record { entries = entry ∷ rest.entries; ending = rest.ending; torn = rest.torn })

-- what comes at a place, and where that is a step what is read behind its record
abbrev pub then_read : (ℕ → ℕ → List ℕ → Result Rest KeptFault) → ℕ → List ℕ → Result Next KeptFault → Result Rest KeptFault
then_read read at bytes (Err fault) = Err fault
then_read read at bytes (Ok (Ends ending torn)) = Ok (record { entries = []; ending = ending; torn = torn })
then_read read at bytes (Ok (Goes entry len sum)) = with_entry entry (read (at + (8 + len)) sum (drop (8 + len) bytes))

-- what stands at a place behind so many steps and this checksum, in at most so many bytes
unfoldable pub rest_at : ℕ → ℕ → ℕ → ℕ → ℕ → List ℕ → Result Rest KeptFault
rest_at zero clients count at sum bytes = Ok (record { entries = []; ending = None; torn = None })
rest_at (suc most) clients count at sum bytes = then_read (rest_at most clients (suc count)) at bytes (next_at clients count at sum bytes)

abbrev pub loaded_of : ℕ → List FirstUnit → Result Rest KeptFault → Result Loaded KeptFault
loaded_of tags units (Err fault) = Err fault
loaded_of tags units (Ok rest) = Ok (record { log = record { tags = tags; units = units; entries = rest.entries; ending = rest.ending }; torn = rest.torn })

-- behind a head whose checksum is right
abbrev pub behind_head : List ℕ → Result (ReadHead × List ℕ) LogFault → Result Loaded KeptFault
behind_head text (Err fault) = Err (Head fault)
behind_head text (Ok read) =
    if read.0.sum == head_sum read.0.tags read.0.units
    then loaded_of read.0.tags read.0.units (rest_at (length read.1) (length read.0.units) 0 (length text - length read.1) read.0.sum read.1)
    else Err HeadSum

unfoldable pub load_at : List ℕ → Result Loaded KeptFault
load_at text = behind_head text (head_at text)

-- a call gives what stands in the text, want of memory apart
abbrev pub Loads : Result Loaded KeptFault → Result Loaded KeptFault → Type 0
Loads (Ok loaded) stands = stands ≡ Ok loaded
Loads (Err fault) stands = (stands ≡ Err fault) ⊎ (fault ≡ NoMemory)
