-- Which log stands in a text, and what is wrong with one.
use Rattle.std.specs.Prelude.{◌≡◌, ℕ, ◌+◌, ◌≤◌, ◌==◌, if◌then◌else◌, List, [], ◌++◌, length, Result, Ok, Err, Option, Some, None}
use Rattle.uas_log.specs.declared.FirstUnit.{FirstUnit}
use Rattle.log_records.specs.declared.First.{First}
use Rattle.log_records.specs.declared.First.TheVariants.{Nothing, Whole, Torn, Wrong}
use Rattle.log_records.specs.Finding.{behind, body_of, first_record}
use Rattle.log_text.specs.declared.LogFault.{LogFault}
use Rattle.kept_log.specs.declared.Body.{Body}
use Rattle.kept_log.specs.declared.Body.TheVariants as bodies
use Rattle.kept_log.specs.declared.Entry.{Entry}
use Rattle.kept_log.specs.declared.KeptFault.{KeptFault}
use Rattle.kept_log.specs.declared.KeptFault.TheVariants.{Head, HeadSum, WrongRecord, BadBody, TooMany, WrongCount, BehindEnd, NoMemory}
use Rattle.kept_log.specs.declared.Loaded.{Loaded}
use Rattle.kept_log.specs.declared.Next.{Next}
use Rattle.kept_log.specs.declared.Next.TheVariants.{Goes, Ends}
use Rattle.kept_log.specs.Form.{AreKeepable, Kept, front_sum, front_text, head_sum, kept_text}
use Rattle.kept_log.specs.Reading.{ReadHead, body_at, head_at}

-- ONE RECORD MORE

-- a whole record at a place, behind so many steps: a step, or the end of as many steps with nothing behind it
abbrev pub of_body : ℕ → ℕ → ℕ → ℕ → List ℕ → Result Body LogFault → Result Next KeptFault
of_body count at len sum rest (Err fault) = Err (BadBody at)
of_body count at len sum rest (Ok (bodies.Step entry)) = if count == 0xffffffff then Err (TooMany at) else Ok (Goes entry len sum)
of_body count at len sum rest (Ok (bodies.End steps reason)) =
    if steps == count then (if length rest == 0 then Ok (Ends (Some reason) None) else Err (BehindEnd at)) else Err (WrongCount at)

abbrev pub of_first : ℕ → ℕ → ℕ → List ℕ → First → Result Next KeptFault
of_first clients count at bytes Nothing = Ok (Ends None None)
of_first clients count at bytes Torn = Ok (Ends None (Some at))
of_first clients count at bytes Wrong = Err (WrongRecord at)
of_first clients count at bytes (Whole len sum) = of_body count at len sum (behind bytes) (body_at clients (body_of bytes))

-- what comes at a place of a text, behind so many steps and this checksum
unfoldable pub next_at : ℕ → ℕ → ℕ → ℕ → List ℕ → Result Next KeptFault
next_at clients count at sum bytes = of_first clients count at bytes (first_record sum bytes)

-- a call answers what comes, want of memory apart
abbrev pub IsNext : Result Next KeptFault → Result Next KeptFault → Type 0
IsNext (Ok next) comes = comes ≡ Ok next
IsNext (Err (Head fault)) comes = comes ≡ Err (Head fault)
IsNext (Err HeadSum) comes = comes ≡ Err HeadSum
IsNext (Err (WrongRecord at)) comes = comes ≡ Err (WrongRecord at)
IsNext (Err (BadBody at)) comes = comes ≡ Err (BadBody at)
IsNext (Err (TooMany at)) comes = comes ≡ Err (TooMany at)
IsNext (Err (WrongCount at)) comes = comes ≡ Err (WrongCount at)
IsNext (Err (BehindEnd at)) comes = comes ≡ Err (BehindEnd at)
IsNext (Err NoMemory) comes = Unit {0}

-- the record of a step that comes has a body of this length
abbrev pub HasBody : ℕ → Next → Type 0
HasBody size (Goes entry len sum) = len ≡ size
HasBody size (Ends reason torn) = Unit {0}

-- and ends within the bytes
abbrev pub EndsIn : List ℕ → Next → Type 0
EndsIn bytes (Goes entry len sum) = 8 + len ≤ length bytes
EndsIn bytes (Ends reason torn) = Unit {0}

-- THE WHOLE

-- The head and the records of these entries stand at the front of a text. This stands behind them, at this place.
pub record StandsIn (text : List ℕ) (tags : ℕ) (units : List FirstUnit) (entries : List Entry) (at : ℕ) (rest : List ℕ) : Type 0 where
  pub parts : text ≡ front_text tags units entries ++ rest
  pub place : at + length rest ≡ length text
  pub keepable : AreKeepable tags units entries

-- At a place behind the records of these entries this comes.
pub record Comes (text : List ℕ) (tags : ℕ) (units : List FirstUnit) (entries : List Entry) (next : Result Next KeptFault) : Type 0 where
  pub at : ℕ
  pub rest : List ℕ
  pub stand : StandsIn text tags units entries at rest
  pub comes : next_at (length units) (length entries) at (front_sum tags units entries) rest ≡ next

-- A text is loaded: the records at its front are the log's, up to the end, or up to a torn one.
pub record IsLoaded (text : List ℕ) (loaded : Loaded) : Type 0 where
  pub whole : Comes text loaded.log.tags loaded.log.units loaded.log.entries (Ok (Ends loaded.log.ending loaded.torn))

-- Something comes that can't be behind the records at the front.
pub record Stops (text : List ℕ) (fault : KeptFault) : Type 0 where
  pub tags : ℕ
  pub units : List FirstUnit
  pub entries : List Entry
  pub stops : Comes text tags units entries (Err fault)

-- a head whose checksum is wrong
pub record HasOtherSum (text : List ℕ) : Type 0 where
  pub read : ReadHead × List ℕ
  pub head : head_at text ≡ Ok read
  pub other : read.0.sum ≡ head_sum read.0.tags read.0.units → ⊥

-- what is wrong with a text
abbrev pub IsRefusedBy : List ℕ → KeptFault → Type 0
IsRefusedBy text (Head fault) = head_at text ≡ Err fault
IsRefusedBy text HeadSum = HasOtherSum text
IsRefusedBy text (WrongRecord at) = Stops text (WrongRecord at)
IsRefusedBy text (BadBody at) = Stops text (BadBody at)
IsRefusedBy text (TooMany at) = Stops text (TooMany at)
IsRefusedBy text (WrongCount at) = Stops text (WrongCount at)
IsRefusedBy text (BehindEnd at) = Stops text (BehindEnd at)
IsRefusedBy text NoMemory = Unit {0}

-- THE MEANING

-- what a text has behind a log's: nothing, or at a place behind a log without an end a beginning of a record
abbrev pub IsLeft : Kept → Option ℕ → List ℕ → Type 0
IsLeft log None rest = rest ≡ []
IsLeft log (Some at) rest = (log.ending ≡ None) × (at ≡ length (kept_text log)) × (first_record (front_sum log.tags log.units log.entries) rest ≡ Torn)

-- A text is a log's: its head, a record for each step and the end, where it has one; and what a cut has left behind them.
pub record IsKept (log : Kept) (torn : Option ℕ) (text : List ℕ) : Type 0 where
  pub rest : List ℕ
  pub parts : text ≡ kept_text log ++ rest
  pub left : IsLeft log torn rest
  pub keepable : AreKeepable log.tags log.units log.entries
