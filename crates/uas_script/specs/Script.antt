-- A script: its lines, or its first fault.
use Rattle.std.specs.Prelude.{ℕ, ◌+◌, ◌-◌, ◌*◌, ◌==◌, nat_lt, Bool, true, false, not, ◌||◌, if◌then◌else◌, List, [], ◌∷◌, ◌++◌, length, slice_get}
use Rattle.std.specs.Prelude.{slice_index, codes, Option, Some, None, option_map, option_and_then, option_to_list, Result, Ok, Err, ok_or}
use Rattle.std.specs.List.{list_all}
use Rattle.std.specs.Str.{bytes_eq}
use Rattle.std.specs.declared.vec.Vec.{Vec}
use Rattle.std.specs.declared.alloc.Global.{Global}
use Rattle.uas_profile.specs.Tags.{most_clients}
use Rattle.scsi_cmd.specs.declared.Op.{Op}
use Rattle.scsi_cmd.specs.declared.Op.TheVariants.{TestUnitReady, Inquiry, ReadCapacity, Read, Write, Sync, Read16, Write16, ReadCapacity16}
use Rattle.scsi_cmd.specs.declared.Task.TheVariants.{Abort, Reset, Query}
use Rattle.uas_script.specs.declared.Line.{Line}
use Rattle.uas_profile.specs.declared.Pipe.{Pipe}
use Rattle.stream_array.specs.Map.{pipe_numbered}
use Rattle.uas_script.specs.declared.Line.TheVariants.{Submit, Task, CommandPipe, Engine, Event, Data, Status, Retire, Take, Drain}
use Rattle.uas_script.specs.declared.LineFault.{LineFault}
use Rattle.uas_script.specs.declared.LineFault.TheVariants.{NotAscii, UnknownWord, WrongNumberOfWords, NumberOutOfRange}
use Rattle.uas_script.specs.declared.ScriptFault.{ScriptFault}
use Rattle.uas_script.specs.declared.ScriptFault.TheVariants.{TooLong, Line as FaultyLine}
use Rattle.uas_script.specs.declared.RequestName.{RequestName}
use Rattle.uas_script.specs.declared.RequestName.TheVariants.{Tur as TurName, Inquiry as InquiryName, Capacity as CapacityName, Read as ReadName}
use Rattle.uas_script.specs.declared.RequestName.TheVariants.{Write as WriteName, Sync as SyncName, Abort as AbortName, Reset as ResetName}
use Rattle.uas_script.specs.declared.RequestName.TheVariants.{Query as QueryName}
use Rattle.uas_script.specs.declared.RequestName.TheVariants.{Read16 as Read16Name, Write16 as Write16Name, Capacity16 as Capacity16Name}
use Rattle.uas_script.specs.declared.StepName.{StepName}
use Rattle.uas_script.specs.declared.StepName.TheVariants.{Command as CommandName, Event as EventName, Data as DataName, Status as StatusName}
use Rattle.uas_script.specs.declared.StepName.TheVariants.{Engine as EngineName, Retire as RetireName, Take as TakeName, Drain as DrainName}
use Rattle.byte_io.specs.Words.{pieces, words, is_number, number_in}

-- WORDS OF A LINE, by their places from 0

-- the word at a place, as a number of this range
abbrev pub number_at : List (List ℕ) → ℕ → ℕ → ℕ → Option ℕ
number_at words place least most = option_and_then (number_in least most) (slice_get words place)

-- a last word that is there has to be `fua`
abbrev pub fua_or_none : Option (List ℕ) → Option Bool
fua_or_none None = Some false
fua_or_none (Some word) = if bytes_eq word (codes "fua") then Some true else None

abbrev pub fua_at : List (List ℕ) → ℕ → Option Bool
fua_at words place = fua_or_none (slice_get words place)

-- client numbers are below the number of clients
abbrev pub client_at : ℕ → List (List ℕ) → ℕ → Option ℕ
client_at clients words place = number_at words place 0 (clients - 1)

-- The greatest tag that clients of so many tags can have: that of the last of the most clients. Worked: 240 of 16 tags, 248 of 8, 243 of 9.
abbrev pub greatest_tag : ℕ → ℕ
greatest_tag tags = tags * most_clients tags

-- tags are 1 to that one
abbrev pub tag_at : ℕ → List (List ℕ) → ℕ → Option ℕ
tag_at tags words place = number_at words place 1 (greatest_tag tags)

-- pipes with streams are 2 to 4
abbrev pub pipe_at : List (List ℕ) → ℕ → Option Pipe
pipe_at words place = option_and_then pipe_numbered (number_at words place 2 4)

-- block numbers have 32 bits, those of 16-byte commands 64, counts and lengths 16, bytes 8
abbrev pub lba_at : List (List ℕ) → ℕ → Option ℕ
lba_at words place = number_at words place 0 4294967295

abbrev pub long_lba_at : List (List ℕ) → ℕ → Option ℕ
long_lba_at words place = number_at words place 0 18446744073709551615

abbrev pub count_at : List (List ℕ) → ℕ → Option ℕ
count_at words place = number_at words place 0 65535

abbrev pub byte_at : List (List ℕ) → ℕ → Option ℕ
byte_at words place = number_at words place 0 255

-- REQUESTS: `C tur`, `C inquiry LEN`, `C capacity`, `C read LBA COUNT [fua]`, `C write LBA COUNT BYTE [fua]`,
-- `C sync LBA COUNT`, `C read16 LBA COUNT [fua]`, `C write16 LBA COUNT BYTE [fua]`, `C capacity16 LEN`, `C abort TAG`, `C reset`,
-- `C query TAG`

abbrev pub request_named : List ℕ → Option RequestName
request_named word =
    if bytes_eq word (codes "tur") then Some TurName
    else (if bytes_eq word (codes "inquiry") then Some InquiryName
    else (if bytes_eq word (codes "capacity") then Some CapacityName
    else (if bytes_eq word (codes "read") then Some ReadName
    else (if bytes_eq word (codes "write") then Some WriteName
    else (if bytes_eq word (codes "sync") then Some SyncName
    else (if bytes_eq word (codes "read16") then Some Read16Name
    else (if bytes_eq word (codes "write16") then Some Write16Name
    else (if bytes_eq word (codes "capacity16") then Some Capacity16Name
    else (if bytes_eq word (codes "abort") then Some AbortName
    else (if bytes_eq word (codes "reset") then Some ResetName
    else (if bytes_eq word (codes "query") then Some QueryName
    else None)))))))))))

-- how many words its line has, the client's number and the name among them
abbrev pub request_has : RequestName → ℕ → Bool
request_has TurName count = count == 2
request_has InquiryName count = count == 3
request_has CapacityName count = count == 2
request_has ReadName count = count == 4 || count == 5
request_has WriteName count = count == 5 || count == 6
request_has SyncName count = count == 4
request_has Read16Name count = count == 4 || count == 5
request_has Write16Name count = count == 5 || count == 6
request_has Capacity16Name count = count == 3
request_has AbortName count = count == 3
request_has ResetName count = count == 2
request_has QueryName count = count == 3

-- a submission of an operation whose buffer is zeroed
abbrev pub zeroed : ℕ → Op → Line
zeroed client op = Submit client (record { op = op; fill = 0 })

-- READ and WRITE of 10 and of 16 bytes; none where a word is no number or out of range
abbrev pub read_of : ℕ → List (List ℕ) → Option Line
read_of client words =
    option_and_then (λ lba. option_and_then (λ count. option_map (λ fua. zeroed client (Read lba count fua))
    (fua_at words 4)) (count_at words 3)) (lba_at words 2)

abbrev pub write_of : ℕ → List (List ℕ) → Option Line
write_of client words =
    option_and_then (λ lba. option_and_then (λ count. option_and_then (λ fill. option_map (λ fua.
    Submit client (record { op = Write lba count fua; fill = fill }))
    (fua_at words 5)) (byte_at words 4)) (count_at words 3)) (lba_at words 2)

abbrev pub long_read_of : ℕ → List (List ℕ) → Option Line
long_read_of client words =
    option_and_then (λ lba. option_and_then (λ count. option_map (λ fua. zeroed client (Read16 lba count fua))
    (fua_at words 4)) (count_at words 3)) (long_lba_at words 2)

abbrev pub long_write_of : ℕ → List (List ℕ) → Option Line
long_write_of client words =
    option_and_then (λ lba. option_and_then (λ count. option_and_then (λ fill. option_map (λ fua.
    Submit client (record { op = Write16 lba count fua; fill = fill }))
    (fua_at words 5)) (byte_at words 4)) (count_at words 3)) (long_lba_at words 2)

-- what the words ask for of a client; none where one is no number or out of range
abbrev pub request_of : ℕ → ℕ → RequestName → List (List ℕ) → Option Line
request_of tags client TurName words = Some (zeroed client TestUnitReady)
request_of tags client InquiryName words = option_map (λ allocation. zeroed client (Inquiry allocation)) (count_at words 2)
request_of tags client CapacityName words = Some (zeroed client ReadCapacity)
request_of tags client ReadName words = read_of client words
request_of tags client WriteName words = write_of client words
request_of tags client SyncName words =
    option_and_then (λ lba. option_map (λ count. zeroed client (Sync lba count)) (count_at words 3)) (lba_at words 2)
request_of tags client Read16Name words = long_read_of client words
request_of tags client Write16Name words = long_write_of client words
request_of tags client Capacity16Name words = option_map (λ allocation. zeroed client (ReadCapacity16 allocation)) (count_at words 2)
request_of tags client AbortName words = option_map (λ tag. Task client (Abort tag)) (tag_at tags words 2)
request_of tags client ResetName words = Some (Task client Reset)
request_of tags client QueryName words = option_map (λ tag. Task client (Query tag)) (tag_at tags words 2)

abbrev pub submission_of : ℕ → ℕ → RequestName → List (List ℕ) → Option Line
submission_of clients tags name words = option_and_then (λ client. request_of tags client name words) (client_at clients words 0)

abbrev pub named_submission : ℕ → ℕ → List (List ℕ) → Option RequestName → Result Line LineFault
named_submission clients tags words None = Err UnknownWord
named_submission clients tags words (Some name) =
    if request_has name (length words) then ok_or (submission_of clients tags name words) NumberOutOfRange
    else Err WrongNumberOfWords

-- a line whose first word is a number
abbrev pub submission : ℕ → ℕ → List (List ℕ) → Result Line LineFault
submission clients tags words = named_submission clients tags words (option_and_then request_named (slice_get words 1))

-- STEPS: `command`, `engine`, `event`, `data TAG`, `status TAG`, `retire PIPE TAG`, `take C`, `drain`

abbrev pub step_named : List ℕ → Option StepName
step_named word =
    if bytes_eq word (codes "command") then Some CommandName
    else (if bytes_eq word (codes "engine") then Some EngineName
    else (if bytes_eq word (codes "event") then Some EventName
    else (if bytes_eq word (codes "data") then Some DataName
    else (if bytes_eq word (codes "status") then Some StatusName
    else (if bytes_eq word (codes "retire") then Some RetireName
    else (if bytes_eq word (codes "take") then Some TakeName
    else (if bytes_eq word (codes "drain") then Some DrainName
    else None)))))))

-- how many words its line has, the name among them
abbrev pub step_has : StepName → ℕ
step_has CommandName = 1
step_has EngineName = 1
step_has EventName = 1
step_has DataName = 2
step_has StatusName = 2
step_has RetireName = 3
step_has TakeName = 2
step_has DrainName = 1

abbrev pub step_of : ℕ → ℕ → StepName → List (List ℕ) → Option Line
step_of clients tags CommandName words = Some CommandPipe
step_of clients tags EngineName words = Some Engine
step_of clients tags EventName words = Some Event
step_of clients tags DataName words = option_map Data (tag_at tags words 1)
step_of clients tags StatusName words = option_map Status (tag_at tags words 1)
step_of clients tags RetireName words = option_and_then (λ pipe. option_map (Retire pipe) (tag_at tags words 2)) (pipe_at words 1)
step_of clients tags TakeName words = option_map Take (client_at clients words 1)
step_of clients tags DrainName words = Some Drain

-- a line whose first word isn't a number
abbrev pub named_step : ℕ → ℕ → List (List ℕ) → Option StepName → Result Line LineFault
named_step clients tags words None = Err UnknownWord
named_step clients tags words (Some name) =
    if length words == step_has name then ok_or (step_of clients tags name words) NumberOutOfRange
    else Err WrongNumberOfWords

-- LINES

abbrev pub some_line : Result Line LineFault → Result (Option Line) LineFault
some_line (Ok line) = Ok (Some line)
some_line (Err fault) = Err fault

abbrev pub line_with_first : ℕ → ℕ → List (List ℕ) → Option (List ℕ) → Result (Option Line) LineFault
line_with_first clients tags words None = Ok None
line_with_first clients tags words (Some first) =
    some_line (if is_number first then submission clients tags words else named_step clients tags words (step_named first))

-- what the words of a line ask for: nothing where there are none
abbrev pub line_of_words : ℕ → ℕ → List (List ℕ) → Result (Option Line) LineFault
line_of_words clients tags words = line_with_first clients tags words (slice_get words 0)

abbrev pub is_ascii : List ℕ → Bool
is_ascii bytes = list_all (λ byte. nat_lt byte 128) bytes

-- the first character is `#`
abbrev pub is_comment : List ℕ → Bool
is_comment bytes = slice_index bytes 0 == 35

-- what a line asks for, or the first of its faults
unfoldable pub line_of : ℕ → ℕ → List ℕ → Result (Option Line) LineFault
line_of clients tags bytes =
    if not (is_ascii bytes) then Err NotAscii
    else (if is_comment bytes then Ok None
    else line_of_words clients tags (words bytes))

-- SCRIPTS

-- The lines from this number on, after those that were read before, or the first fault.
unfoldable pub lines_after : ℕ → ℕ → List Line → ℕ → List (List ℕ) → Result (List Line) ScriptFault
lines_after clients tags before number [] = Ok before
lines_after clients tags before number (bytes ∷ rest) =
    go_on (λ lines. lines_after clients tags lines (number + 1) rest) (line_of clients tags bytes)
  where
    go_on : (List Line → Result (List Line) ScriptFault) → Result (Option Line) LineFault → Result (List Line) ScriptFault
    go_on after (Ok line) = after (before ++ option_to_list line)
    go_on after (Err fault) = Err (FaultyLine number fault)

-- A script of at most 1,048,576 bytes, of so many clients and so many tags of each: its lines, or its first fault.
unfoldable pub script : ℕ → ℕ → List ℕ → Result (List Line) ScriptFault
script clients tags bytes = if nat_lt 1048576 (length bytes) then Err TooLong else lines_after clients tags [] 1 (pieces bytes)

-- a result whose `Ok` holds a vector, as one whose `Ok` holds the list of its items
abbrev pub listed : {T E : Type 0} → Result (Vec T Global) E → Result (List T) E
listed (Ok items) = Ok items.items
listed (Err fault) = Err fault
