-- The lines that the program prints.
use Rattle.std.specs.Prelude.{ℕ, ◌==◌, Bool, true, false, not, if◌then◌else◌, List, [], ◌∷◌, ◌++◌, length, take, slice_index, codes}
use Rattle.std.specs.Fmt.{decimal}
use Rattle.hex.specs.Hex.{encode_lower}
use Rattle.scsi_cmd.specs.declared.Reply.{Reply}
use Rattle.scsi_cmd.specs.declared.Reply.TheVariants.{Status, Aborted, Task}
use Rattle.scsi_cmd.specs.Replies.{reply_ticket}
use Rattle.scsi_cmd.specs.declared.SubmitFault.{SubmitFault}
use Rattle.scsi_cmd.specs.declared.SubmitFault.TheVariants.{NotYours, InUse, BadLength, TooLong, OutOfTurn, NoSuchTask}
use Rattle.tag_range.specs.declared.Refused.{Refused}
use Rattle.tag_range.specs.declared.Refused.TheVariants.{NoTag, TaskBusy, Worn}

-- `C T `: the client and the ticket
abbrev pub line_start : ℕ → ℕ → List ℕ
line_start client ticket = decimal client ++ codes " " ++ decimal ticket ++ codes " "

-- where there are bytes, the first 36 in hexadecimal
abbrev pub shown_bytes : List ℕ → List ℕ
shown_bytes bytes = if length bytes == 0 then [] else codes " " ++ encode_lower (take 36 bytes)

-- `good N`, and the bytes that came in.
-- By hand: five bytes 00 00 06 02 1f print `good 5 000006021f`.
abbrev pub good_words : List ℕ → List ℕ
good_words bytes = codes "good " ++ decimal (length bytes) ++ shown_bytes bytes ++ codes "\n"

-- the byte of sense data at a place, 0 where there is none
abbrev pub hex_at : List ℕ → ℕ → List ℕ
hex_at sense place = encode_lower (slice_index sense place ∷ [])

-- `check KK/AA/QQ`: sense key, additional sense code and qualifier are bytes 2, 12 and 13 of the fixed format
abbrev pub sense_line : List ℕ → List ℕ
sense_line sense = codes "check " ++ hex_at sense 2 ++ codes "/" ++ hex_at sense 12 ++ codes "/" ++ hex_at sense 13 ++ codes "\n"

-- `task CC`: the response code
abbrev pub task_words : ℕ → List ℕ
task_words code = codes "task " ++ encode_lower (code ∷ []) ++ codes "\n"

-- the status GOOD is 0
abbrev pub is_good : ℕ → Bool
is_good status = status == 0

-- the bytes of a command that came in: those of its buffer, where it moves data to the host
abbrev pub bytes_in : Bool → List ℕ → List ℕ
bytes_in brings_in buffer = if brings_in then buffer else []

-- what a reply tells, whose command moves data to the host or not
abbrev pub reply_words : Bool → Reply → List ℕ
reply_words brings_in (Status tag ticket status sense buffer) =
    if is_good status then good_words (bytes_in brings_in buffer) else sense_line sense.items
reply_words brings_in (Aborted tag ticket buffer) = codes "aborted\n"
reply_words brings_in (Task tag ticket code) = task_words code

-- The line of a reply to a client: `C T good N HEX`, `C T check KK/AA/QQ`, `C T aborted` or `C T task CC`.
-- By hand: five bytes 00 00 06 02 1f of ticket 2 of client 1 print `1 2 good 5 000006021f`; 5/21/00 of ticket 0 of client 2
-- prints `2 0 check 05/21/00`.
abbrev pub reply_line : ℕ → Bool → Reply → List ℕ
reply_line client brings_in reply = line_start client (reply_ticket reply) ++ reply_words brings_in reply

-- whether a reply tells a check or an abort
abbrev pub is_failure : Reply → Bool
is_failure (Status tag ticket status sense buffer) = not (is_good status)
is_failure (Aborted tag ticket buffer) = true
is_failure (Task tag ticket code) = false

-- the names of refusals
abbrev pub fault_name : SubmitFault → List ℕ
fault_name NotYours = codes "NotYours"
fault_name InUse = codes "InUse"
fault_name BadLength = codes "BadLength"
fault_name TooLong = codes "TooLong"
fault_name (OutOfTurn least) = codes "OutOfTurn"
fault_name NoSuchTask = codes "NoSuchTask"

abbrev pub refused_name : Refused → List ℕ
refused_name NoTag = codes "NoTag"
refused_name TaskBusy = codes "TaskBusy"
refused_name Worn = codes "Worn"

-- `C refused NAME`
abbrev pub refusal_line : ℕ → List ℕ → List ℕ
refusal_line client name = decimal client ++ codes " refused " ++ name ++ codes "\n"

-- a single step that wasn't due
abbrev pub idle_line : List ℕ
idle_line = codes "idle\n"
