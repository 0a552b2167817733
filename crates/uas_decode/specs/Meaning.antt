-- What a line tells: where its bytes stand, if it says so, and what they mean to the codec of their kind, or why they mean nothing.
use Rattle.std.specs.Prelude.{ℕ, ◌+◌, ◌-◌, ◌*◌, ◌/◌, ◌%◌, ◌^◌, ◌==◌, nat_lt, nat_le, Bool, true, false, not, ◌&&◌, ◌||◌, if◌then◌else◌, List, ◌++◌, length}
use Rattle.std.specs.Prelude.{take, drop, replicate, slice_index, slice_index_or, slice_get, codes, Option, Some, None, option_map, option_and_then, Result, Ok, Err, []}
use Rattle.std.specs.List.{list_all}
use Rattle.std.specs.Str.{bytes_eq}
use Rattle.std.specs.Int.{w16, w64, from_be_bytes, from_le_bytes}
use Rattle.byte_io.specs.Words.{words, number_in}
use Rattle.arrayvec.specs.ArrayVec.{ArrayVec}
use Rattle.uas_iu.specs.declared.Iu.{Iu}
use Rattle.uas_iu.specs.declared.Iu.TheVariants as unit
use Rattle.uas_iu.specs.declared.IuFault.{IuFault}
use Rattle.uas_iu.specs.declared.IuFault.TheVariants.{UnknownId, Short, Long}
use Rattle.uas_iu.specs.Faults.{first_fault, identifier}
use Rattle.uas_iu.specs.Heads.{tag_told}
use Rattle.xhci_trb.specs.declared.TrbFault.{TrbFault}
use Rattle.xhci_trb.specs.Words.{words_in}
use Rattle.xhci_trb.specs.Text.{fault_in}
use Rattle.xhci_trb.specs.Reader.{trb_in, cycle_in}
use Rattle.scsi_cmd.specs.declared.Op.{Op}
use Rattle.scsi_cmd.specs.declared.Sense.{Sense}
use Rattle.scsi_cmd.specs.Meaning.{asked}
use Rattle.scsi_cmd.specs.Sense.{sense_bytes, invalid_operation_code}
use Rattle.host_commands.specs.declared.BlockLength.TheVariants.{Bytes512}
use Rattle.host_commands.specs.declared.CommandSet.TheVariants.{Host}
use Rattle.host_commands.specs.declared.HostCommand.{HostCommand}
use Rattle.host_commands.specs.declared.Work.{Work}
use Rattle.host_commands.specs.Commands.{named_command}
use Rattle.host_commands.specs.Fields.{action_in}
use Rattle.host_commands.specs.Meaning.{asked_of}
use Rattle.host_commands.specs.Shapes.{Shape, plain_shape}
use Rattle.stream_array.specs.declared.Dequeue.{Dequeue}
use Rattle.uas_decode.specs.declared.Answer.{Answer}
use Rattle.uas_decode.specs.declared.Meaning.{Meaning}
use Rattle.uas_decode.specs.declared.Meaning.TheVariants as meaning
use Rattle.uas_decode.specs.declared.Kind.{Kind}
use Rattle.uas_decode.specs.declared.Kind.TheVariants as kind
use Rattle.uas_decode.specs.declared.Refusal.{Refusal}
use Rattle.uas_decode.specs.declared.Refusal.TheVariants as refusal
use Rattle.uas_decode.specs.declared.LineFault.{LineFault}
use Rattle.uas_decode.specs.declared.LineFault.TheVariants.{WrongNumberOfDigits, NumberOutOfRange, ReservedSet, NotFixedFormat}
use Rattle.uas_decode.specs.Line.{bytes_of, has_address, is_cdb_digits, joined, kind_named, names_stream}

abbrev pub Told : Type 0
Told = Result Answer Refusal

abbrev pub refused : LineFault → Told
refused fault = Err (refusal.Line fault)

-- bytes that stand nowhere in particular
abbrev pub answer : Meaning → Answer
answer meaning = record { address = None; meaning = meaning }

-- UNITS

-- The unit that bytes without a fault are the text of: tag in bytes 2 and 3, LUN in 8 to 15, CDB from 16 on; a Sense unit's status in
-- byte 6 and its sense from 16 on; a response code in byte 7; a function in byte 4 and the tag of its task in 6 and 7.
abbrev pub unit_in : List ℕ → Iu
unit_in bytes =
    if identifier bytes == 1 then unit.Command (tag_told bytes) (take 8 (drop 8 bytes)) (drop 16 bytes)
    else (if identifier bytes == 3 then unit.Sense (tag_told bytes) (slice_index bytes 6) (record { items = drop 16 bytes })
    else (if identifier bytes == 4 then unit.Response (tag_told bytes) (slice_index bytes 7)
    else unit.Task (tag_told bytes) (slice_index bytes 4) (slice_index bytes 6 * 256 + slice_index bytes 7) (drop 8 bytes)))

-- the number of 8 bytes, the highest first
unfoldable pub address_in : List ℕ → ℕ
address_in bytes = from_be_bytes w64 (take 8 bytes)

-- there are as many bytes as a unit of their identifier has
abbrev pub size_fits : Option IuFault → Bool
size_fits (Some UnknownId) = false
size_fits (Some Short) = false
size_fits (Some Long) = false
size_fits _ = true

unfoldable pub is_sized : List ℕ → Bool
is_sized bytes = size_fits (first_fault bytes)

-- the unit, or its first fault
unfoldable pub unit_read : List ℕ → Result Iu IuFault
unit_read bytes = unless_fault (first_fault bytes)
  where
    unless_fault : Option IuFault → Result Iu IuFault
    unless_fault None = Ok (unit_in bytes)
    unless_fault (Some fault) = Err fault

-- at most 4,096 bytes are read as a unit
unfoldable pub unit_told : Option ℕ → List ℕ → Told
unit_told address bytes = if nat_lt 4096 (length bytes) then refused WrongNumberOfDigits else told (unit_read bytes)
  where
    told : Result Iu IuFault → Told
    told (Ok unit) = Ok (record { address = address; meaning = meaning.Unit unit })
    told (Err fault) = Err (refusal.Unit fault)

-- A first word of 16 digits with more behind it is an address, unless the bytes with it are as many as their unit has.
-- By hand: 0000000020001200 03000012 .. is a Sense unit at 20001200h, and 0500001801000012 0002000000000000 a Task Management unit.
unfoldable pub unit_split : Bool → List ℕ → Told
unit_split leads bytes =
    if leads && nat_lt 8 (length bytes) && not (is_sized bytes) then unit_told (Some (address_in bytes)) (drop 8 bytes) else unit_told None bytes

-- TRBS

unfoldable pub trb_told : Option ℕ → List ℕ → Told
trb_told address bytes = of_fault (fault_in (words_in bytes))
  where
    of_fault : Option TrbFault → Told
    of_fault None = Ok (record { address = address; meaning = meaning.Trb (trb_in (words_in bytes)) (cycle_in (words_in bytes)) })
    of_fault (Some fault) = Err (refusal.Trb fault)

-- 16 bytes are a TRB; a first word of 16 digits with 16 bytes behind it is its address
unfoldable pub trb_split : Bool → List ℕ → Told
trb_split leads bytes =
    if length bytes == 16 then trb_told None bytes
    else (if leads && length bytes == 24 then trb_told (Some (address_in bytes)) (drop 8 bytes) else refused WrongNumberOfDigits)

-- CONTEXTS AND DOORBELLS

-- The entry that 16 bytes are the context of (xHCI 6.2.4.1): none for 16 zeros; else SCT is 1 and the last 8 bytes are 0.
abbrev pub entry_with : ℕ → Bool → Result (Option Dequeue) LineFault
entry_with word is_clear =
    if word == 0 && is_clear then Ok None
    else (if not (word / 2 % 8 == 1) || not is_clear then Err ReservedSet
    else Ok (Some (record { pointer = word / 16 * 16; cycle = word % 2 == 1 })))

unfoldable pub context_read : List ℕ → Result (Option Dequeue) LineFault
context_read bytes = entry_with (from_le_bytes w64 (take 8 bytes)) (list_all (λ byte. byte == 0) (drop 8 bytes))

abbrev pub entry_told : Result (Option Dequeue) LineFault → Told
entry_told (Ok entry) = Ok (answer (meaning.Context entry))
entry_told (Err fault) = refused fault

unfoldable pub context_told : List ℕ → Told
context_told bytes = if length bytes == 16 then entry_told (context_read bytes) else refused WrongNumberOfDigits

-- The digits of a doorbell are those of its number: bits 31:16, the stream, come first, and bits 7:0, the target, last (xHCI 5.6).
unfoldable pub doorbell_told : List ℕ → Told
doorbell_told bytes =
    if not (length bytes == 4) then refused WrongNumberOfDigits
    else (if not (slice_index bytes 2 == 0) then refused ReservedSet
    else Ok (answer (meaning.Doorbell (slice_index bytes 3) (256 * slice_index bytes 0 + slice_index bytes 1))))

-- CDBS AND SENSE

abbrev pub op_told : Result Op Sense → Told
op_told (Ok op) = Ok (answer (meaning.Cdb op))
op_told (Err sense) = Err (refusal.Cdb sense)

-- a CDB, filled up with zeros, for a unit of so many blocks
unfoldable pub cdb_told : ℕ → List ℕ → Told
cdb_told blocks bytes =
    if length bytes == 6 || length bytes == 10 || length bytes == 16
    then op_told (asked (bytes ++ replicate (16 - length bytes) 0) blocks)
    else refused WrongNumberOfDigits

-- The largest logical unit that there can be, and the longest transfer: the bytes of a CDB of the host set don't tell those of its device.
abbrev pub largest : Shape
largest = plain_shape (2 ^ 48) Bytes512 0

abbrev pub work_told : HostCommand → Result Work Sense → Told
work_told command (Ok work) = Ok (answer (meaning.HostCdb command work))
work_told command (Err sense) = Err (refusal.Cdb sense)

abbrev pub host_asked : List ℕ → Told
host_asked cdb = of_command (named_command (slice_index cdb 0) (action_in cdb))
  where
    of_command : Option HostCommand → Told
    of_command None = Err (refusal.Cdb invalid_operation_code)
    of_command (Some command) = work_told command (asked_of cdb (Host 65528) largest 1 None)

-- a CDB of the host set, filled up with zeros
unfoldable pub host_told : List ℕ → Told
host_told bytes =
    if length bytes == 6 || length bytes == 10 || length bytes == 12 || length bytes == 16
    then host_asked (bytes ++ replicate (16 - length bytes) 0)
    else refused WrongNumberOfDigits

-- the key and the codes in fixed sense data
abbrev pub sense_in : List ℕ → Sense
sense_in bytes = record { key = slice_index bytes 2; asc = slice_index bytes 12; ascq = slice_index bytes 13 }

unfoldable pub sense_read : List ℕ → Option Sense
sense_read bytes = if bytes_eq bytes (sense_bytes (sense_in bytes)) then Some (sense_in bytes) else None

abbrev pub sense_named : Option Sense → Told
sense_named (Some sense) = Ok (answer (meaning.Sense sense))
sense_named None = refused NotFixedFormat

unfoldable pub sense_told : List ℕ → Told
sense_told bytes = if length bytes == 18 then sense_named (sense_read bytes) else refused WrongNumberOfDigits

-- LINES

-- what bytes of a kind tell, of which the first 8 may be an address
unfoldable pub answer_of_bytes : Kind → Bool → List ℕ → Told
answer_of_bytes kind.Unit leads bytes = unit_split leads bytes
answer_of_bytes kind.Trb leads bytes = trb_split leads bytes
answer_of_bytes kind.Context leads bytes = context_told bytes
answer_of_bytes kind.Doorbell leads bytes = doorbell_told bytes
answer_of_bytes kind.Cdb leads bytes = cdb_told 65536 bytes
answer_of_bytes kind.HostCdb leads bytes = host_told bytes
answer_of_bytes kind.Sense leads bytes = sense_told bytes

abbrev pub on_bytes : (List ℕ → Told) → Result (List ℕ) LineFault → Told
on_bytes told (Ok bytes) = told bytes
on_bytes told (Err fault) = refused fault

unfoldable pub bytes_answer : Kind → List (List ℕ) → Told
bytes_answer kind words = on_bytes (answer_of_bytes kind (has_address words)) (bytes_of words)

-- `context BYTES` has 32 digits; else the first two of three words or more are PIPE and STREAM
unfoldable pub context_answer : List (List ℕ) → Told
context_answer words =
    if length (joined words) == 32 || nat_lt (length words) 3 then bytes_answer kind.Context words
    else (if names_stream words then bytes_answer kind.Context (drop 2 words) else refused NumberOutOfRange)

abbrev pub on_blocks : List (List ℕ) → Option ℕ → Told
on_blocks words None = refused NumberOutOfRange
on_blocks words (Some blocks) = on_bytes (cdb_told blocks) (bytes_of words)

-- `cdb BYTES` has the digits of a CDB; where all words but the last have them instead, the last is BLOCKS
unfoldable pub cdb_answer : List (List ℕ) → Told
cdb_answer words =
    let before = take (length words - 1) words in
    if is_cdb_digits (length (joined words)) || not (is_cdb_digits (length (joined before))) then bytes_answer kind.Cdb words
    else on_blocks before (number_in 0 4294967295 (slice_index_or words (length words - 1) []))

-- what the words after the first one tell
unfoldable pub kind_answer : Kind → List (List ℕ) → Told
kind_answer kind.Context words = context_answer words
kind_answer kind.Cdb words = cdb_answer words
kind_answer kind words = bytes_answer kind words

-- `event` alone is a step of a trace
abbrev pub is_step : List ℕ → List (List ℕ) → Bool
is_step first words = length words == 1 && bytes_eq first (codes "event")

abbrev pub answer_with_first : List (List ℕ) → Option (List ℕ) → Option Told
answer_with_first words None = None
answer_with_first words (Some first) =
    if is_step first words then None else option_map (λ kind. kind_answer kind (drop 1 words)) (kind_named first)

unfoldable pub answer_of_words : List (List ℕ) → Option Told
answer_of_words words = answer_with_first words (slice_get words 0)

-- What a line tells: nothing where its first word names no bytes.
unfoldable pub answer_of : List ℕ → Option Told
answer_of line = answer_of_words (words line)
