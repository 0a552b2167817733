-- The unit grammar (INCITS 471, information units): which whole byte list is which unit's.
-- Numbers of two bytes are big endian. A byte written as 0 is reserved, or holds what is not used.
use Rattle.std.specs.Prelude.{◌≡◌, ℕ, ◌+◌, ◌^◌, ◌<◌, ◌≤◌, List, [], ◌∷◌, ◌++◌, length}
use Rattle.std.specs.Int.{to_be_bytes, w16}
use Rattle.arrayvec.specs.ArrayVec.{array_vec_len}
use Rattle.uas_iu.specs.declared.Iu.{Iu}
use Rattle.uas_iu.specs.declared.Iu.TheVariants.{Command, Sense, Response, Task}
use Rattle.uas_iu.specs.declared.TheConstants.{MAX_SENSE_BYTES}
use Rattle.uas_profile.specs.declared.TheConstants.{COMMAND_BYTES}

-- the bytes of a unit
-- TEST UNIT READY on tag 1 is 01 00 00 01 and 28 zeros; GOOD on it is 03 00 00 01 and 12 zeros; the
-- abort of tag 18 of unit 2 by tag 24 is 05 00 00 18 01 00 00 12 00 02 and six zeros, its answer
-- 04 00 00 18 00 00 00 00
unfoldable pub unit_text : Iu → List ℕ
-- identifier, 0; tag; priority and attribute, 0, additional CDB length, 0; LUN; CDB
unit_text (Command tag lun cdb) =
    (1 ∷ 0 ∷ []) ++ to_be_bytes w16 tag ++ (0 ∷ 0 ∷ 0 ∷ 0 ∷ []) ++ lun ++ cdb
-- identifier, 0; tag; status qualifier, status; seven zeros; length of the sense; sense
unit_text (Sense tag status sense) =
    (3 ∷ 0 ∷ []) ++ to_be_bytes w16 tag ++ (0 ∷ 0 ∷ status ∷ []) ++ (0 ∷ 0 ∷ 0 ∷ 0 ∷ 0 ∷ 0 ∷ 0 ∷ [])
    ++ to_be_bytes w16 (array_vec_len sense) ++ sense.items
-- identifier, 0; tag; additional information, response code
unit_text (Response tag code) = (4 ∷ 0 ∷ []) ++ to_be_bytes w16 tag ++ (0 ∷ 0 ∷ 0 ∷ code ∷ [])
-- identifier, 0; tag; function, 0; tag of the task; LUN
unit_text (Task tag function task_tag lun) =
    (5 ∷ 0 ∷ []) ++ to_be_bytes w16 tag ++ (function ∷ 0 ∷ []) ++ to_be_bytes w16 task_tag ++ lun

-- the parts of a unit fit their places: a tag has 16 bits, a LUN 8 bytes, a CDB 16, sense at most 96
-- (that a part of one byte is below 256 says the byte list itself)
abbrev pub Fits : Iu → Type 0
Fits (Command tag lun cdb) = (tag < 2 ^ 16) × (length lun ≡ 8) × (length cdb ≡ 16)
Fits (Sense tag status sense) = (tag < 2 ^ 16) × (array_vec_len sense ≤ MAX_SENSE_BYTES)
Fits (Response tag code) = tag < 2 ^ 16
Fits (Task tag function task_tag lun) = (tag < 2 ^ 16) × (task_tag < 2 ^ 16) × (length lun ≡ 8)

-- how many bytes a unit has
abbrev pub unit_size : Iu → ℕ
unit_size (Command tag lun cdb) = COMMAND_BYTES
unit_size (Sense tag status sense) = 16 + array_vec_len sense
unit_size (Response tag code) = 8
unit_size (Task tag function task_tag lun) = 16

-- the byte list is the text of the unit
abbrev pub IsTextOf : List ℕ → Iu → Type 0
IsTextOf bytes unit = Fits unit × (bytes ≡ unit_text unit)
