-- What a Sense or a Response unit tells before its sense.
use Rattle.std.specs.Prelude.{ℕ, ◌+◌, ◌*◌, ◌==◌, if◌then◌else◌, List, slice_index, Option, None, Some, is_none}
use Rattle.uas_iu.specs.declared.AnswerHead.{AnswerHead}
use Rattle.uas_iu.specs.declared.AnswerHead.TheVariants.{Sense, Response}
use Rattle.uas_iu.specs.Faults.{first_fault, identifier}

-- the number in bytes 2 and 3
abbrev pub tag_told : List ℕ → ℕ
tag_told bytes = slice_index bytes 2 * 256 + slice_index bytes 3

-- Byte 6 is a Sense unit's status, and byte 7 a Response unit's code. Worked: 03 00 00 12 00 00 02 and nine zeros tell the
-- status 02h of tag 18, and 04 00 00 18 00 00 00 09 the code 09h of tag 24.
abbrev pub head_told : List ℕ → Option AnswerHead
head_told bytes =
    if identifier bytes == 3 then Some (Sense (tag_told bytes) (slice_index bytes 6))
    else (if identifier bytes == 4 then Some (Response (tag_told bytes) (slice_index bytes 7))
    else None)

-- bytes that have a fault tell nothing
abbrev pub answer_head : List ℕ → Option AnswerHead
answer_head bytes = if is_none (first_fault bytes) then head_told bytes else None
