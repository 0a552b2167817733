-- What is wrong with a byte list that is no unit's: five tests, of which the first that fails is told.
use Rattle.std.specs.Prelude.{ℕ, ◌+◌, ◌*◌, Bool, false, not, ◌&&◌, ◌||◌, if◌then◌else◌, ◌==◌, nat_lt, List, [], ◌∷◌, length, slice_index, Option, None, Some}
use Rattle.std.specs.List.{list_any}
use Rattle.uas_iu.specs.declared.IuFault.{IuFault}
use Rattle.uas_iu.specs.declared.IuFault.TheVariants.{UnknownId, Short, Long, ReservedSet, LengthField}
use Rattle.uas_profile.specs.declared.TheConstants.{COMMAND_BYTES, STATUS_BYTES}

-- byte 0; 0, which is no unit's, where there is no byte
abbrev pub identifier : List ℕ → ℕ
identifier bytes = slice_index bytes 0

-- the bytes that a unit of this identifier has at least: all of them, but those of the sense
abbrev pub fixed_size : ℕ → ℕ
fixed_size id = if id == 1 then COMMAND_BYTES else (if id == 4 then 8 else 16)

-- the bytes that it has at most
abbrev pub greatest_size : ℕ → ℕ
greatest_size id = if id == 3 then STATUS_BYTES else fixed_size id

-- the places of the bytes that are said to be 0; byte 6 of Command is a length
abbrev pub reserved_places : ℕ → List ℕ
reserved_places id =
    if id == 1 then 1 ∷ 4 ∷ 5 ∷ 7 ∷ []
    else (if id == 3 then 1 ∷ 4 ∷ 5 ∷ 7 ∷ 8 ∷ 9 ∷ 10 ∷ 11 ∷ 12 ∷ 13 ∷ []
    else (if id == 4 then 1 ∷ 4 ∷ 5 ∷ 6 ∷ []
    else 1 ∷ 5 ∷ []))

-- there is a byte 0, and it is none of 01h, 03h, 04h and 05h
abbrev pub is_unknown : List ℕ → Bool
is_unknown bytes =
    nat_lt 0 (length bytes)
    && not (identifier bytes == 1 || identifier bytes == 3 || identifier bytes == 4 || identifier bytes == 5)

-- there is no byte, or there are fewer than the fixed ones
abbrev pub is_short : List ℕ → Bool
is_short bytes = nat_lt (length bytes) (fixed_size (identifier bytes))

abbrev pub is_long : List ℕ → Bool
is_long bytes = nat_lt (greatest_size (identifier bytes)) (length bytes)

-- a byte said to be 0 isn't
abbrev pub is_reserved_set : List ℕ → Bool
is_reserved_set bytes =
    list_any (λ place. not (slice_index bytes place == 0)) (reserved_places (identifier bytes))

-- the additional CDB length isn't 0, or the sense length isn't the number of bytes after byte 15: a Sense
-- unit of 34 bytes has 00 12 in bytes 14 and 15
abbrev pub is_length_wrong : List ℕ → Bool
is_length_wrong bytes =
    if identifier bytes == 1 then not (slice_index bytes 6 == 0)
    else (if identifier bytes == 3 then not (16 + (slice_index bytes 14 * 256 + slice_index bytes 15) == length bytes)
    else false)

-- the first of the tests that holds
-- no bytes are Short, and so are the 31 bytes 01 00 00 12 ..; 33 bytes 01 01 .. are Long, and 32 such ReservedSet;
-- 113 bytes 03 .. are Long, and 112 aren't
unfoldable pub first_fault : List ℕ → Option IuFault
first_fault bytes =
    if is_unknown bytes then Some UnknownId
    else (if is_short bytes then Some Short
    else (if is_long bytes then Some Long
    else (if is_reserved_set bytes then Some ReservedSet
    else (if is_length_wrong bytes then Some LengthField
    else None))))
