-- The fields that the device reads of a received unit (INCITS 471, information units), and the unit that a LUN addresses (SAM).
use Rattle.std.specs.Prelude.{ℕ, ◌*◌, ◌+◌, ◌==◌, Bool, not, if◌then◌else◌, List, [], ◌∷◌, take, drop, slice_index, slice_get, Option}
use Rattle.std.specs.Prelude.{None}
use Rattle.std.specs.List.{list_any}

-- the tag, bytes 2 and 3, big endian
abbrev pub tag_in : List ℕ → ℕ
tag_in bytes = slice_index bytes 2 * 256 + slice_index bytes 3

-- the LUN of a Command or Task Management unit, bytes 8 to 15
abbrev pub lun_in : List ℕ → List ℕ
lun_in bytes = take 8 (drop 8 bytes)

-- the CDB of a Command unit, bytes 16 to 31
abbrev pub cdb_in : List ℕ → List ℕ
cdb_in bytes = take 16 (drop 16 bytes)

-- the function of a Task Management unit, byte 4
abbrev pub function_in : List ℕ → ℕ
function_in bytes = slice_index bytes 4

-- the tag of the task that a Task Management unit names, bytes 6 and 7, big endian
abbrev pub task_tag_in : List ℕ → ℕ
task_tag_in bytes = slice_index bytes 6 * 256 + slice_index bytes 7

-- the LUN has the form 00 n and six zeros
abbrev pub is_plain_lun : List ℕ → Bool
is_plain_lun lun = not (list_any (λ place. not (slice_index lun place == 0)) (0 ∷ 2 ∷ 3 ∷ 4 ∷ 5 ∷ 6 ∷ 7 ∷ []))

-- what a LUN addresses in a list by unit number: the place n of 00 n and six zeros, where there is one
abbrev pub addressed : {U : Type 0} → List U → List ℕ → Option U
addressed units lun = if is_plain_lun lun then slice_get units (slice_index lun 1) else None
