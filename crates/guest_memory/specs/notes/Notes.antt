-- The ranges that were written to a memory.
use Rattle.std.specs.Prelude.{◌≡◌, ℕ, zero, suc, ◌+◌, ◌*◌, nat_lt, Bool, true, false, if◌then◌else◌, List, [], ◌∷◌, ◌++◌, length, map, take}
use Rattle.guest_memory.specs.Bytes.{Memory, is_in, written}
use Rattle.guest_memory.specs.declared.notes.WrittenRange.{WrittenRange}

-- the ranges that are noted, in the order of the writes; whether some aren't
abbrev pub Notes : Type 0
Notes = List WrittenRange × Bool

abbrev pub notes : List WrittenRange → ℕ → Bool → Notes
notes room used lost = (take used room, lost)

-- a range more is noted, where there is room for it
abbrev pub noted : ℕ → Notes → ℕ → ℕ → Notes
noted room had at n =
    if nat_lt (length had.0) room then (had.0 ++ (record { address = at; length = n } ∷ []), had.1) else (had.0, true)

-- a write: bytes from an address on
pub record Write : Type 0 where
  pub at : ℕ
  pub bytes : List ℕ

abbrev pub range_of : Write → WrittenRange
range_of write = record { address = write.at; length = length write.bytes }

-- a memory after writes, one behind another
unfoldable pub all_written : Memory → List Write → Memory
all_written memory [] = memory
all_written memory (write ∷ writes) = all_written (written memory write.at write.bytes) writes

-- what is noted of writes: their ranges as far as there is room, and whether there are more
abbrev pub notes_of : ℕ → List Write → Notes
notes_of room writes = (take room (map range_of writes), nat_lt room (length writes))

-- The memory is the one that it began as after some writes, and what is noted are the ranges of these.
abbrev pub AreNoted : Memory → Memory → ℕ → Notes → Type 0
AreNoted began now room had = ∥ ((writes : List Write) × (now ≡ all_written began writes) × (had ≡ notes_of room writes)) ∥₁

-- a byte isn't in a range
abbrev pub IsBeside : ℕ → WrittenRange → Type 0
IsBeside a range = is_in range.address range.length a ≡ false

-- one number for two loans
unfoldable pub both_loans : ℕ → ℕ → ℕ
both_loans zero other = 2 * other + 1
both_loans (suc one) other = 2 * both_loans one other
