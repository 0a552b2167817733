-- One access, and which accesses there are: registers of the controller, and memory that was lent.
use Rattle.std.specs.Prelude.{ℕ, ◌+◌, ◌-◌, ◌^◌, ◌≤◌, ◌==◌, ◌&&◌, nat_le, min, if◌then◌else◌, Bool, true, false, Option, Some, None}
use Rattle.host_layout.specs.declared.layout.Layout.{Layout}
use Rattle.host_layout.specs.Shapes.{bytes_of}
use Rattle.bring_up.specs.declared.access.Access.{Access}
use Rattle.bring_up.specs.declared.access.Access.TheVariants.{Read32, Load, Write32, Store, Rest}
use Rattle.bring_up.specs.declared.access.Stored.{Stored}
use Rattle.bring_up.specs.declared.access.Stored.TheVariants.{Zeros, Four, Eight, Sixteen, ThirtyTwo}

abbrev pub stored_length : Stored → ℕ
stored_length (Zeros count) = count
stored_length (Four bytes) = 4
stored_length (Eight bytes) = 8
stored_length (Sixteen bytes) = 16
stored_length (ThirtyTwo bytes) = 32

abbrev pub is_read : Access → Bool
is_read (Read32 offset) = true
is_read (Load at length) = true
is_read (Write32 offset value) = false
is_read (Store at bytes) = false
is_read (Rest until) = false

abbrev pub is_written : Access → Bool
is_written (Read32 offset) = false
is_written (Load at length) = false
is_written (Write32 offset value) = true
is_written (Store at bytes) = true
is_written (Rest until) = false

-- times are in ms, and end at 2^64 - 1
abbrev pub later : ℕ → ℕ → ℕ
later now ms = min (now + ms) (2 ^ 64 - 1)

-- the place of a register
abbrev pub near : ℕ → ℕ
near offset = min offset (2 ^ 32 - 1)

abbrev pub read_at : ℕ → Access
read_at offset = Read32 (near offset)

abbrev pub write_at : ℕ → ℕ → Access
write_at offset value = Write32 (near offset) value

abbrev pub store_in : Option ℕ → Stored → Access
store_in None bytes = Rest 0
store_in (Some at) bytes = Store at bytes

-- of no bytes nothing is told but a rest that is over
abbrev pub load_in : Option ℕ → ℕ → Access
load_in None length = Rest 0
load_in (Some at) length = if length == 0 then Rest 0 else Load at length

-- WHICH ACCESSES ARE TOLD

-- the four bytes of a register are below the end of the registers
abbrev pub is_register : ℕ → ℕ → Bool
is_register bar_bytes offset = nat_le (offset + 4) bar_bytes

-- bytes are of the memory that was lent
abbrev pub is_lent : Option Layout → ℕ → ℕ → Bool
is_lent None at length = false
is_lent (Some layout) at length =
    nat_le layout.base at && nat_le length (bytes_of layout.shape) && nat_le (at - layout.base) (bytes_of layout.shape - length)

abbrev pub is_inside : Access → ℕ → Option Layout → Bool
is_inside (Read32 offset) bar_bytes layout = is_register bar_bytes offset
is_inside (Write32 offset value) bar_bytes layout = is_register bar_bytes offset
is_inside (Load at length) bar_bytes layout = is_lent layout at length
is_inside (Store at bytes) bar_bytes layout = is_lent layout at (stored_length bytes)
is_inside (Rest until) bar_bytes layout = true

abbrev pub kept : Access → ℕ → Option Layout → Access
kept access bar_bytes layout = if is_inside access bar_bytes layout then access else Rest 0

-- WHAT IS PROMISED OF EACH ACCESS: registers below the end of the registers, loads and stores within the lent memory

abbrev pub IsWithin : Option Layout → ℕ → ℕ → Type 0
IsWithin None at length = ⊥
IsWithin (Some layout) at length = (layout.base ≤ at) × (at + length ≤ layout.base + bytes_of layout.shape)

abbrev pub IsInside : ℕ → Option Layout → Access → Type 0
IsInside bar_bytes layout (Read32 offset) = offset + 4 ≤ bar_bytes
IsInside bar_bytes layout (Write32 offset value) = offset + 4 ≤ bar_bytes
IsInside bar_bytes layout (Load at length) = IsWithin layout at length
IsInside bar_bytes layout (Store at bytes) = IsWithin layout at (stored_length bytes)
IsInside bar_bytes layout (Rest until) = Unit {0}
