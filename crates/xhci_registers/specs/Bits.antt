-- Bits of a register.
use Rattle.std.specs.Prelude.{ℕ, ◌+◌, ◌-◌, ◌*◌, ◌/◌, ◌%◌, ◌^◌, ◌==◌, Bool, true, false}

-- whether this bit of a value is set; bit 0 is the lowest
abbrev pub is_set : ℕ → ℕ → Bool
is_set value place = value / 2 ^ place % 2 == 1

-- the value of a bit that stands there
abbrev pub bit : Bool → ℕ → ℕ
bit true value = value
bit false value = 0

-- the bits from this place on, of a field with so many values: 2 of them are one bit, 16 are four
abbrev pub field : ℕ → ℕ → ℕ → ℕ
field value place values = value / 2 ^ place % values

-- a value rounded down to a multiple
abbrev pub multiple : ℕ → ℕ → ℕ
multiple value step = value - value % step

-- a register of 64 bits with another low or high half
abbrev pub with_low : ℕ → ℕ → ℕ
with_low register value = register / 2 ^ 32 * 2 ^ 32 + value

abbrev pub with_high : ℕ → ℕ → ℕ
with_high register value = value * 2 ^ 32 + register % 2 ^ 32
