-- What lent bytes hold: those from the base on, below 2 ^ 64.
use Rattle.std.specs.Prelude.{ℕ, ◌+◌, ◌-◌, ◌^◌, ◌≤◌, nat_le, nat_lt, ◌&&◌, if◌then◌else◌, length, None, slice_get}
use Rattle.guest_memory.specs.Bytes.{Memory}
use Rattle.guest_memory.specs.declared.lend.Lent.{Lent}

unfoldable pub lent_in : Lent → Memory
lent_in lent a = if nat_le lent.base a && nat_lt a (2 ^ 64) then slice_get lent.bytes.now (a - lent.base) else None

-- all of a range is lent
abbrev pub HasAll : Lent → ℕ → ℕ → Type 0
HasAll lent at n = (lent.base ≤ at) × (at + n ≤ lent.base + length lent.bytes.now) × (at + n ≤ 2 ^ 64)
