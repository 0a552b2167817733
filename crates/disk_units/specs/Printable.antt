-- Characters of names.
use Rattle.std.specs.Prelude.{ℕ, nat_le, Bool, ◌&&◌}

-- printable ASCII: from a space to a tilde
abbrev pub is_printable : ℕ → Bool
is_printable byte = nat_le 0x20 byte && nat_le byte 0x7e
