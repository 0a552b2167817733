-- What can be asked for, and what some controllers do otherwise than they tell.
use Rattle.std.specs.Prelude.{ℕ, ◌==◌, ◌&&◌, ◌||◌, nat_le, Bool, false}
use Rattle.bring_up.specs.declared.options.Options.{Options}
use Rattle.bring_up.specs.declared.options.Quirks.{Quirks}

abbrev pub can_ask : Options → Bool
can_ask options = nat_le 2 options.tags && nat_le options.tags 254 && nat_le 32 options.address_bits && nat_le options.address_bits 64

-- Fresco Logic, Etron, VIA and ASMedia's ASM1042
abbrev pub has_broken_streams : ℕ → ℕ → Bool
has_broken_streams vendor device =
    ((vendor == 0x1b73) && (device == 0x1000 || device == 0x1009)) || ((vendor == 0x1b6f) && (device == 0x7023 || device == 0x7052))
    || ((vendor == 0x1106) && (device == 0x3432)) || ((vendor == 0x1b21) && (device == 0x1042))

-- ASMedia's ASM1142, ASM1242, ASM2142 and ASM3242
abbrev pub is_narrow : ℕ → ℕ → Bool
is_narrow vendor device = (vendor == 0x1b21) && (device == 0x1142 || device == 0x1242 || device == 0x2142 || device == 0x3242)

-- VIA's VL805
abbrev pub has_36_bits : ℕ → ℕ → Bool
has_36_bits vendor device = (vendor == 0x1106) && (device == 0x3483)

-- Cadence's: bytes 8 to 15 of a stream's context stay as they are at Set TR Dequeue Pointer
abbrev pub has_stale_streams : ℕ → ℕ → Bool
has_stale_streams vendor device = (vendor == 0x17cd) && (device == 0x0200)

-- by PCI vendor and device
abbrev pub quirks_of : ℕ → ℕ → Quirks
quirks_of vendor device = record {
  has_broken_streams = has_broken_streams vendor device;
  is_narrow = is_narrow vendor device;
  has_36_bits = has_36_bits vendor device;
  takes_low_last = false;
  has_stale_streams = has_stale_streams vendor device;
}
