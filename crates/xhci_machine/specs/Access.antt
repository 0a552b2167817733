-- What a write of the register page makes of the registers: 4 or 8 bytes at a multiple of 4, the low half first; any other nothing (5.3
-- to 5.6).
use Rattle.std.specs.Prelude.{ℕ, ◌+◌, ◌/◌, ◌%◌, ◌^◌, ◌==◌, nat_le, not, ◌||◌, if◌then◌else◌}
use Rattle.xhci_registers.specs.declared.Registers.{Registers}
use Rattle.xhci_registers.specs.declared.Width.{Width}
use Rattle.xhci_registers.specs.declared.Width.TheVariants.{One, Two, Four, Eight}
use Rattle.xhci_registers.specs.Writes.{word_written}

-- a word
unfoldable pub word_set : Registers → ℕ → ℕ → Registers
word_set registers offset value = (word_written registers offset value).0

-- two words, the low half first
abbrev pub both_set : Registers → ℕ → ℕ → Registers
both_set registers offset value = word_set (word_set registers offset (value % 2 ^ 32)) (offset + 4) (value / 2 ^ 32)

abbrev pub bytes_set : Registers → ℕ → Width → ℕ → Registers
bytes_set registers offset One value = registers
bytes_set registers offset Two value = registers
bytes_set registers offset Four value = word_set registers offset (value % 2 ^ 32)
bytes_set registers offset Eight value = both_set registers offset value

abbrev pub page_written : Registers → ℕ → Width → ℕ → Registers
page_written registers offset width value =
    if not (offset % 4 == 0) || nat_le 4096 offset then registers else bytes_set registers offset width value
