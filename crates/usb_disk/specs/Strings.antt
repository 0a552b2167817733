-- The strings of the disk (USB 3.2, 9.6.9).
use Rattle.std.specs.Prelude.{ℕ, ◌+◌, ◌-◌, ◌*◌, ◌==◌, List, [], ◌∷◌, codes, length, take}
use Rattle.std.specs.List.{suffix_len}
use Rattle.usb_disk.specs.declared.UsbStrings.{UsbStrings}

-- a text without the spaces at its end
abbrev pub trimmed : List ℕ → List ℕ
trimmed text = take (length text - suffix_len (λ character. character == 0x20) text) text

-- each character in two bytes, the low one first
abbrev pub in_utf16 : List ℕ → List ℕ
in_utf16 [] = []
in_utf16 (character ∷ characters) = character ∷ 0 ∷ in_utf16 characters

-- Its length, type 3, and the characters. By hand: of "0001" and four spaces it is 0a 03 30 00 30 00 30 00 31 00.
abbrev pub string_of : List ℕ → List ℕ
string_of text = (2 + 2 * length (trimmed text)) ∷ 3 ∷ in_utf16 (trimmed text)

-- those of a disk that has been given none
abbrev pub usual_strings : UsbStrings
usual_strings = record { manufacturer = codes "SIMDISK "; product = codes "UAS SIM DISK    "; serial = codes "0001    " }
