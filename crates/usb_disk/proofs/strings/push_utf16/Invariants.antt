use Rattle.std.proofs.Common.{◌≡◌, ◌+◌, ◌*◌, ◌++◌, drop}
use Rattle.arrayvec.specs.ArrayVec.{array_vec_len}
use Rattle.usb_disk.specs.Strings.{in_utf16}
use Rattle.usb_disk.proofs.strings.push_utf16.Given as goal

-- what is written so far and the characters still to come are all of it
abbrev pub invariant-loop-character : goal.invariant-loop-character
invariant-loop-character l =
    (array_vec_len l.bytes ≡ 2 + 2 * l.character-index)
    × (l.bytes.items ++ in_utf16 (drop l.character-index l.text) ≡ l.initial.bytes.items ++ in_utf16 l.text)
