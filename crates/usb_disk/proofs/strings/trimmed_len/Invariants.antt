use Rattle.std.proofs.Common.{◌≡◌, ◌+◌, ◌≤◌, ◌==◌, length, take}
use Rattle.std.specs.List.{suffix_len}
use Rattle.usb_disk.proofs.strings.trimmed_len.Given as goal

-- the spaces cut off and those at the end of what is left are all at the end
abbrev pub invariant-loop-len : goal.invariant-loop-len
invariant-loop-len l =
    (l.len ≤ length l.text)
    × (l.len + suffix_len (λ character. character == 0x20) l.text ≡ length l.text + suffix_len (λ character. character == 0x20) (take l.len l.text))

abbrev pub decreases-loop-len : goal.decreases-loop-len
decreases-loop-len l = l.len
