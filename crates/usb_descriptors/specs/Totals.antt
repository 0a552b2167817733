-- How many bytes a configuration has, with all that comes with it, and a BOS (USB 3.2, 9.6.3 and 9.6.2).
use Rattle.std.specs.Prelude.{ℕ, ◌==◌, ◌&&◌, nat_le, nat_lt, Bool, not, if◌then◌else◌, List, length, slice_index, Result, Ok, Err}
use Rattle.usb_descriptors.specs.declared.DescriptorFault.{DescriptorFault}
use Rattle.usb_descriptors.specs.declared.DescriptorFault.TheVariants.{BadDescriptor, LongConfiguration}
use Rattle.usb_descriptors.specs.declared.TheConstants.{MOST_CONFIGURATION_BYTES}
use Rattle.usb_descriptors.specs.Fields.{word}

-- a head of this type stands at the front, with all of its `least` bytes
abbrev pub is_head : ℕ → ℕ → List ℕ → Bool
is_head kind least bytes = nat_le least (length bytes) && nat_le least (slice_index bytes 0) && (slice_index bytes 1 == kind)

-- The total in bytes 2 and 3: at least the head's own bytes, at most 4,096. Checked by hand: 09 02 56 00 01 01 00 c0 00 tells 86.
abbrev pub total_in : ℕ → ℕ → List ℕ → Result ℕ DescriptorFault
total_in kind least bytes =
    if not (is_head kind least bytes) then Err BadDescriptor
    else (if nat_lt MOST_CONFIGURATION_BYTES (word bytes 2) then Err LongConfiguration
    else (if nat_lt (word bytes 2) least then Err BadDescriptor
    else Ok (word bytes 2)))

-- of a configuration's 9 bytes, type 2; and of a BOS's 5 bytes, type 0Fh
abbrev pub configuration_total_in : List ℕ → Result ℕ DescriptorFault
configuration_total_in bytes = total_in 2 9 bytes

abbrev pub bos_total_in : List ℕ → Result ℕ DescriptorFault
bos_total_in bytes = total_in 0x0f 5 bytes
