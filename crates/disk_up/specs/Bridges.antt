-- Devices that don't do what their descriptors tell, as Linux 6.1 knows them (unusual_uas.h and uas-detect.h).
use Rattle.std.specs.Prelude.{ℕ, ◌==◌, ◌&&◌, ◌||◌, nat_le, not, Bool, List, [], ◌∷◌}
use Rattle.std.specs.List.{list_any}
use Rattle.usb_descriptors.specs.declared.UasFunction.{UasFunction}
use Rattle.disk_up.specs.declared.bridges.IgnoredDevice.{IgnoredDevice}
use Rattle.disk_up.specs.declared.requests.Known.{Known}

-- a vendor and product, and the first and the last release of the device, bcdDevice
abbrev pub ignored : ℕ → ℕ → ℕ → ℕ → IgnoredDevice
ignored vendor product first last = record { vendor = vendor; product = product; first = first; last = last }

-- those with US_FL_IGNORE_UAS
abbrev pub ignored_devices : List IgnoredDevice
ignored_devices =
    ignored 0x0781 0x55e8 0x0000 0x9999
    ∷ ignored 0x090c 0x2000 0x0000 0x9999
    ∷ ignored 0x0984 0x0301 0x0128 0x0128
    ∷ ignored 0x0b05 0x1932 0x0000 0x9999
    ∷ ignored 0x17ef 0x3899 0x0000 0x9999
    ∷ ignored 0x2537 0x1068 0x0000 0x9999
    ∷ ignored 0x357d 0x7788 0x0000 0x9999
    ∷ ignored 0x4971 0x1012 0x0000 0x9999
    ∷ []

abbrev pub is_release : Known → IgnoredDevice → Bool
is_release known device =
    (known.vendor == device.vendor) && (known.product == device.product) && nat_le device.first known.release && nat_le known.release device.last

abbrev pub is_ignored : Known → Bool
is_ignored known = list_any (λ device. is_release known device) ignored_devices

-- ASMedia's ASM1051 and ASM1053, 174c:5106 and 174c:55aa; the ASM1153, of the same numbers, has bMaxPower 0
abbrev pub is_asm105x : Known → UasFunction → Bool
is_asm105x known function = (known.vendor == 0x174c) && (known.product == 0x5106 || known.product == 0x55aa) && not (function.max_power == 0)

-- of these two the ASM1051 has 2^5 streams
abbrev pub is_broken : Known → UasFunction → Bool
is_broken known function = is_ignored known || (is_asm105x known function && (function.pipes.status.max_streams == 5))
