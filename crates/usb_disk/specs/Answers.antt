-- What a request does and what it is answered with (USB 3.2, 9.4; BOT 3).
use Rattle.std.specs.Prelude.{ℕ, ◌+◌, Bool, true, false, if◌then◌else◌, List, [], ◌∷◌, take, Option, None, Some}
use Rattle.uas_profile.specs.declared.Pipe.{Pipe}
use Rattle.uas_profile.specs.declared.Pipe.TheVariants.{Command, Status, DataIn, DataOut}
use Rattle.disk_units.specs.Digits.{eight_digits}
use Rattle.usb_disk.specs.declared.Alternate.{Alternate}
use Rattle.usb_disk.specs.declared.Alternate.TheVariants.{BulkOnly, Uas}
use Rattle.usb_disk.specs.declared.Settings.{Settings}
use Rattle.usb_disk.specs.declared.Settings.TheVariants.{UasAlone, Both}
use Rattle.usb_disk.specs.declared.Setup.{Setup}
use Rattle.usb_disk.specs.declared.UsbDisk.{UsbDisk}
use Rattle.usb_disk.specs.declared.UsbStrings.{UsbStrings}
use Rattle.usb_disk.specs.declared.Halts.{Halts}
use Rattle.usb_disk.specs.declared.Answer.{Answer}
use Rattle.usb_disk.specs.declared.Answer.TheVariants.{Data, Done, Restarted, BulkReset, Stall}
use Rattle.usb_disk.specs.declared.requests.Request.{Request}
use Rattle.usb_disk.specs.declared.requests.Request.TheVariants.{DeviceStatus, InterfaceStatus, DefaultPipeStatus, PipeStatus, SetU1, SetU2, SuspendFunction, SetHalt}
use Rattle.usb_disk.specs.declared.requests.Request.TheVariants.{GetDescriptor, GetConfiguration, SetConfiguration, GetInterface, SetInterface, SetExitLatency, SetIsochDelay, GetMostLun, ResetBulk}
use Rattle.usb_disk.specs.Descriptors.{descriptor_of}
use Rattle.usb_disk.specs.Requests.{request_in}
use Rattle.usb_disk.specs.Strings.{usual_strings}

-- no endpoint is halted
abbrev pub no_halts : Halts
no_halts = record { command = false; status = false; data_in = false; data_out = false }

abbrev pub is_halted : Halts → Pipe → Bool
is_halted halts Command = halts.command
is_halted halts Status = halts.status
is_halted halts DataIn = halts.data_in
is_halted halts DataOut = halts.data_out

-- a pipe's endpoint is halted now, or isn't
abbrev pub with_halt : Halts → Pipe → Bool → Halts
with_halt halts Command on = record halts { command = on }
with_halt halts Status on = record halts { status = on }
with_halt halts DataIn on = record halts { data_in = on }
with_halt halts DataOut on = record halts { data_out = on }

-- SETTINGS

-- the first one: of a disk with both Bulk-Only's
abbrev pub first_setting : Settings → Settings
first_setting UasAlone = UasAlone
first_setting (Both most_lun alternate) = Both most_lun BulkOnly

-- the transport of the current one
abbrev pub alternate_of : Settings → Alternate
alternate_of UasAlone = Uas
alternate_of (Both most_lun alternate) = alternate

-- its number (bAlternateSetting)
abbrev pub number_of : Alternate → ℕ
number_of BulkOnly = 0
number_of Uas = 1

abbrev pub setting_number : Settings → ℕ
setting_number UasAlone = 0
setting_number (Both most_lun alternate) = number_of alternate

-- alternate 1 is UAS beside Bulk-Only
abbrev pub alternate_at : Bool → Alternate
alternate_at false = BulkOnly
alternate_at true = Uas

-- Bulk-Only has Bulk-In and Bulk-Out alone, which are the endpoints of data-in and data-out
abbrev pub has_pipe : Alternate → Pipe → Bool
has_pipe BulkOnly Command = false
has_pipe BulkOnly Status = false
has_pipe BulkOnly DataIn = true
has_pipe BulkOnly DataOut = true
has_pipe Uas pipe = true

-- THE DISK

-- as a reset of the device leaves it: not configured, in the first setting, with the strings it has
abbrev pub reset_of : Settings → UsbStrings → UsbDisk
reset_of settings strings =
    record { configured = false; u1 = false; u2 = false; halts = no_halts; settings = first_setting settings; strings = strings }

-- a disk that tells UAS alone, with these strings
abbrev pub reset_with : UsbStrings → UsbDisk
reset_with strings = reset_of UasAlone strings

-- a disk that tells both, of the logical units up to this number and this serial number
abbrev pub both_disk : ℕ → ℕ → UsbDisk
both_disk most_lun serial = reset_of (Both most_lun BulkOnly) (record usual_strings { serial = eight_digits serial })

-- the same of a disk with the usual strings
abbrev pub reset_disk : UsbDisk
reset_disk = reset_with usual_strings

-- configured or not; either way no endpoint is halted, and the setting is the first (9.4.7)
abbrev pub configured_disk : UsbDisk → Bool → UsbDisk
configured_disk disk on = record disk { configured = on; halts = no_halts; settings = first_setting disk.settings }

-- in the first setting, or the second where there is one (9.4.10)
abbrev pub chosen : UsbDisk → Bool → Settings → UsbDisk × Answer
chosen disk false settings = (configured_disk disk true, Restarted)
chosen disk true UasAlone = (disk, Stall)
chosen disk true (Both most_lun alternate) = (record (configured_disk disk true) { settings = Both most_lun Uas }, Restarted)

-- an endpoint's halt by the host, or the device
abbrev pub halted : UsbDisk → Pipe → UsbDisk
halted disk pipe = record disk { halts = with_halt disk.halts pipe true }

abbrev pub bit_of : Bool → ℕ → ℕ
bit_of true value = value
bit_of false value = 0

-- 9.4.5, the device: self-powered (bit 0), U1 enabled (2), U2 enabled (3)
abbrev pub device_status : UsbDisk → List ℕ
device_status disk = (1 + bit_of disk.u1 4 + bit_of disk.u2 8) ∷ 0 ∷ []

-- the front of these bytes, as long as was asked for
abbrev pub front : Setup → List ℕ → Answer
front setup bytes = Data (record { items = take setup.length bytes })

abbrev pub front_or_stall : Setup → Option (List ℕ) → Answer
front_or_stall setup None = Stall
front_or_stall setup (Some bytes) = front setup bytes

-- what is answered only by a configured device, and refused by one that isn't
abbrev pub if_configured : UsbDisk → UsbDisk × Answer → UsbDisk × Answer
if_configured disk after = if disk.configured then after else (disk, Stall)

-- what is of an endpoint of the current setting, and refused of another one
abbrev pub if_has : UsbDisk → Pipe → UsbDisk × Answer → UsbDisk × Answer
if_has disk pipe after = if_configured disk (if has_pipe (alternate_of disk.settings) pipe then after else (disk, Stall))

-- what is Bulk-Only's, and refused in another setting
abbrev pub in_bulk : UsbDisk → (ℕ → Answer) → Settings → Answer
in_bulk disk answer UasAlone = Stall
in_bulk disk answer (Both most_lun BulkOnly) = answer most_lun
in_bulk disk answer (Both most_lun Uas) = Stall

-- the disk after a request, and its answer
abbrev pub done : UsbDisk → Setup → Request → UsbDisk × Answer
done disk setup DeviceStatus = (disk, front setup (device_status disk))
done disk setup InterfaceStatus = if_configured disk (disk, front setup (0 ∷ 0 ∷ []))
done disk setup DefaultPipeStatus = (disk, front setup (0 ∷ 0 ∷ []))
done disk setup (PipeStatus pipe) = if_has disk pipe (disk, front setup (bit_of (is_halted disk.halts pipe) 1 ∷ 0 ∷ []))
done disk setup (SetU1 on) = if_configured disk (record disk { u1 = on }, Done)
done disk setup (SetU2 on) = if_configured disk (record disk { u2 = on }, Done)
done disk setup SuspendFunction = if_configured disk (disk, Done)
done disk setup (SetHalt pipe on) = if_has disk pipe (record disk { halts = with_halt disk.halts pipe on }, Done)
done disk setup (GetDescriptor kind index) = (disk, front_or_stall setup (descriptor_of disk.settings disk.strings kind index))
done disk setup GetConfiguration = (disk, front setup (bit_of disk.configured 1 ∷ []))
done disk setup (SetConfiguration on) = (configured_disk disk on, Restarted)
done disk setup GetInterface = if_configured disk (disk, front setup (setting_number disk.settings ∷ []))
done disk setup (SetInterface second) = if_configured disk (chosen disk second disk.settings)
done disk setup SetExitLatency = (disk, Done)
done disk setup SetIsochDelay = (disk, Done)
done disk setup GetMostLun = if_configured disk (disk, in_bulk disk (λ most_lun. front setup (most_lun ∷ [])) disk.settings)
done disk setup ResetBulk = if_configured disk (disk, in_bulk disk (λ most_lun. BulkReset) disk.settings)

-- A Setup packet; a request that the disk doesn't know is refused by a stall and changes nothing.
abbrev pub controlled : UsbDisk → Setup → UsbDisk × Answer
controlled disk setup = of_request (request_in setup)
  where
    of_request : Option Request → UsbDisk × Answer
    of_request None = (disk, Stall)
    of_request (Some request) = done disk setup request
