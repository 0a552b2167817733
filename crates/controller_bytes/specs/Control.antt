-- The form of endpoint 0 and of the disk's answers there.
use Rattle.std.specs.Prelude.{ℕ, zero, suc, Bool, false, List, []}
use Rattle.guest_pipes.specs.declared.consumer.Consumer.{Consumer}
use Rattle.machine_bytes.specs.Forms.{Form, bytes_of, counted, flag, mapped, named, nothing, number, pair, tagged}
use Rattle.usb_disk.specs.declared.Alternate.{Alternate}
use Rattle.usb_disk.specs.declared.Alternate.TheVariants.{BulkOnly, Uas}
use Rattle.usb_disk.specs.declared.Halts.{Halts}
use Rattle.usb_disk.specs.declared.Settings.{Settings}
use Rattle.usb_disk.specs.declared.Settings.TheVariants.{UasAlone, Both}
use Rattle.usb_disk.specs.declared.UsbDisk.{UsbDisk}
use Rattle.usb_disk.specs.declared.UsbStrings.{UsbStrings}
use Rattle.xhci_control.specs.declared.pipe.ControlPipe.{ControlPipe}
use Rattle.xhci_control.specs.declared.stage.Given.{Given}
use Rattle.xhci_control.specs.declared.stage.Given.TheVariants.{Bytes, Nothing, Taken, Stall}
use Rattle.xhci_control.specs.declared.stage.Stage.{Stage}
use Rattle.xhci_control.specs.declared.stage.Stage.TheVariants.{Setup, Data, Status}
use Rattle.controller_bytes.specs.Consumers.{consumer_form}

-- what carries commands: 0 Bulk-Only, 1 UAS
abbrev pub alternate_number : Alternate → ℕ
alternate_number BulkOnly = 0
alternate_number Uas = 1

abbrev pub alternate_at : ℕ → Alternate
alternate_at zero = BulkOnly
alternate_at (suc k) = Uas

abbrev pub alternate_form : Form Alternate
alternate_form = named 2 alternate_number alternate_at

-- the settings: 0, UAS alone; 1, both, with the greatest logical unit (1) and the current one
abbrev pub settings_number : Settings → ℕ
settings_number UasAlone = 0
settings_number (Both most_lun alternate) = 1

abbrev pub both_in : ℕ × Alternate → Settings
both_in b = Both b.0 b.1

abbrev pub both_of : Settings → ℕ × Alternate
both_of UasAlone = (0, BulkOnly)
both_of (Both most_lun alternate) = (most_lun, alternate)

abbrev pub settings_part : ℕ → Form Settings
settings_part zero = nothing UasAlone
settings_part (suc k) = mapped both_in both_of (pair (number 1) alternate_form)

abbrev pub settings_form : Form Settings
settings_form = tagged 2 settings_number settings_part

-- the halts: of the command, status, data-in and data-out pipe
abbrev pub halts_form : Form Halts
halts_form = mapped to from (pair flag (pair flag (pair flag flag)))
  where
    to : Bool × (Bool × (Bool × Bool)) → Halts
    to h = record { command = h.0; status = h.1.0; data_in = h.1.1.0; data_out = h.1.1.1 }

    from : Halts → Bool × (Bool × (Bool × Bool))
    from h = (h.command, (h.status, (h.data_in, h.data_out)))

-- the strings: manufacturer (8), product (16), serial number (8)
abbrev pub strings_form : Form UsbStrings
strings_form = mapped to from (pair (bytes_of 8) (pair (bytes_of 16) (bytes_of 8)))
  where
    to : List ℕ × (List ℕ × List ℕ) → UsbStrings
    to s = record { manufacturer = s.0; product = s.1.0; serial = s.1.1 }

    from : UsbStrings → List ℕ × (List ℕ × List ℕ)
    from s = (s.manufacturer, (s.product, s.serial))

-- the disk: configured, settings, U1, U2, halts, strings
abbrev pub disk_form : Form UsbDisk
disk_form = mapped to from (pair flag (pair settings_form (pair flag (pair flag (pair halts_form strings_form)))))
  where
    to : Bool × (Settings × (Bool × (Bool × (Halts × UsbStrings)))) → UsbDisk
    to d = record { configured = d.0; u1 = d.1.1.0; u2 = d.1.1.1.0; halts = d.1.1.1.1.0; settings = d.1.0; strings = d.1.1.1.1.1 }

    from : UsbDisk → Bool × (Settings × (Bool × (Bool × (Halts × UsbStrings))))
    from d = (d.configured, (d.settings, (d.u1, (d.u2, (d.halts, d.strings)))))

-- what a Data Stage gives: 0, an answer, behind its number of bytes (1), and how many of it have gone (8); 1, nothing; 2, it takes; 3, a stall
abbrev pub given_number : Given → ℕ
given_number (Bytes bytes gone) = 0
given_number Nothing = 1
given_number Taken = 2
given_number Stall = 3

abbrev pub answer_in : List ℕ × ℕ → Given
answer_in a = Bytes (record { items = a.0 }) a.1

abbrev pub answer_of : Given → List ℕ × ℕ
answer_of (Bytes bytes gone) = (bytes.items, gone)
answer_of Nothing = ([], 0)
answer_of Taken = ([], 0)
answer_of Stall = ([], 0)

abbrev pub given_part : ℕ → Form Given
given_part zero = mapped answer_in answer_of (pair (counted 1 121) (number 8))
given_part (suc zero) = nothing Nothing
given_part (suc (suc zero)) = nothing Taken
given_part (suc (suc (suc k))) = nothing Stall

abbrev pub given_form : Form Given
given_form = tagged 4 given_number given_part

-- where a control transfer is: 0, none; 1, its Data Stage; 2, its Status Stage, and whether that stalls
abbrev pub stage_number : Stage → ℕ
stage_number Setup = 0
stage_number (Data given) = 1
stage_number (Status stalls) = 2

abbrev pub given_in : Stage → Given
given_in Setup = Nothing
given_in (Data given) = given
given_in (Status stalls) = Nothing

abbrev pub stalls_in : Stage → Bool
stalls_in Setup = false
stalls_in (Data given) = false
stalls_in (Status stalls) = stalls

abbrev pub stage_part : ℕ → Form Stage
stage_part zero = nothing Setup
stage_part (suc zero) = mapped (λ (given : Given). Data given) given_in given_form
stage_part (suc (suc k)) = mapped (λ (stalls : Bool). Status stalls) stalls_in flag

abbrev pub stage_form : Form Stage
stage_form = tagged 3 stage_number stage_part

-- endpoint 0: consumer, the address of its dequeue pointer (8), disk, stage
abbrev pub control_form : Form ControlPipe
control_form = mapped to from (pair consumer_form (pair (number 8) (pair disk_form stage_form)))
  where
    to : Consumer × (ℕ × (UsbDisk × Stage)) → ControlPipe
    to c = record { consumer = c.0; home = c.1.0; disk = c.1.1.0; stage = c.1.1.1 }

    from : ControlPipe → Consumer × (ℕ × (UsbDisk × Stage))
    from c = (c.consumer, (c.home, (c.disk, c.stage)))
