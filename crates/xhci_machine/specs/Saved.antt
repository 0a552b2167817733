-- The saved state of a machine whose device has no request out.
use Rattle.std.specs.Prelude.{ℕ, ◌-◌, ◌^◌, nat_lt, ◌||◌, if◌then◌else◌, List, [], ◌∷◌, length, take, Result, Ok, Err}
use Rattle.controller_bytes.specs.Tags.{slots_form}
use Rattle.device_bytes.specs.Devices.{device_form, saved_device}
use Rattle.log_records.specs.checksum.Division.{crc32c_of}
use Rattle.machine_bytes.specs.declared.place.Place.{Place}
use Rattle.machine_bytes.specs.Forms.{number}
use Rattle.machine_bytes.specs.Places.{written}
use Rattle.machine_bytes.specs.Sealed.{head_write}
use Rattle.uas_tasks.specs.Machine.{Machine as Tasks, slot_of}
use Rattle.uas_tasks.specs.Saved.{has_request_out}
use Rattle.xhci_machine.specs.ActiveTags.{active_form, active_of}
use Rattle.xhci_machine.specs.declared.Machine.{Machine}
use Rattle.xhci_machine.specs.declared.saved.SaveFault.{SaveFault}
use Rattle.xhci_machine.specs.declared.saved.SaveFault.TheVariants.{RequestOut, Room}
use Rattle.xhci_machine.specs.Kept.{kept_form, kept_of}
use Rattle.xhci_machine.specs.Shapes.{front_place, shape_write}

-- the device
abbrev pub device_write : List ℕ × Place → Tasks → List ℕ × Place
device_write w tasks = (device_form tasks.units (slot_of tasks 1).chunk).write w (saved_device tasks)

-- what is kept of the controller; which tags are active; what is kept of the tags
abbrev pub kept_write : List ℕ × Place → Machine → List ℕ × Place
kept_write w m = slots_form.write (active_form.write (kept_form.write w (kept_of m)) (active_of m.device)) m.transfers.tags

-- what the machine was made for; what is kept; the device; 0
unfoldable pub body_write : List ℕ × Place → Machine → List ℕ × Place
body_write w m =
    written (device_write (kept_write (shape_write w m.device.tasks) m) m.device.tasks) (0 ∷ [])

-- the checksum of all that was written
abbrev pub sum_write : List ℕ × Place → List ℕ × Place
sum_write w = (number 4).write w (crc32c_of (take w.1.at w.0))

-- a text of so many bytes in all
abbrev pub saved_write : List ℕ → Machine → ℕ → List ℕ × Place
saved_write cells m total = sum_write (body_write (head_write (cells, front_place) total) m)

-- how many bytes it has: 16 around the body
abbrev pub total_of : Machine → ℕ
total_of m = (body_write ([], record { at = 0; needs = 16 }) m).1.needs

abbrev pub saved_in : Machine → List ℕ → ℕ → List ℕ × Result ℕ SaveFault
saved_in m into total =
    if nat_lt (length into) total || nat_lt (2 ^ 32 - 1) total then (into, Err (Room total)) else ((saved_write into m total).0, Ok total)

-- refused while a request is out, and where there is less room
abbrev pub save_of : Machine → List ℕ → List ℕ × Result ℕ SaveFault
save_of m into = if has_request_out m.device.tasks then (into, Err RequestOut) else saved_in m into (total_of m)
