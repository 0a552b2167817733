-- What was saved is read back.
use Rattle.std.specs.Prelude.{◌≡◌, ℕ, ◌<◌, List, [], ◌∷◌, ◌++◌, length, Some}
use Rattle.controller_bytes.specs.Tags.{slots_form}
use Rattle.device_bytes.specs.Devices.{device_form, new_like, saved_device, settled_device}
use Rattle.machine_bytes.specs.Exact.{IsExact}
use Rattle.uas_tasks.specs.Soundness.{AreSized}
use Rattle.xhci_machine.specs.ActiveTags.{active_form, active_of}
use Rattle.xhci_machine.specs.declared.Machine.{Machine}
use Rattle.xhci_machine.specs.Kept.{kept_form, kept_of}
use Rattle.xhci_machine.specs.Loaded.{body_read}

-- what stands behind the shape
abbrev pub body_bytes : Machine → ℕ → List ℕ
body_bytes m chunk =
    kept_form.bytes (kept_of m) ++ (active_form.bytes (active_of m.device) ++ (slots_form.bytes m.transfers.tags
    ++ ((device_form m.device.tasks.units chunk).bytes (saved_device m.device.tasks) ++ (0 ∷ []))))

-- a machine whose values have the form, and whose tags have chunks of so many blocks
pub record HasForm (m : Machine) (chunk : ℕ) : Type 0 where
  pub kept : kept_form.Has (kept_of m)
  pub tags : slots_form.Has m.transfers.tags
  pub sized : AreSized chunk m.device.tasks.units m.device.tasks.slots
  pub units : length m.device.tasks.units < 65535
  pub device : (device_form m.device.tasks.units chunk).Has (saved_device m.device.tasks)

-- it is read back into a fresh device, whose bytes that don't matter are 0
abbrev pub SavedIsRead : Type 0
SavedIsRead =
    (m : Machine) (chunk : ℕ) → HasForm m chunk
    → body_read (new_like m.device.tasks chunk) (body_bytes m chunk)
    ≡ (Some (kept_of m, (active_of m.device, (m.transfers.tags, settled_device m.device.tasks))), 0 ∷ [])

-- each value of the controller, of its active tags and of its tags has one text, and each text that is read is the one of its value
abbrev pub KeptIsExact : Type 0
KeptIsExact = IsExact kept_form

abbrev pub ActiveIsExact : Type 0
ActiveIsExact = IsExact active_form

abbrev pub TagsAreExact : Type 0
TagsAreExact = IsExact slots_form
