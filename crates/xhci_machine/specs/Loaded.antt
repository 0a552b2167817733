-- A machine that is loaded from a saved text.
use Rattle.std.specs.Prelude.{◌≡◌, ℕ, ◌-◌, ◌<◌, ◌==◌, Bool, false, ◌&&◌, if◌then◌else◌, List, get_or, length, slice_index, Option, None, Some, Result, Ok, Err}
use Rattle.controller_bytes.specs.Tags.{slots_form}
use Rattle.device_bytes.specs.Devices.{device_loaded}
use Rattle.guest_transfers.specs.declared.slot.Slot.{Slot as Tag}
use Rattle.machine_bytes.specs.declared.sealed.SealFault.{SealFault}
use Rattle.machine_bytes.specs.declared.sealed.SealFault.TheVariants.{Short as SealShort, Magic as SealMagic, Version as SealVersion, Length as SealLength, Sum as SealSum}
use Rattle.machine_bytes.specs.Forms.{then_read}
use Rattle.machine_bytes.specs.Sealed.{opened}
use Rattle.marks.specs.Marks.{is_marked}
use Rattle.uas_tasks.specs.Machine.{Machine as Tasks}
use Rattle.xhci_machine.specs.ActiveTags.{active_form}
use Rattle.xhci_machine.specs.declared.Machine.{Machine}
use Rattle.xhci_machine.specs.declared.loaded.LoadFault.{LoadFault}
use Rattle.xhci_machine.specs.declared.loaded.LoadFault.TheVariants.{Short, Magic, Version, Length, Sum, Shape, Value, NoMemory}
use Rattle.xhci_machine.specs.Kept.{KeptState, kept_form, machine_of}
use Rattle.xhci_machine.specs.Shapes.{behind_shape}

-- what a text holds behind its shape: the controller, which tags are active, its tags, the device
abbrev pub Body : Type 0
Body = KeptState × (List Bool × (List Tag × Tasks))

-- 0 stands at the end, and nothing behind it
abbrev pub is_last : List ℕ → Bool
is_last text = (length text == 1) && (slice_index text 0 == 0)

abbrev pub last_read : Body → List ℕ → Option Body × List ℕ
last_read body text = if is_last text then (Some body, text) else (None, text)

-- the controller, which tags are active, its tags, and the device in the place of a fresh one
abbrev pub body_read : Tasks → List ℕ → Option Body × List ℕ
body_read fresh text =
    then_read (kept_form.read text) (λ (kept : KeptState) one. then_read (active_form.read one) (λ (active : List Bool) two.
    then_read (slots_form.read two) (λ (tags : List Tag) three.
    then_read (device_loaded fresh three) (λ (tasks : Tasks) four. last_read (kept, (active, (tags, tasks))) four))))

-- a machine of what was read: the tags are active that were read so, and no other below 256
pub record IsMachineOf (body : Body) (m : Machine) : Type 0 where
  pub machine : m ≡ machine_of body.0 body.1.1.0 m.device
  pub tasks : m.device.tasks ≡ body.1.1.1
  pub active : (tag : ℕ) → tag < 256 → is_marked m.device.active tag ≡ get_or body.1.0 tag false

abbrev pub IsMachineFor : Option Body → Machine → Type 0
IsMachineFor None m = ⊥
IsMachineFor (Some body) m = IsMachineOf body m

abbrev pub seal_fault : SealFault → LoadFault
seal_fault SealShort = Short
seal_fault SealMagic = Magic
seal_fault SealVersion = Version
seal_fault SealLength = Length
seal_fault SealSum = Sum

-- a body, or where the first byte stands that has no meaning: so many bytes before the checksum as are left
abbrev pub body_or : List ℕ → Option Body → List ℕ → Result Body LoadFault
body_or bytes None left = Err (Value (length bytes - 4 - length left))
body_or bytes (Some body) left = Ok body

abbrev pub of_shape : Tasks → List ℕ → Option (List ℕ) → Result Body LoadFault
of_shape fresh bytes None = Err Shape
of_shape fresh bytes (Some text) = body_or bytes (body_read fresh text).0 (body_read fresh text).1

abbrev pub of_opened : Tasks → List ℕ → Result (List ℕ) SealFault → Result Body LoadFault
of_opened fresh bytes (Err fault) = Err (seal_fault fault)
of_opened fresh bytes (Ok text) = of_shape fresh bytes (behind_shape fresh text)

-- what bytes are for a fresh device: a body, or the first fault that they have
unfoldable pub load_of : Tasks → List ℕ → Result Body LoadFault
load_of fresh bytes = of_opened fresh bytes (opened bytes)

-- a machine is loaded from bytes without a fault
abbrev pub IsLoaded : Result Body LoadFault → Machine → Type 0
IsLoaded (Err fault) m = ⊥
IsLoaded (Ok body) m = IsMachineOf body m

-- bytes are refused for their first fault, or for want of memory
abbrev pub IsRefused : Result Body LoadFault → LoadFault → Type 0
IsRefused told Short = told ≡ Err Short
IsRefused told Magic = told ≡ Err Magic
IsRefused told Version = told ≡ Err Version
IsRefused told Length = told ≡ Err Length
IsRefused told Sum = told ≡ Err Sum
IsRefused told Shape = told ≡ Err Shape
IsRefused told (Value at) = told ≡ Err (Value at)
IsRefused told NoMemory = Unit {0}
