-- What is read of a body, and of bytes that have one.
use Rattle.std.proofs.Common.{◌≡◌, ℕ, ◌-◌, Bool, true, false, List, length, Option, Some, None, Ok, Err, refl}
use Rattle.controller_bytes.specs.Tags.{slots_form}
use Rattle.device_bytes.specs.Devices.{device_loaded}
use Rattle.guest_transfers.specs.declared.slot.Slot.{Slot as Tag}
use Rattle.machine_bytes.specs.Sealed.{opened}
use Rattle.uas_tasks.specs.Machine.{Machine as Tasks}
use Rattle.xhci_machine.specs.ActiveTags.{active_form}
use Rattle.xhci_machine.specs.declared.Machine.{Machine}
use Rattle.xhci_machine.specs.declared.loaded.LoadFault.TheVariants.{Value}
use Rattle.xhci_machine.specs.Kept.{KeptState, kept_form}
use Rattle.xhci_machine.specs.Loaded.{Body, IsLoaded, IsMachineFor, IsMachineOf, body_or, body_read, is_last, load_of}
use Rattle.xhci_machine.specs.Shapes.{behind_shape}

pub body_is : (fresh tasks : Tasks) (text one two three four : List ℕ) (kept : KeptState) (active : List Bool) (tags : List Tag) → kept_form.read text ≡ (Some kept, one)
    → active_form.read one ≡ (Some active, two) → slots_form.read two ≡ (Some tags, three) → device_loaded fresh three ≡ (Some tasks, four) → is_last four ≡ true
    → body_read fresh text ≡ (Some (kept, (active, (tags, tasks))), four)
body_is fresh tasks text one two three four kept active tags a b c d e = rw (a, b, c, d, e) refl

pub no_kept : (fresh : Tasks) (text one : List ℕ) → kept_form.read text ≡ (None, one) → body_read fresh text ≡ (None, one)
no_kept fresh text one a = rw a refl

pub no_active : (fresh : Tasks) (text one two : List ℕ) (kept : KeptState) → kept_form.read text ≡ (Some kept, one) → active_form.read one ≡ (None, two)
    → body_read fresh text ≡ (None, two)
no_active fresh text one two kept a b = rw (a, b) refl

pub no_tags : (fresh : Tasks) (text one two three : List ℕ) (kept : KeptState) (active : List Bool) → kept_form.read text ≡ (Some kept, one)
    → active_form.read one ≡ (Some active, two) → slots_form.read two ≡ (None, three) → body_read fresh text ≡ (None, three)
no_tags fresh text one two three kept active a b c = rw (a, b, c) refl

pub no_device : (fresh : Tasks) (text one two three four : List ℕ) (kept : KeptState) (active : List Bool) (tags : List Tag) → kept_form.read text ≡ (Some kept, one)
    → active_form.read one ≡ (Some active, two) → slots_form.read two ≡ (Some tags, three) → device_loaded fresh three ≡ (None, four)
    → body_read fresh text ≡ (None, four)
no_device fresh text one two three four kept active tags a b c d = rw (a, b, c, d) refl

pub no_end : (fresh tasks : Tasks) (text one two three four : List ℕ) (kept : KeptState) (active : List Bool) (tags : List Tag) → kept_form.read text ≡ (Some kept, one)
    → active_form.read one ≡ (Some active, two) → slots_form.read two ≡ (Some tags, three) → device_loaded fresh three ≡ (Some tasks, four) → is_last four ≡ false
    → body_read fresh text ≡ (None, four)
no_end fresh tasks text one two three four kept active tags a b c d e = rw (a, b, c, d, e) refl

pub machine_is : (fresh : Tasks) (text left : List ℕ) (body : Body) (m : Machine) → body_read fresh text ≡ (Some body, left) → IsMachineOf body m
    → IsMachineFor (body_read fresh text).0 m
machine_is fresh text left body m e is = rw e is

of_body : (bytes : List ℕ) (told : Option Body) (left : List ℕ) (m : Machine) → IsMachineFor told m → IsLoaded (body_or bytes told left) m
of_body bytes None left m is = absurd is
of_body bytes (Some body) left m is = is

pub loaded_of : (fresh : Tasks) (bytes text body : List ℕ) (m : Machine) → opened bytes ≡ Ok text → behind_shape fresh text ≡ Some body
    → IsMachineFor (body_read fresh body).0 m → IsLoaded (load_of fresh bytes) m
unfolding load_of
loaded_of fresh bytes text body m a b is = rw (a, b) (of_body bytes (body_read fresh body).0 (body_read fresh body).1 m is)

pub value_of : (fresh : Tasks) (bytes text body left : List ℕ) (at : ℕ) → opened bytes ≡ Ok text → behind_shape fresh text ≡ Some body
    → body_read fresh body ≡ (None, left) → at ≡ length bytes - 4 - length left → load_of fresh bytes ≡ Err (Value at)
unfolding load_of
value_of fresh bytes text body left at a b c d = rw (a, b, c, d) refl
