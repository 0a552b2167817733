-- A controller that becomes one that was saved.
use Rattle.std.specs.Prelude.{◌≡◌, ℕ, ◌<◌, List, [], ◌∷◌}
use Rattle.c_common.specs.declared.faults.TheConstants.{NO_MEMORY}
use Rattle.guest_memory.specs.declared.lend.Lent.{Lent}
use Rattle.xhci_machine.specs.declared.Machine.{Machine}
use Rattle.xhci_machine.specs.declared.loaded.LoadFault.{LoadFault}
use Rattle.xhci_machine.specs.declared.loaded.LoadFault.TheVariants as faults
use Rattle.xhci_machine.specs.Loaded.{IsLoaded, IsRefused, load_of}
use Rattle.xhci_machine.specs.Restored.{made_again}
use Rattle.uas_xhci_c.specs.declared.saving.UasXhciLoaded.{UasXhciLoaded}
use Rattle.uas_xhci_c.specs.declared.saving.TheConstants.{XHCI_SHORT, XHCI_MAGIC, XHCI_VERSION, XHCI_LENGTH, XHCI_SUM, XHCI_SHAPE, XHCI_VALUE}

-- the bytes of a text: those of its first region
abbrev pub text_in : List Lent → List ℕ
text_in [] = []
text_in (region ∷ others) = region.bytes.now

abbrev pub load_number : LoadFault → ℕ
load_number faults.Short = XHCI_SHORT
load_number faults.Magic = XHCI_MAGIC
load_number faults.Version = XHCI_VERSION
load_number faults.Length = XHCI_LENGTH
load_number faults.Sum = XHCI_SUM
load_number faults.Shape = XHCI_SHAPE
load_number (faults.Value at) = XHCI_VALUE
load_number faults.NoMemory = NO_MEMORY

-- beside its number the place of a value that no controller has
abbrev pub told_of : UasXhciLoaded → LoadFault → UasXhciLoaded
told_of told faults.Short = told
told_of told faults.Magic = told
told_of told faults.Version = told
told_of told faults.Length = told
told_of told faults.Sum = told
told_of told faults.Shape = told
told_of told (faults.Value at) = record { at = at }
told_of told faults.NoMemory = told

-- the text isn't taken, for its first fault or for want of memory, and nothing has changed
pub record IsKept (had now : Machine) (told left : UasXhciLoaded) (text : List ℕ) (number : ℕ) : Type 0 where
  pub fault : LoadFault
  pub refused : IsRefused (load_of (made_again had.device.tasks) text) fault
  pub is : number ≡ load_number fault
  pub same : now ≡ had
  pub told_so : left ≡ told_of told fault

-- At 0 the machine is the one that was saved so, of the logical units, commands and chunks that it had; at any other number it is as it was. The
-- text doesn't change.
abbrev pub IsRestored : Machine → Machine → UasXhciLoaded → UasXhciLoaded → List Lent → List Lent → ℕ → Type 0
IsRestored had now told left text rest number =
    (number ≡ 0 → IsLoaded (load_of (made_again had.device.tasks) (text_in text)) now × (left ≡ told))
    × (0 < number → IsKept had now told left (text_in text) number)
    × (rest ≡ text)
