-- What was saved is read back.
use Rattle.std.proofs.Common.{ℕ, List, [], ◌∷◌, ◌++◌, refl}
use Rattle.controller_bytes.specs.Tags.{slots_form}
use Rattle.controller_bytes.proofs.TagsExact.{slots-exact}
use Rattle.device_bytes.specs.Devices.{device_form, saved_device}
use Rattle.device_bytes.proofs.LikeLaws.{device_is_loaded}
use Rattle.xhci_machine.specs.ActiveTags.{active_form, active_of}
use Rattle.xhci_machine.specs.Kept.{kept_of}
use Rattle.xhci_machine.specs.SavedLaws.{SavedIsRead}
use Rattle.xhci_machine.proofs.ActiveExact.{active-exact, active_has}
use Rattle.xhci_machine.proofs.KeptExact.{kept-exact}

pub saved_is_read : SavedIsRead
saved_is_read m chunk has =
    let device : List ℕ = (device_form m.device.tasks.units chunk).bytes (saved_device m.device.tasks) ++ (0 ∷ []) in
    rw (
      kept-exact.read_back (kept_of m) (active_form.bytes (active_of m.device) ++ (slots_form.bytes m.transfers.tags ++ device)) has.kept,
      active-exact.read_back (active_of m.device) (slots_form.bytes m.transfers.tags ++ device) (active_has m.device),
      slots-exact.read_back m.transfers.tags device has.tags,
      device_is_loaded chunk m.device.tasks (0 ∷ []) has.sized has.units has.device,
    ) refl
