-- An answer is told again only after a late cancel, and then once.
use Rattle.std.proofs.Common.{◌≡◌, ℕ, Bool, true, false, Some, refl}
use Rattle.std.specs.Prelude.{◌==◌, if◌then◌else◌}
use Rattle.std.proofs.lemmas.Bool.{eq-eqb}
use Rattle.usbredir.specs.declared.kinds.Status as answer
use Rattle.usb_places.specs.declared.Kept.{Kept}
use Rattle.usb_places.specs.declared.Transfer.{Transfer}
use Rattle.usb_places.specs.declared.PlaceState.TheVariants.{Keeps}
use Rattle.usb_places.specs.Laws.{ToldOnce}
use Rattle.usb_places.specs.States.{lost_in, new_kept, same_transfer}

same-self : (transfer : Transfer) → same_transfer transfer transfer ≡ true
same-self transfer = rw (eq-eqb transfer.id transfer.id refl, eq-eqb transfer.length transfer.length refl) refl

abbrev lost : Transfer → answer.Status → ℕ → Kept
lost transfer status moved = record { transfer = transfer; status = status; moved = moved; lost = true }

again_if : (transfer : Transfer) (status : answer.Status) (moved : ℕ) (is : Bool) → is ≡ true →
    lost_in transfer (Keeps (if is then lost transfer status moved else new_kept transfer status moved)) ≡ Some (lost transfer status moved)
again_if transfer status moved true so = rw (same-self transfer) refl
again_if transfer status moved false so = absurd (cc so)

pub told_once : ToldOnce
told_once transfer status moved = record {
  before = refl;
  again = again_if transfer status moved (transfer.id == transfer.id) (eq-eqb transfer.id transfer.id refl);
  after = refl;
}
