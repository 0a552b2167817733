-- The form of the active tags is exact, and each device has it.
use Rattle.std.proofs.Common.{◌≡◌, ℕ, zero, suc, ◌+◌, ◌-◌, ◌<◌, Bool, true, false, List, [], ◌∷◌, length, refl, ap, arith}
use Rattle.std.specs.Prelude.{not}
use Rattle.std.proofs.lemmas.Bool.{false≢true}
use Rattle.guest_tasks.specs.declared.GuestTasks.{GuestTasks}
use Rattle.machine_bytes.specs.Exact.{IsExact}
use Rattle.machine_bytes.specs.Sparse.{PlaceHasIf, PlacesHave}
use Rattle.machine_bytes.proofs.Exact.{nothing-exact}
use Rattle.machine_bytes.proofs.SparseExact.{sparse-exact}
use Rattle.marks.specs.Marks.{is_marked}
use Rattle.xhci_machine.specs.ActiveTags.{active_form, active_of, mark_place, marks_from}

-- of one tag and those behind it
pub one_more : (words : List ℕ) (at count : ℕ) → 0 < count → marks_from words at count ≡ is_marked words at ∷ marks_from words (at + 1) (count - 1)
one_more words at zero some = absurd (omega (arith, some))
one_more words at (suc count) some =
    let e : at + 1 ≡ suc at = omega arith in
    let f : suc count - 1 ≡ count = omega arith in
    rw (e, f) refl

not_marked : (mark : Bool) → not mark ≡ true → mark ≡ false
not_marked true e = absurd (false≢true e)
not_marked false e = refl

pub active-exact : IsExact active_form
active-exact = sparse-exact 256 false mark_place (omega arith) (nothing-exact true) refl not_marked

length-marks : (words : List ℕ) (at count : ℕ) → length (marks_from words at count) ≡ count
length-marks words at zero = refl
length-marks words at (suc count) = ap suc (length-marks words (suc at) count)

mark_has : (mark : Bool) → PlaceHasIf (not mark) mark_place.form mark
mark_has true = refl
mark_has false = tt

marks_have : (marks : List Bool) → PlacesHave mark_place marks
marks_have [] = tt
marks_have (mark ∷ marks) = (mark_has mark, marks_have marks)

pub active_has : (device : GuestTasks) → active_form.Has (active_of device)
unfolding active_of
active_has device = (length-marks device.active 0 256, marks_have (marks_from device.active 0 256))
