-- The place that a layout finds for a pointer is the definition's.
use Rattle.std.proofs.Common.{◌≡◌, ℕ, ◌-◌, Bool, true, false, Option, Some, None, refl, ap, sym, ◌∙◌}
use Rattle.std.specs.Prelude.{◌==◌, if◌then◌else◌, IfSome}
use Rattle.std.proofs.lemmas.Bool.{eq-eqb, eqb-true}
use Rattle.std.proofs.lemmas.Option.{same_Some}
use Rattle.host_layout.specs.declared.layout.Layout.{Layout}
use Rattle.host_layout.specs.declared.rings.RingPlace.{RingPlace}
use Rattle.host_layout.specs.Rings.{guess_of, trb_of}
use Rattle.host_layout.proofs.Found.{guess_is}
use Rattle.block_driver.specs.Events.{found_at, found_in}

abbrev guess : Layout → ℕ → RingPlace
guess layout pointer = guess_of layout.shape (pointer - layout.base)

abbrev Stands : Layout → ℕ → Option RingPlace → Type 0
Stands layout pointer found = IfSome found (λ at. trb_of layout at ≡ Some pointer)

abbrev Finds : Layout → ℕ → Option RingPlace → Type 0
Finds layout pointer found = (at : RingPlace) → trb_of layout at ≡ Some pointer → found ≡ Some at

-- what stands there is the guess
stands_guess : (layout : Layout) (pointer : ℕ) (at : RingPlace) → trb_of layout at ≡ Some pointer → trb_of layout (guess layout pointer) ≡ Some pointer
stands_guess layout pointer at there = ap (trb_of layout) (guess_is layout at pointer there) ∙ there

by_test : (layout : Layout) (pointer address : ℕ) (found : Option RingPlace) → Stands layout pointer found → Finds layout pointer found
    → trb_of layout (guess layout pointer) ≡ Some address → (is : Bool) → (address == pointer) ≡ is
    → found ≡ (if is then Some (guess layout pointer) else None)
by_test layout pointer address found there every at true is = every (guess layout pointer) (at ∙ ap Some (eqb-true address pointer is))
by_test layout pointer address None there every at false is = refl
by_test layout pointer address (Some other) there every at false is =
    let same : Some address ≡ Some pointer = sym at ∙ stands_guess layout pointer other there in
    let both : true ≡ false = sym (eq-eqb address pointer (same_Some _ _ same)) ∙ is in
    absurd (cc both)

by_guess : (layout : Layout) (pointer : ℕ) (found : Option RingPlace) → Stands layout pointer found → Finds layout pointer found
    → (at : Option ℕ) → trb_of layout (guess layout pointer) ≡ at → found ≡ found_at at (guess layout pointer) pointer
by_guess layout pointer found there every (Some address) at = by_test layout pointer address found there every at (address == pointer) refl
by_guess layout pointer None there every None at = refl
by_guess layout pointer (Some other) there every None at =
    let both : None ≡ Some pointer = sym at ∙ stands_guess layout pointer other there in
    absurd (cc both)

pub found_is : (layout : Layout) (pointer : ℕ) (found : Option RingPlace) → Stands layout pointer found → Finds layout pointer found
    → found ≡ found_in layout pointer
found_is layout pointer found there every = by_guess layout pointer found there every (trb_of layout (guess layout pointer)) refl
