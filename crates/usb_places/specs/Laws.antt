-- Laws of what is held and kept.
use Rattle.std.specs.Prelude.{◌≡◌, ℕ, zero, suc, ◌+◌, ◌≤◌, Bool, true, false, ◌&&◌, if◌then◌else◌, List, [], ◌∷◌, is_some, option_map, None, Some}
use Rattle.uas_profile.specs.declared.Pipe.{Pipe}
use Rattle.usbredir.specs.declared.kinds.Status as answer
use Rattle.usb_places.specs.declared.Transfer.{Transfer}
use Rattle.usb_places.specs.declared.PlaceState.{PlaceState}
use Rattle.usb_places.specs.declared.PlaceState.TheVariants.{Holds}
use Rattle.usb_places.specs.Places.{cancelled_one, held_at, holder}
use Rattle.usb_places.specs.States.{TagState, answered_state, holds, kept_in, lost_in, lost_state, told_state, transfer_in}

-- a place never both holds a transfer and keeps an answer
abbrev pub HoldsOrKeeps : Type 0
HoldsOrKeeps = (state : PlaceState) → is_some (transfer_in state) && is_some (kept_in state) ≡ false

-- HOW MANY PLACES HOLD A TRANSFER OF AN ID

abbrev pub one_if : Bool → ℕ
one_if held = if held then 1 else 0

abbrev pub held_in_tag : ℕ → TagState → ℕ
held_in_tag id tag = one_if (holds id tag.status) + one_if (holds id tag.data_in) + one_if (holds id tag.data_out)

abbrev pub held_under : ℕ → List TagState → ℕ
held_under id [] = 0
held_under id (tag ∷ tags) = held_in_tag id tag + held_under id tags

-- what is found holds a transfer of that id, and nothing is found only where there is none
abbrev pub FindsHeld : Type 0
FindsHeld = (tags : List TagState) (id : ℕ) (place : Pipe × ℕ) → holder id tags ≡ Some place →
    option_map (λ transfer. transfer.id) (held_at tags place.0 place.1) ≡ Some id

abbrev pub FindsEach : Type 0
FindsEach = (tags : List TagState) (id : ℕ) → holder id tags ≡ None → held_under id tags ≡ 0

-- one cancel takes one away
abbrev pub CancelsOne : Type 0
CancelsOne = (tags : List TagState) (id : ℕ) (place : Pipe × ℕ) → holder id tags ≡ Some place →
    held_under id (cancelled_one tags id).0 + 1 ≡ held_under id tags

-- so many cancels in turn
abbrev pub cancelled : ℕ → List TagState → ℕ → List TagState
cancelled zero tags id = tags
cancelled (suc times) tags id = cancelled times (cancelled_one tags id).0 id

-- as many cancels as places hold a transfer of the id, or more, leave none
abbrev pub CancelsAll : Type 0
CancelsAll = (tags : List TagState) (id times : ℕ) → held_under id tags ≤ times → held_under id (cancelled times tags id) ≡ 0

-- TOLD AGAIN

-- what a place has once its transfer was answered
abbrev pub answered_place : Transfer → answer.Status → ℕ → PlaceState
answered_place transfer status moved = answered_state status moved (Holds transfer)

-- and once it was cancelled too late
abbrev pub lost_place : Transfer → answer.Status → ℕ → PlaceState
lost_place transfer status moved = lost_state transfer.id (answered_place transfer status moved)

-- An answer isn't told again to a transfer that merely has the same id and length; after a late cancel it is, once.
pub record IsToldOnce (transfer : Transfer) (status : answer.Status) (moved : ℕ) : Type 0 where
  pub before : lost_in transfer (answered_place transfer status moved) ≡ None
  pub again : lost_in transfer (lost_place transfer status moved) ≡ Some (record { transfer = transfer; status = status; moved = moved; lost = true })
  pub after : lost_in transfer (told_state (lost_place transfer status moved)) ≡ None

abbrev pub ToldOnce : Type 0
ToldOnce = (transfer : Transfer) (status : answer.Status) (moved : ℕ) → IsToldOnce transfer status moved
