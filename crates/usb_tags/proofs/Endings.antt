-- A step leaves a place as it was, or answers the transfer that it held.
use Rattle.std.proofs.Common.{◌≡◌, ℕ, zero, suc, ◌==◌, Bool, true, false, cond, List, [], ◌∷◌, length, set, get_or, Option, Some, None, refl, ap, sym, ◌∙◌, inl, inr}
use Rattle.std.specs.Prelude.{◌⊎◌, min, nat_le}
use Rattle.std.proofs.lemmas.Bool.{eqb-true, false≢true}
use Rattle.uas_profile.specs.declared.Pipe.{Pipe}
use Rattle.uas_profile.specs.declared.Pipe.TheVariants.{Command, Status, DataIn, DataOut}
use Rattle.uas_tasks.specs.declared.Wants.{Wants}
use Rattle.uas_tasks.specs.declared.Wants.TheVariants.{Absent, Asks as WantsAsks, Waits, Gives as WantsGives, Takes as WantsTakes, Ends as WantsEnds}
use Rattle.uas_tasks.specs.Machine.{answer_on, given, without_task}
use Rattle.usb_disk.specs.Descriptors.{address_of}
use Rattle.usb_places.specs.declared.PlaceState.{PlaceState}
use Rattle.usb_places.specs.declared.PlaceState.TheVariants.{Empty, Holds, Keeps}
use Rattle.usb_places.specs.declared.Transfer.{Transfer}
use Rattle.usb_places.specs.Places.{emptied_at, given_at, held_at, holder, is_full_at, left_at, room_at, tag_under, used_at, with_tag_under}
use Rattle.usb_places.specs.States.{TagState, answered_state, appended_tag, emptied_tag, ended_tag, fresh_tag, held_in, holds, transfer_in, used_up_tag}
use Rattle.usbredir.specs.declared.kinds.Status as answer
use Rattle.usbredir.specs.declared.kinds.Status.TheVariants.{Success, Babble}
use Rattle.usb_tags.specs.declared.AnswerData.{AnswerData}
use Rattle.usb_tags.specs.declared.AnswerData.TheVariants.{Nothing as NoData, Unit as UnitData, Given}
use Rattle.usb_tags.specs.declared.Next.{Next}
use Rattle.usb_tags.specs.declared.Rest.{Rest}
use Rattle.usb_tags.specs.declared.Rest.TheVariants.{Nothing as NoRest, Cancels, Overlaps, Serves}
use Rattle.usb_tags.specs.declared.Sending.{Sending}
use Rattle.usb_tags.specs.declared.Sending.TheVariants.{Nothing as SentAll, Last, Endpoints, Interfaces}
use Rattle.usb_tags.specs.declared.UsbTags.{UsbTags}
use Rattle.usb_tags.specs.Calls.{next_by, next_by_cancel, next_of, rested_by}
use Rattle.usb_tags.specs.Laws.{EachEndsAtItsPlace, IsAnsweredAt, SendsAt}
use Rattle.usb_tags.specs.Serving.{ends_in, ends_out, ends_status, full_in, gives_by, in_ended, out_ended, overlap_text, overlap_told}
use Rattle.usb_tags.specs.Serving.{served, served_if_full, served_if_used, served_task, served_wants, status_ended, status_told, takes_by, text_of, transfer_ended, unit_in, used_out}
use Rattle.usb_tags.proofs.Counts.{HoldsAt, HoldsUnder, either, holder_under}

abbrev pub IsKeptOrAnswered : Pipe → ℕ → UsbTags → UsbTags × Next → Type 0
IsKeptOrAnswered pipe tag device after =
    (held_at after.0.places pipe tag ≡ held_at device.places pipe tag) ⊎ IsAnsweredAt device pipe tag after

-- ONE TAG'S STATE IS WRITTEN

list_kept : (pipe : Pipe) (tags : List TagState) (at place : ℕ) (now : TagState) → held_in pipe now ≡ held_in pipe (get_or tags at fresh_tag)
    → held_in pipe (get_or (set tags at now) place fresh_tag) ≡ held_in pipe (get_or tags place fresh_tag)
list_kept pipe [] at place now alike = refl
list_kept pipe (tag ∷ tags) zero zero now alike = alike
list_kept pipe (tag ∷ tags) zero (suc place) now alike = refl
list_kept pipe (tag ∷ tags) (suc at) zero now alike = refl
list_kept pipe (tag ∷ tags) (suc at) (suc place) now alike = list_kept pipe tags at place now alike

kept : (pipe : Pipe) (tags : List TagState) (at tag : ℕ) (now : TagState) → held_in pipe now ≡ held_in pipe (tag_under tags at)
    → held_at (with_tag_under tags at now) pipe tag ≡ held_at tags pipe tag
kept pipe tags zero tag now alike = refl
kept pipe tags (suc at) zero now alike = refl
kept pipe tags (suc at) (suc tag) now alike = list_kept pipe tags at tag now alike

-- a pipe of a tag held this transfer, and holds none now
record IsEmptied (pipe written : Pipe) (transfer : Transfer) (before now : TagState) : Type 0 where
  pub held : held_in pipe before ≡ Some transfer
  pub none : held_in pipe now ≡ None
  pub here : written ≡ pipe

record IsEmptiedAt (pipe written : Pipe) (transfer : Transfer) (at place : ℕ) (before now : TagState) : Type 0 where
  pub held : held_in pipe before ≡ Some transfer
  pub none : held_in pipe now ≡ None
  pub here : written ≡ pipe
  pub at_place : at ≡ place

abbrev EmptiedAt : Pipe → Pipe → Transfer → ℕ → ℕ → TagState → TagState → Type 0
EmptiedAt pipe written transfer at place before now =
    (held_in pipe now ≡ held_in pipe before) ⊎ IsEmptiedAt pipe written transfer at place before now

here_at : (pipe written : Pipe) (transfer : Transfer) (place : ℕ) (before now : TagState)
    → (held_in pipe now ≡ held_in pipe before) ⊎ IsEmptied pipe written transfer before now → EmptiedAt pipe written transfer place place before now
here_at pipe written transfer place before now (inl alike) = inl alike
here_at pipe written transfer place before now (inr is) = inr (record { held = is.held; none = is.none; here = is.here; at_place = refl })

further_at : (pipe written : Pipe) (transfer : Transfer) (at place : ℕ) (before now : TagState)
    → EmptiedAt pipe written transfer at place before now → EmptiedAt pipe written transfer (suc at) (suc place) before now
further_at pipe written transfer at place before now (inl alike) = inl alike
further_at pipe written transfer at place before now (inr is) =
    inr (record { held = is.held; none = is.none; here = is.here; at_place = ap suc is.at_place })

list_emptied : (pipe written : Pipe) (transfer : Transfer) (tags : List TagState) (at place : ℕ) (now : TagState)
    → (held_in pipe now ≡ held_in pipe (get_or tags at fresh_tag)) ⊎ IsEmptied pipe written transfer (get_or tags at fresh_tag) now
    → EmptiedAt pipe written transfer at place (get_or tags place fresh_tag) (get_or (set tags at now) place fresh_tag)
list_emptied pipe written transfer [] at place now is = inl refl
list_emptied pipe written transfer (tag ∷ tags) zero zero now is = here_at pipe written transfer zero tag now is
list_emptied pipe written transfer (tag ∷ tags) zero (suc place) now is = inl refl
list_emptied pipe written transfer (tag ∷ tags) (suc at) zero now is = inl refl
list_emptied pipe written transfer (tag ∷ tags) (suc at) (suc place) now is =
    further_at pipe written transfer at place _ _ (list_emptied pipe written transfer tags at place now is)

emptied : (pipe written : Pipe) (transfer : Transfer) (tags : List TagState) (at tag : ℕ) (now : TagState)
    → (held_in pipe now ≡ held_in pipe (tag_under tags at)) ⊎ IsEmptied pipe written transfer (tag_under tags at) now
    → EmptiedAt pipe written transfer at tag (tag_under tags tag) (tag_under (with_tag_under tags at now) tag)
emptied pipe written transfer tags zero tag now is = inl refl
emptied pipe written transfer tags (suc at) zero now is = inl refl
emptied pipe written transfer tags (suc at) (suc tag) now is =
    further_at pipe written transfer at tag _ _ (list_emptied pipe written transfer tags at tag now is)

-- so that the answer is the one of that place
answered : (pipe written : Pipe) (transfer : Transfer) (device : UsbTags) (at tag : ℕ) (after : UsbTags × Next)
    → ((written ≡ pipe) → (at ≡ tag) → SendsAt transfer.id pipe tag after.1)
    → EmptiedAt pipe written transfer at tag (tag_under device.places tag) (tag_under after.0.places tag) → IsKeptOrAnswered pipe tag device after
answered pipe written transfer device at tag after told (inl alike) = inl alike
answered pipe written transfer device at tag after told (inr is) =
    inr (record { transfer = transfer; held = is.held; none = is.none; told = told is.here is.at_place })

-- A TRANSFER ENDS

none_after : (status : answer.Status) (moved : ℕ) (state : PlaceState) → transfer_in (answered_state status moved state) ≡ None
none_after status moved Empty = refl
none_after status moved (Holds transfer) = refl
none_after status moved (Keeps kept) = refl

ended_state : (written pipe : Pipe) (tag : TagState) (transfer : Transfer) (status : answer.Status) (moved : ℕ) (unit : List ℕ)
    → held_in written tag ≡ Some transfer
    → (held_in pipe (ended_tag written status moved unit tag) ≡ held_in pipe tag) ⊎ IsEmptied pipe written transfer tag (ended_tag written status moved unit tag)
ended_state Command pipe tag transfer status moved unit is = absurd (cc is)
ended_state Status Command tag transfer status moved unit is = inl refl
ended_state Status Status tag transfer status moved unit is = inr (record { held = is; none = none_after status moved tag.status; here = refl })
ended_state Status DataIn tag transfer status moved unit is = inl refl
ended_state Status DataOut tag transfer status moved unit is = inl refl
ended_state DataIn Command tag transfer status moved unit is = inl refl
ended_state DataIn Status tag transfer status moved unit is = inl refl
ended_state DataIn DataIn tag transfer status moved unit is = inr (record { held = is; none = none_after status moved tag.data_in; here = refl })
ended_state DataIn DataOut tag transfer status moved unit is = inl refl
ended_state DataOut Command tag transfer status moved unit is = inl refl
ended_state DataOut Status tag transfer status moved unit is = inl refl
ended_state DataOut DataIn tag transfer status moved unit is = inl refl
ended_state DataOut DataOut tag transfer status moved unit is = inr (record { held = is; none = none_after status moved tag.data_out; here = refl })

ended_ends : (pipe : Pipe) (tag : ℕ) (device : UsbTags) (written : Pipe) (at : ℕ) (transfer : Transfer) (status : answer.Status) (moved : ℕ) (body : AnswerData)
    → held_at device.places written at ≡ Some transfer → IsKeptOrAnswered pipe tag device (transfer_ended device written at transfer status moved body)
ended_ends pipe tag device written at transfer status moved body is =
    let before = tag_under device.places at in
    answered pipe written transfer device at tag (transfer_ended device written at transfer status moved body)
    (λ here place. (refl, (ap address_of here, place)))
    (emptied pipe written transfer device.places at tag (ended_tag written status moved (unit_in body) before)
    (ended_state written pipe before transfer status moved (unit_in body) is))

told_ends : (pipe : Pipe) (tag : ℕ) (device : UsbTags) (at : ℕ) (transfer : Transfer) (unit : List ℕ) → held_at device.places Status at ≡ Some transfer
    → IsKeptOrAnswered pipe tag device (status_told device at transfer unit)
told_ends pipe tag device at transfer unit is =
    let whole : AnswerData = UnitData (record { items = unit }) in
    let none : AnswerData = UnitData (record { items = [] }) in
    either (IsKeptOrAnswered pipe tag device) (nat_le (length unit) transfer.length)
    (transfer_ended device Status at transfer Success (length unit) whole) (transfer_ended device Status at transfer Babble 0 none)
    (ended_ends pipe tag device Status at transfer Success (length unit) whole is) (ended_ends pipe tag device Status at transfer Babble 0 none is)

same_places : (pipe : Pipe) (tag : ℕ) (device sent : UsbTags) (after : UsbTags × Next) → sent.places ≡ device.places
    → IsKeptOrAnswered pipe tag sent after → IsKeptOrAnswered pipe tag device after
same_places pipe tag device sent after alike (inl is) = inl (is ∙ ap (λ (places : List TagState). held_at places pipe tag) alike)
same_places pipe tag device sent after alike (inr is) =
    inr (record { transfer = is.transfer; held = sym (ap (λ (places : List TagState). held_at places pipe tag) alike) ∙ is.held; none = is.none; told = is.told })

status_ends : (pipe : Pipe) (tag : ℕ) (device : UsbTags) (at : ℕ) (transfer : Transfer) → held_at device.places Status at ≡ Some transfer
    → IsKeptOrAnswered pipe tag device (status_ended device at transfer)
status_ends pipe tag device at transfer is =
    let unit = text_of (answer_on device.tasks at) in
    let sent : UsbTags = record device { tasks = without_task device.tasks at } in
    either (λ (now : UsbTags). IsKeptOrAnswered pipe tag device (status_told now at transfer unit)) (nat_le (length unit) transfer.length) sent device
    (same_places pipe tag device sent (status_told sent at transfer unit) refl (told_ends pipe tag sent at transfer unit is))
    (told_ends pipe tag device at transfer unit is)

in_ends : (pipe : Pipe) (tag : ℕ) (device : UsbTags) (at : ℕ) (transfer : Transfer) → held_at device.places DataIn at ≡ Some transfer
    → IsKeptOrAnswered pipe tag device (in_ended device at transfer)
in_ends pipe tag device at transfer is = ended_ends pipe tag device DataIn at transfer Success (length (given_at device.places at)) (Given at) is

out_ends : (pipe : Pipe) (tag : ℕ) (device : UsbTags) (at : ℕ) (transfer : Transfer) → held_at device.places DataOut at ≡ Some transfer
    → IsKeptOrAnswered pipe tag device (out_ended device at transfer)
out_ends pipe tag device at transfer is = ended_ends pipe tag device DataOut at transfer Success (used_at device.places at) NoData is

-- A TASK IS SERVED

appended_alike : (pipe : Pipe) (bytes : List ℕ) (tag : TagState) → held_in pipe (appended_tag bytes tag) ≡ held_in pipe tag
appended_alike Command bytes tag = refl
appended_alike Status bytes tag = refl
appended_alike DataIn bytes tag = refl
appended_alike DataOut bytes tag = refl

used_alike : (pipe : Pipe) (count : ℕ) (tag : TagState) → held_in pipe (used_up_tag count tag) ≡ held_in pipe tag
used_alike Command count tag = refl
used_alike Status count tag = refl
used_alike DataIn count tag = refl
used_alike DataOut count tag = refl

gives_keeps : (pipe : Pipe) (tag : ℕ) (device : UsbTags) (at bytes : ℕ) (held : Option Transfer) → held_at device.places DataIn at ≡ held
    → IsKeptOrAnswered pipe tag device (gives_by device at bytes held)
gives_keeps pipe tag device at bytes None is = inl refl
gives_keeps pipe tag device at bytes (Some transfer) is =
    let new = given device.tasks at (min (min bytes (room_at device.places at)) 4096) in
    either (IsKeptOrAnswered pipe tag device) (room_at device.places at == 0) _ _ (in_ends pipe tag device at transfer is)
    (inl (kept pipe device.places at tag (appended_tag new (tag_under device.places at)) (appended_alike pipe new (tag_under device.places at))))

takes_keeps : (pipe : Pipe) (tag : ℕ) (device : UsbTags) (at bytes : ℕ) (held : Option Transfer) → IsKeptOrAnswered pipe tag device (takes_by device at bytes held)
takes_keeps pipe tag device at bytes None = inl refl
takes_keeps pipe tag device at bytes (Some transfer) =
    let count = min bytes (length (left_at device.places at)) in
    inl (kept pipe device.places at tag (used_up_tag count (tag_under device.places at)) (used_alike pipe count (tag_under device.places at)))

ends_status_ends : (pipe : Pipe) (tag : ℕ) (device : UsbTags) (at : ℕ) (held : Option Transfer) → held_at device.places Status at ≡ held
    → IsKeptOrAnswered pipe tag device (ends_status device at held)
ends_status_ends pipe tag device at None is = inl refl
ends_status_ends pipe tag device at (Some transfer) is = status_ends pipe tag device at transfer is

ends_out_ends : (pipe : Pipe) (tag : ℕ) (device : UsbTags) (at : ℕ) (held : Option Transfer) → held_at device.places DataOut at ≡ held
    → IsKeptOrAnswered pipe tag device (ends_out device at held)
ends_out_ends pipe tag device at None is = ends_status_ends pipe tag device at (held_at device.places Status at) refl
ends_out_ends pipe tag device at (Some transfer) is = out_ends pipe tag device at transfer is

ends_ends : (pipe : Pipe) (tag : ℕ) (device : UsbTags) (at : ℕ) (held : Option Transfer) → held_at device.places DataIn at ≡ held
    → IsKeptOrAnswered pipe tag device (ends_in device at held)
ends_ends pipe tag device at None is = ends_out_ends pipe tag device at (held_at device.places DataOut at) refl
ends_ends pipe tag device at (Some transfer) is = in_ends pipe tag device at transfer is

wants_ends : (pipe : Pipe) (tag : ℕ) (device : UsbTags) (at : ℕ) (wants : Wants) → IsKeptOrAnswered pipe tag device (served_wants device at wants)
wants_ends pipe tag device at Absent = inl refl
wants_ends pipe tag device at WantsAsks = inl refl
wants_ends pipe tag device at Waits = inl refl
wants_ends pipe tag device at (WantsGives bytes) = gives_keeps pipe tag device at bytes (held_at device.places DataIn at) refl
wants_ends pipe tag device at (WantsTakes bytes) = takes_keeps pipe tag device at bytes (held_at device.places DataOut at)
wants_ends pipe tag device at WantsEnds = ends_ends pipe tag device at (held_at device.places DataIn at) refl

task_ends : (pipe : Pipe) (tag : ℕ) (device : UsbTags) (at : ℕ) → IsKeptOrAnswered pipe tag device (served_task device at)
unfolding served_task
task_ends pipe tag device at = wants_ends pipe tag device at _

from_if : (b : Bool) (held : Option Transfer) (transfer : Transfer) → cond b held None ≡ Some transfer → held ≡ Some transfer
from_if true held transfer is = is
from_if false held transfer is = absurd (cc is)

out_served : (pipe : Pipe) (tag : ℕ) (device : UsbTags) (at : ℕ) (used : Option Transfer) → used_out device.places at ≡ used
    → IsKeptOrAnswered pipe tag device (served_if_used device at used)
out_served pipe tag device at None is = task_ends pipe tag device at
out_served pipe tag device at (Some transfer) is =
    out_ends pipe tag device at transfer (from_if (length (left_at device.places at) == 0) (held_at device.places DataOut at) transfer is)

in_served : (pipe : Pipe) (tag : ℕ) (device : UsbTags) (at : ℕ) (full : Option Transfer) → full_in device.places at ≡ full
    → IsKeptOrAnswered pipe tag device (served_if_full device at full)
in_served pipe tag device at None is = out_served pipe tag device at (used_out device.places at) refl
in_served pipe tag device at (Some transfer) is =
    in_ends pipe tag device at transfer (from_if (is_full_at device.places at) (held_at device.places DataIn at) transfer is)

served_ends_so : (pipe : Pipe) (tag : ℕ) (device : UsbTags) (at : ℕ) → IsKeptOrAnswered pipe tag device (served device at)
unfolding served
served_ends_so pipe tag device at = in_served pipe tag device at (full_in device.places at) refl

-- THE REST

overlap_ends : (pipe : Pipe) (tag : ℕ) (device : UsbTags) (at : ℕ) (held : Option Transfer) → held_at device.places Status at ≡ held
    → IsKeptOrAnswered pipe tag device (overlap_told device at held)
overlap_ends pipe tag device at None is = inl refl
overlap_ends pipe tag device at (Some transfer) is = told_ends pipe tag device at transfer (overlap_text at) is

-- what a state that holds an id holds
record HasTransfer (under : ℕ) (state : Option Transfer) : Type 0 where
  pub transfer : Transfer
  pub held : state ≡ Some transfer
  pub alike : transfer.id ≡ under

has_transfer : (under : ℕ) (state : PlaceState) → holds under state ≡ true → HasTransfer under (transfer_in state)
has_transfer under Empty is = absurd (false≢true is)
has_transfer under (Holds transfer) is = record { transfer = transfer; held = refl; alike = eqb-true transfer.id under is }
has_transfer under (Keeps kept) is = absurd (false≢true is)

transfer_at : (under : ℕ) (written : Pipe) (tag : TagState) → HoldsAt under written tag → HasTransfer under (held_in written tag)
transfer_at under Command tag is = absurd is
transfer_at under Status tag is = has_transfer under tag.status is
transfer_at under DataIn tag is = has_transfer under tag.data_in is
transfer_at under DataOut tag is = has_transfer under tag.data_out is

emptied_state : (written pipe : Pipe) (tag : TagState) (transfer : Transfer) → held_in written tag ≡ Some transfer
    → (held_in pipe (emptied_tag written tag) ≡ held_in pipe tag) ⊎ IsEmptied pipe written transfer tag (emptied_tag written tag)
emptied_state Command pipe tag transfer is = absurd (cc is)
emptied_state Status Command tag transfer is = inl refl
emptied_state Status Status tag transfer is = inr (record { held = is; none = refl; here = refl })
emptied_state Status DataIn tag transfer is = inl refl
emptied_state Status DataOut tag transfer is = inl refl
emptied_state DataIn Command tag transfer is = inl refl
emptied_state DataIn Status tag transfer is = inl refl
emptied_state DataIn DataIn tag transfer is = inr (record { held = is; none = refl; here = refl })
emptied_state DataIn DataOut tag transfer is = inl refl
emptied_state DataOut Command tag transfer is = inl refl
emptied_state DataOut Status tag transfer is = inl refl
emptied_state DataOut DataIn tag transfer is = inl refl
emptied_state DataOut DataOut tag transfer is = inr (record { held = is; none = refl; here = refl })

cancel_at : (pipe : Pipe) (tag : ℕ) (device : UsbTags) (under : ℕ) (written : Pipe) (at : ℕ) → HasTransfer under (held_at device.places written at)
    → IsKeptOrAnswered pipe tag device (next_by_cancel device under (emptied_at device.places (Some (written, at)), Some (written, at)))
cancel_at pipe tag device under written at is =
    let before = tag_under device.places at in
    answered pipe written is.transfer device at tag (next_by_cancel device under (emptied_at device.places (Some (written, at)), Some (written, at)))
    (λ here place. (sym is.alike, (ap address_of here, place)))
    (emptied pipe written is.transfer device.places at tag (emptied_tag written before) (emptied_state written pipe before is.transfer is.held))

cancel_ends : (pipe : Pipe) (tag : ℕ) (device : UsbTags) (under : ℕ) (found : Option (Pipe × ℕ)) → HoldsUnder under device.places found
    → IsKeptOrAnswered pipe tag device (next_by_cancel device under (emptied_at device.places found, found))
cancel_ends pipe tag device under None is = inl refl
cancel_ends pipe tag device under (Some place) is =
    cancel_at pipe tag device under place.0 place.1 (transfer_at under place.0 (tag_under device.places place.1) is)

rest_ends : (pipe : Pipe) (tag : ℕ) (device : UsbTags) (rest : Rest) → IsKeptOrAnswered pipe tag device (rested_by device rest)
rest_ends pipe tag device NoRest = inl refl
rest_ends pipe tag device (Cancels under) = cancel_ends pipe tag device under (holder under device.places) (holder_under under device.places)
rest_ends pipe tag device (Overlaps at) =
    let served_then : UsbTags = record device { rest = Serves at } in
    same_places pipe tag device served_then (overlap_told served_then at (held_at device.places Status at)) refl
    (overlap_ends pipe tag served_then at (held_at device.places Status at) refl)
rest_ends pipe tag device (Serves at) = served_ends_so pipe tag device at

sending_ends : (pipe : Pipe) (tag : ℕ) (device : UsbTags) (sending : Sending) → IsKeptOrAnswered pipe tag device (next_by device sending)
sending_ends pipe tag device SentAll = rest_ends pipe tag device device.rest
sending_ends pipe tag device (Last answer) = inl refl
sending_ends pipe tag device (Endpoints answer) = inl refl
sending_ends pipe tag device (Interfaces answer) = inl refl

pub next_ends : EachEndsAtItsPlace
unfolding next_of
next_ends device pipe tag = sending_ends pipe tag device device.sending
