-- Each step leaves owed what it doesn't send.
use Rattle.std.proofs.Common.{◌≡◌, ℕ, ◌+◌, ◌==◌, Bool, true, false, cond, List, [], length, Option, Some, None, refl, ap, arith}
use Rattle.std.specs.Prelude.{min, nat_le}
use Rattle.uas_profile.specs.declared.Pipe.{Pipe}
use Rattle.uas_profile.specs.declared.Pipe.TheVariants.{Status, DataIn, DataOut}
use Rattle.uas_tasks.specs.declared.Next.{Next as TaskNext}
use Rattle.uas_tasks.specs.declared.Next.TheVariants.{Absent as NextAbsent, Asks as NextAsks, Waits as NextWaits, Gives as NextGives, Takes as NextTakes, Ends as NextEnds}
use Rattle.uas_tasks.specs.declared.Wants.{Wants}
use Rattle.uas_tasks.specs.declared.Wants.TheVariants.{Absent, Asks as WantsAsks, Waits, Gives as WantsGives, Takes as WantsTakes, Ends as WantsEnds}
use Rattle.uas_tasks.specs.Machine.{answer_on, given, next_of as next_task, without_task}
use Rattle.usb_places.specs.declared.Transfer.{Transfer}
use Rattle.usb_places.specs.Places.{emptied_at, given_at, held_at, holder, is_full_at, left_at, room_at, tag_under, used_at}
use Rattle.usb_places.specs.States.{appended_tag, emptied_tag, ended_tag, used_up_tag}
use Rattle.usbredir.specs.declared.kinds.Status as answer
use Rattle.usbredir.specs.declared.kinds.Status.TheVariants.{Success, Babble}
use Rattle.usb_tags.specs.declared.AnswerData.{AnswerData}
use Rattle.usb_tags.specs.declared.AnswerData.TheVariants.{Nothing as NoData, Unit as UnitData, Given}
use Rattle.usb_tags.specs.declared.Next.{Next}
use Rattle.usb_tags.specs.declared.Rest.{Rest}
use Rattle.usb_tags.specs.declared.Rest.TheVariants.{Nothing as NoRest, Cancels, Overlaps, Serves}
use Rattle.usb_tags.specs.declared.Sending.{Sending}
use Rattle.usb_tags.specs.declared.Sending.TheVariants.{Nothing as SentAll, Last, Endpoints, Interfaces}
use Rattle.usb_tags.specs.declared.UsbTags.{UsbTags}
use Rattle.usb_tags.specs.Calls.{next_by, next_by_cancel, next_of, rested_by}
use Rattle.usb_tags.specs.Laws.{one_if, owed, sending_under, sent_under}
use Rattle.usb_tags.specs.Serving.{asked_as, ends_in, ends_out, ends_status, full_in, gives_by, in_ended, out_ended, overlap_text, overlap_told}
use Rattle.usb_tags.specs.Serving.{served, served_if_full, served_if_used, served_task, served_wants, status_ended, status_told, takes_by, text_of, transfer_ended, unit_in, used_out}
use Rattle.usb_tags.proofs.Counts.{HoldsUnder, either, emptied_less, ended_less, holder_under, lowered, same}

-- what is left owed and what is sent are what was owed
abbrev pub IsBalanced : ℕ → UsbTags → UsbTags × Next → Type 0
IsBalanced id device after = owed id after.0 + sent_under id after.1 ≡ owed id device

-- A TRANSFER ENDS

ended_balanced : (id : ℕ) (device : UsbTags) (pipe : Pipe) (tag : ℕ) (transfer : Transfer) (status : answer.Status) (moved : ℕ) (body : AnswerData)
    → held_at device.places pipe tag ≡ Some transfer → IsBalanced id device (transfer_ended device pipe tag transfer status moved body)
ended_balanced id device pipe tag transfer status moved body is =
    let now = ended_tag pipe status moved (unit_in body) (tag_under device.places tag) in
    let less = lowered id device.places tag (one_if (transfer.id == id)) now
    (ended_less id pipe (tag_under device.places tag) transfer status moved (unit_in body) is) in
    omega (arith, less)

told_balanced : (id : ℕ) (device : UsbTags) (tag : ℕ) (transfer : Transfer) (unit : List ℕ) → held_at device.places Status tag ≡ Some transfer
    → IsBalanced id device (status_told device tag transfer unit)
told_balanced id device tag transfer unit is =
    let whole : AnswerData = UnitData (record { items = unit }) in
    let none : AnswerData = UnitData (record { items = [] }) in
    either (IsBalanced id device) (nat_le (length unit) transfer.length)
    (transfer_ended device Status tag transfer Success (length unit) whole) (transfer_ended device Status tag transfer Babble 0 none)
    (ended_balanced id device Status tag transfer Success (length unit) whole is) (ended_balanced id device Status tag transfer Babble 0 none is)

-- data-in, and data-out
in_ended_balanced : (id : ℕ) (device : UsbTags) (tag : ℕ) (transfer : Transfer) → held_at device.places DataIn tag ≡ Some transfer
    → IsBalanced id device (in_ended device tag transfer)
in_ended_balanced id device tag transfer is =
    ended_balanced id device DataIn tag transfer Success (length (given_at device.places tag)) (Given tag) is

out_ended_balanced : (id : ℕ) (device : UsbTags) (tag : ℕ) (transfer : Transfer) → held_at device.places DataOut tag ≡ Some transfer
    → IsBalanced id device (out_ended device tag transfer)
out_ended_balanced id device tag transfer is =
    ended_balanced id device DataOut tag transfer Success (used_at device.places tag) NoData is

status_balanced : (id : ℕ) (device : UsbTags) (tag : ℕ) (transfer : Transfer) → held_at device.places Status tag ≡ Some transfer
    → IsBalanced id device (status_ended device tag transfer)
status_balanced id device tag transfer is =
    let unit = text_of (answer_on device.tasks tag) in
    let sent : UsbTags = record device { tasks = without_task device.tasks tag } in
    either (λ (now : UsbTags). IsBalanced id device (status_told now tag transfer unit)) (nat_le (length unit) transfer.length) sent device
    (told_balanced id sent tag transfer unit is) (told_balanced id device tag transfer unit is)

-- A TASK IS SERVED

asked_balanced : (id : ℕ) (device : UsbTags) (next : TaskNext) → sent_under id (asked_as next) ≡ 0
asked_balanced id device NextAbsent = refl
asked_balanced id device (NextAsks number request) = refl
asked_balanced id device NextWaits = refl
asked_balanced id device (NextGives bytes) = refl
asked_balanced id device (NextTakes bytes) = refl
asked_balanced id device NextEnds = refl

gives_balanced : (id : ℕ) (device : UsbTags) (tag bytes : ℕ) (held : Option Transfer) → held_at device.places DataIn tag ≡ held
    → IsBalanced id device (gives_by device tag bytes held)
gives_balanced id device tag bytes None is = omega arith
gives_balanced id device tag bytes (Some transfer) is =
    let count = min (min bytes (room_at device.places tag)) 4096 in
    let alike = same id device.places tag (appended_tag (given device.tasks tag count) (tag_under device.places tag)) refl in
    either (IsBalanced id device) (room_at device.places tag == 0) _ _ (in_ended_balanced id device tag transfer is) (omega (arith, alike))

takes_balanced : (id : ℕ) (device : UsbTags) (tag bytes : ℕ) (held : Option Transfer) → IsBalanced id device (takes_by device tag bytes held)
takes_balanced id device tag bytes None = omega arith
takes_balanced id device tag bytes (Some transfer) =
    let count = min bytes (length (left_at device.places tag)) in
    let alike = same id device.places tag (used_up_tag count (tag_under device.places tag)) refl in
    omega (arith, alike)

ends_status_balanced : (id : ℕ) (device : UsbTags) (tag : ℕ) (held : Option Transfer) → held_at device.places Status tag ≡ held
    → IsBalanced id device (ends_status device tag held)
ends_status_balanced id device tag None is = omega arith
ends_status_balanced id device tag (Some transfer) is = status_balanced id device tag transfer is

ends_out_balanced : (id : ℕ) (device : UsbTags) (tag : ℕ) (held : Option Transfer) → held_at device.places DataOut tag ≡ held
    → IsBalanced id device (ends_out device tag held)
ends_out_balanced id device tag None is = ends_status_balanced id device tag (held_at device.places Status tag) refl
ends_out_balanced id device tag (Some transfer) is = out_ended_balanced id device tag transfer is

ends_balanced : (id : ℕ) (device : UsbTags) (tag : ℕ) (held : Option Transfer) → held_at device.places DataIn tag ≡ held
    → IsBalanced id device (ends_in device tag held)
ends_balanced id device tag None is = ends_out_balanced id device tag (held_at device.places DataOut tag) refl
ends_balanced id device tag (Some transfer) is = in_ended_balanced id device tag transfer is

wants_balanced : (id : ℕ) (device : UsbTags) (tag : ℕ) (wants : Wants) → IsBalanced id device (served_wants device tag wants)
wants_balanced id device tag Absent = omega arith
wants_balanced id device tag WantsAsks =
    let none = asked_balanced id device (next_task device.tasks tag).1 in omega (arith, none)
wants_balanced id device tag Waits = omega arith
wants_balanced id device tag (WantsGives bytes) = gives_balanced id device tag bytes (held_at device.places DataIn tag) refl
wants_balanced id device tag (WantsTakes bytes) = takes_balanced id device tag bytes (held_at device.places DataOut tag)
wants_balanced id device tag WantsEnds = ends_balanced id device tag (held_at device.places DataIn tag) refl

task_balanced : (id : ℕ) (device : UsbTags) (tag : ℕ) → IsBalanced id device (served_task device tag)
unfolding served_task
task_balanced id device tag = wants_balanced id device tag _

from_if : (b : Bool) (held : Option Transfer) (transfer : Transfer) → cond b held None ≡ Some transfer → held ≡ Some transfer
from_if true held transfer is = is
from_if false held transfer is = absurd (cc is)

out_balanced : (id : ℕ) (device : UsbTags) (tag : ℕ) (used : Option Transfer) → used_out device.places tag ≡ used
    → IsBalanced id device (served_if_used device tag used)
out_balanced id device tag None is = task_balanced id device tag
out_balanced id device tag (Some transfer) is =
    out_ended_balanced id device tag transfer (from_if (length (left_at device.places tag) == 0) (held_at device.places DataOut tag) transfer is)

in_balanced : (id : ℕ) (device : UsbTags) (tag : ℕ) (full : Option Transfer) → full_in device.places tag ≡ full
    → IsBalanced id device (served_if_full device tag full)
in_balanced id device tag None is = out_balanced id device tag (used_out device.places tag) refl
in_balanced id device tag (Some transfer) is =
    in_ended_balanced id device tag transfer (from_if (is_full_at device.places tag) (held_at device.places DataIn tag) transfer is)

served_balanced : (id : ℕ) (device : UsbTags) (tag : ℕ) → IsBalanced id device (served device tag)
unfolding served
served_balanced id device tag = in_balanced id device tag (full_in device.places tag) refl

-- THE REST

overlap_balanced : (id : ℕ) (device : UsbTags) (tag : ℕ) (held : Option Transfer) → held_at device.places Status tag ≡ held
    → IsBalanced id device (overlap_told device tag held)
overlap_balanced id device tag None is = omega arith
overlap_balanced id device tag (Some transfer) is = told_balanced id device tag transfer (overlap_text tag) is

cancel_balanced : (id : ℕ) (device : UsbTags) (under : ℕ) (found : Option (Pipe × ℕ)) → HoldsUnder under device.places found
    → IsBalanced id device (next_by_cancel device under (emptied_at device.places found, found))
cancel_balanced id device under None is = omega arith
cancel_balanced id device under (Some place) is =
    let less = lowered id device.places place.1 (one_if (under == id)) (emptied_tag place.0 (tag_under device.places place.1))
    (emptied_less id under place.0 (tag_under device.places place.1) is) in
    omega (arith, less)

rest_balanced : (id : ℕ) (device : UsbTags) (rest : Rest) → IsBalanced id device (rested_by device rest)
rest_balanced id device NoRest = omega arith
rest_balanced id device (Cancels under) =
    cancel_balanced id device under (holder under device.places) (holder_under under device.places)
rest_balanced id device (Overlaps tag) =
    overlap_balanced id (record device { rest = Serves tag }) tag (held_at device.places Status tag) refl
rest_balanced id device (Serves tag) = served_balanced id device tag

sending_balanced : (id : ℕ) (device : UsbTags) (sending : Sending) → device.sending ≡ sending → IsBalanced id device (next_by device sending)
sending_balanced id device SentAll is = rest_balanced id device device.rest
sending_balanced id device (Last answer) is = let told = ap (sending_under id) is in omega (arith, told)
sending_balanced id device (Endpoints answer) is = let told = ap (sending_under id) is in omega (arith, told)
sending_balanced id device (Interfaces answer) is = let told = ap (sending_under id) is in omega (arith, told)

pub next_balanced : (device : UsbTags) (id : ℕ) → IsBalanced id device (next_of device)
unfolding next_of
next_balanced device id = sending_balanced id device device.sending refl
