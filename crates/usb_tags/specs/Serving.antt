-- A tag is served: what its task does next, by one step.
use Rattle.std.specs.Prelude.{ℕ, min, ◌==◌, nat_le, if◌then◌else◌, List, [], length, take, Option, None, Some}
use Rattle.uas_iu.specs.declared.Iu.{Iu}
use Rattle.uas_iu.specs.declared.Iu.TheVariants.{Response}
use Rattle.uas_iu.specs.Units.{unit_text}
use Rattle.uas_profile.specs.declared.Pipe.{Pipe}
use Rattle.uas_profile.specs.declared.Pipe.TheVariants.{Status, DataIn, DataOut}
use Rattle.uas_tasks.specs.declared.Next.{Next as TaskNext}
use Rattle.uas_tasks.specs.declared.Next.TheVariants.{Absent as NextAbsent, Asks as NextAsks, Waits as NextWaits, Gives as NextGives, Takes as NextTakes, Ends as NextEnds}
use Rattle.uas_tasks.specs.declared.Wants.{Wants}
use Rattle.uas_tasks.specs.declared.Wants.TheVariants.{Absent, Asks as WantsAsks, Waits, Gives as WantsGives, Takes as WantsTakes, Ends as WantsEnds}
use Rattle.uas_tasks.specs.Machine.{answer_on, gave, given, next_of, took, wanted, without_task}
use Rattle.usb_disk.specs.Descriptors.{address_of}
use Rattle.usb_places.specs.declared.Transfer.{Transfer}
use Rattle.usb_places.specs.Places.{appended, ended, given_at, held_at, is_full_at, left_at, room_at, used_at, used_up}
use Rattle.usb_places.specs.States.{TagState}
use Rattle.usbredir.specs.declared.kinds.Status as answer
use Rattle.usbredir.specs.declared.kinds.Status.TheVariants.{Success, Babble}
use Rattle.usb_tags.specs.declared.AnswerData.{AnswerData}
use Rattle.usb_tags.specs.declared.AnswerData.TheVariants.{Nothing as NoData, Control as ControlData, Unit as UnitData, Given}
use Rattle.usb_tags.specs.declared.Next.{Next}
use Rattle.usb_tags.specs.declared.Next.TheVariants.{Quiet, Moved, Asks, Sends}
use Rattle.usb_tags.specs.declared.Rest.TheVariants.{Serves}
use Rattle.usb_tags.specs.declared.UsbTags.{UsbTags}
use Rattle.usb_tags.specs.Bulk.{bulk_told}

-- TRANSFERS THAT END

-- the unit that goes with an answer, which its place keeps
abbrev pub unit_in : AnswerData → List ℕ
unit_in NoData = []
unit_in (ControlData bytes) = []
unit_in (UnitData text) = text.items
unit_in (Given tag) = []

-- a held transfer is answered, and the answer kept
abbrev pub transfer_ended : UsbTags → Pipe → ℕ → Transfer → answer.Status → ℕ → AnswerData → UsbTags × Next
transfer_ended device pipe tag transfer status moved body = (
  record device { places = ended device.places pipe tag status moved (unit_in body) },
  Sends (bulk_told transfer.id (address_of pipe) tag status moved body),
)

-- data-in ends with what it was given, data-out with what the task used
abbrev pub in_ended : UsbTags → ℕ → Transfer → UsbTags × Next
in_ended device tag transfer = transfer_ended device DataIn tag transfer Success (length (given_at device.places tag)) (Given tag)

abbrev pub out_ended : UsbTags → ℕ → Transfer → UsbTags × Next
out_ended device tag transfer = transfer_ended device DataOut tag transfer Success (used_at device.places tag) NoData

-- a status transfer takes a unit, or ends by babble where it is too short
abbrev pub status_told : UsbTags → ℕ → Transfer → List ℕ → UsbTags × Next
status_told device tag transfer unit =
    if nat_le (length unit) transfer.length
    then transfer_ended device Status tag transfer Success (length unit) (UnitData (record { items = unit }))
    else transfer_ended device Status tag transfer Babble 0 (UnitData (record { items = [] }))

-- the unit that answers a task
abbrev pub text_of : Option Iu → List ℕ
text_of None = []
text_of (Some unit) = unit_text unit

-- the task is gone once its unit is told; where the transfer is too short for it, the unit stays due
abbrev pub told_off : UsbTags → ℕ → Transfer → List ℕ → UsbTags
told_off device tag transfer unit =
    if nat_le (length unit) transfer.length then record device { tasks = without_task device.tasks tag } else device

abbrev pub unit_told : UsbTags → ℕ → Transfer → List ℕ → UsbTags × Next
unit_told device tag transfer unit = status_told (told_off device tag transfer unit) tag transfer unit

abbrev pub status_ended : UsbTags → ℕ → Transfer → UsbTags × Next
status_ended device tag transfer = unit_told device tag transfer (text_of (answer_on device.tasks tag))

-- WHAT A TASK WANTS

abbrev pub asked_as : TaskNext → Next
asked_as NextAbsent = Moved
asked_as (NextAsks number request) = Asks number request
asked_as NextWaits = Moved
asked_as (NextGives bytes) = Moved
asked_as (NextTakes bytes) = Moved
asked_as NextEnds = Moved

abbrev pub asked : UsbTags → ℕ → UsbTags × Next
asked device tag = let after = next_of device.tasks tag in (record device { tasks = after.0 }, asked_as after.1)

-- so many bytes go into the held data-in
abbrev pub gave_part : UsbTags → ℕ → ℕ → UsbTags
gave_part device tag count =
    record device { tasks = gave device.tasks tag count; places = appended device.places tag (given device.tasks tag count) }

-- as many as there is room for, and at most 4,096; where a held data-out left it no room, it ends with what it was given
abbrev pub gives_by : UsbTags → ℕ → ℕ → Option Transfer → UsbTags × Next
gives_by device tag bytes None = (device, Quiet)
gives_by device tag bytes (Some transfer) =
    if room_at device.places tag == 0 then in_ended device tag transfer
    else (gave_part device tag (min (min bytes (room_at device.places tag)) 4096), Moved)

abbrev pub served_gives : UsbTags → ℕ → ℕ → UsbTags × Next
served_gives device tag bytes = gives_by device tag bytes (held_at device.places DataIn tag)

-- so many bytes of the held data-out are used
abbrev pub took_part : UsbTags → ℕ → ℕ → UsbTags
took_part device tag count =
    record device { tasks = took device.tasks tag (take count (left_at device.places tag)); places = used_up device.places tag count }

abbrev pub takes_by : UsbTags → ℕ → ℕ → Option Transfer → UsbTags × Next
takes_by device tag bytes None = (device, Quiet)
takes_by device tag bytes (Some transfer) = (took_part device tag (min bytes (length (left_at device.places tag))), Moved)

abbrev pub served_takes : UsbTags → ℕ → ℕ → UsbTags × Next
served_takes device tag bytes = takes_by device tag bytes (held_at device.places DataOut tag)

-- a task that has ended: a held data-in ends, then a held data-out, then the status is told
abbrev pub ends_status : UsbTags → ℕ → Option Transfer → UsbTags × Next
ends_status device tag None = (device, Quiet)
ends_status device tag (Some transfer) = status_ended device tag transfer

abbrev pub ends_out : UsbTags → ℕ → Option Transfer → UsbTags × Next
ends_out device tag None = ends_status device tag (held_at device.places Status tag)
ends_out device tag (Some transfer) = out_ended device tag transfer

abbrev pub ends_in : UsbTags → ℕ → Option Transfer → UsbTags × Next
ends_in device tag None = ends_out device tag (held_at device.places DataOut tag)
ends_in device tag (Some transfer) = in_ended device tag transfer

abbrev pub served_ends : UsbTags → ℕ → UsbTags × Next
served_ends device tag = ends_in device tag (held_at device.places DataIn tag)

abbrev pub served_wants : UsbTags → ℕ → Wants → UsbTags × Next
served_wants device tag Absent = (device, Quiet)
served_wants device tag WantsAsks = asked device tag
served_wants device tag Waits = (device, Quiet)
served_wants device tag (WantsGives bytes) = served_gives device tag bytes
served_wants device tag (WantsTakes bytes) = served_takes device tag bytes
served_wants device tag WantsEnds = served_ends device tag

unfoldable pub served_task : UsbTags → ℕ → UsbTags × Next
served_task device tag = served_wants device tag (wanted device.tasks tag)

-- WHAT COMES FIRST

-- the held data-in where it has all its bytes
abbrev pub full_in : List TagState → ℕ → Option Transfer
full_in places tag = if is_full_at places tag then held_at places DataIn tag else None

-- the held data-out where the task used all of it
abbrev pub used_out : List TagState → ℕ → Option Transfer
used_out places tag = if length (left_at places tag) == 0 then held_at places DataOut tag else None

abbrev pub served_if_used : UsbTags → ℕ → Option Transfer → UsbTags × Next
served_if_used device tag None = served_task device tag
served_if_used device tag (Some transfer) = out_ended device tag transfer

abbrev pub served_out : UsbTags → ℕ → UsbTags × Next
served_out device tag = served_if_used device tag (used_out device.places tag)

abbrev pub served_if_full : UsbTags → ℕ → Option Transfer → UsbTags × Next
served_if_full device tag None = served_out device tag
served_if_full device tag (Some transfer) = in_ended device tag transfer

-- A full data-in ends, then a used up data-out; else what the task wants.
unfoldable pub served : UsbTags → ℕ → UsbTags × Next
served device tag = served_if_full device tag (full_in device.places tag)

-- OVERLAPS

-- RESPONSE 0Ah: the tag has a task
abbrev pub overlap_text : ℕ → List ℕ
overlap_text tag = unit_text (Response tag 0x0a)

abbrev pub overlap_told : UsbTags → ℕ → Option Transfer → UsbTags × Next
overlap_told device tag None = (device, Moved)
overlap_told device tag (Some transfer) = status_told device tag transfer (overlap_text tag)

-- the transfer that waits for the tag's status learns of it; then the tag is served
abbrev pub overlapped : UsbTags → ℕ → UsbTags × Next
overlapped device tag = overlap_told (record device { rest = Serves tag }) tag (held_at device.places Status tag)
