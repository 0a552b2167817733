-- What comes of a packet of a bulk endpoint.
use Rattle.std.specs.Prelude.{ℕ, ◌==◌, nat_lt, nat_le, Bool, false, not, ◌&&◌, ◌||◌, if◌then◌else◌, List, length, take, Option, None, Some, is_some, Result, Ok, Err}
use Rattle.uas_iu.specs.Faults.{first_fault, identifier}
use Rattle.uas_profile.specs.declared.Pipe.{Pipe}
use Rattle.uas_profile.specs.declared.Pipe.TheVariants.{Command, Status, DataIn, DataOut}
use Rattle.uas_target.specs.declared.Overlap.{Overlap}
use Rattle.uas_target.specs.declared.Took.{Took}
use Rattle.uas_target.specs.Fields.{function_in, tag_in, task_tag_in}
use Rattle.uas_tasks.specs.Machine.{received}
use Rattle.usb_disk.specs.Answers.{is_halted}
use Rattle.usb_disk.specs.Requests.{pipe_at}
use Rattle.usb_places.specs.declared.Kept.{Kept}
use Rattle.usb_places.specs.declared.TheConstants.{MOST_TRANSFER_BYTES}
use Rattle.usb_places.specs.declared.Transfer.{Transfer}
use Rattle.usb_places.specs.Places.{all_forgotten, came, command_kept, given_at, held_at, holding, lost_at, lost_command_at, tag_forgotten, told_again as told_places, unit_at}
use Rattle.usb_places.specs.States.{TagState}
use Rattle.usbredir.specs.declared.fields.BulkRequest.{BulkRequest}
use Rattle.usbredir.specs.declared.kinds.Status as answer
use Rattle.usbredir.specs.declared.kinds.Status.TheVariants.{Success, Invalid, Stall}
use Rattle.usbredir.specs.declared.packets.DevicePacket.TheVariants.{Bulk}
use Rattle.usb_tags.specs.declared.Answer.{Answer}
use Rattle.usb_tags.specs.declared.AnswerData.{AnswerData}
use Rattle.usb_tags.specs.declared.AnswerData.TheVariants.{Nothing as NoData, Unit as UnitData, Given}
use Rattle.usb_tags.specs.declared.Rest.{Rest}
use Rattle.usb_tags.specs.declared.Rest.TheVariants.{Overlaps, Serves}
use Rattle.usb_tags.specs.declared.Sending.TheVariants.{Last}
use Rattle.usb_tags.specs.declared.UsbTags.{UsbTags}

-- ANSWERS

-- the answer to a transfer of an endpoint and a stream: so many bytes moved
abbrev pub bulk_told : ℕ → ℕ → ℕ → answer.Status → ℕ → AnswerData → Answer
bulk_told id endpoint stream status moved body =
    record { id = id; packet = Bulk (record { endpoint = endpoint; status = status; length = moved; stream = stream }); body = body }

abbrev pub bulk_answered : UsbTags → ℕ → BulkRequest → answer.Status → ℕ → AnswerData → UsbTags
bulk_answered device id request status moved body =
    record device { sending = Last (bulk_told id request.endpoint request.stream status moved body) }

-- refused, with nothing moved
abbrev pub refused : UsbTags → ℕ → BulkRequest → answer.Status → UsbTags
refused device id request status = bulk_answered device id request status 0 NoData

abbrev pub transfer_of : ℕ → BulkRequest → Transfer
transfer_of id request = record { id = id; length = request.length }

-- a stream with places: 1 to 128
abbrev pub is_place : ℕ → Bool
is_place stream = nat_lt 0 stream && nat_le stream 128

-- TOLD AGAIN

-- the data of the answer that a place keeps
abbrev pub data_kept : UsbTags → Pipe → ℕ → AnswerData
data_kept device Command tag = NoData
data_kept device Status tag = UnitData (record { items = unit_at device.places tag })
data_kept device DataIn tag = Given tag
data_kept device DataOut tag = NoData

-- that answer is sent again, and isn't lost any more
abbrev pub told_again : UsbTags → ℕ → BulkRequest → Pipe → ℕ → Kept → UsbTags
told_again device id request pipe tag kept =
    bulk_answered (record device { places = told_places device.places pipe tag }) id request kept.status kept.moved (data_kept device pipe tag)

-- COMMANDS

abbrev pub is_management : List ℕ → Bool
is_management unit = identifier unit == 5 && not (is_some (first_fault unit))

-- an ABORT TASK (01h) forgets what is kept of the tag that it names, a LOGICAL UNIT RESET (08h) all
abbrev pub forgot_by_unit : List TagState → List ℕ → List TagState
forgot_by_unit places unit =
    if not (is_management unit) then places
    else (if function_in unit == 1 then tag_forgotten places (task_tag_in unit)
    else (if function_in unit == 8 then all_forgotten places
    else places))

-- at an overlap the transfer that waits for the tag's status learns of it
abbrev pub rest_of : ℕ → Result Took Overlap → Rest
rest_of tag (Ok took) = Serves tag
rest_of tag (Err overlap) = Overlaps tag

-- its answer is kept, the device receives it, and its tag is served
abbrev pub command_begun : UsbTags → Transfer → List ℕ → ℕ → UsbTags
command_begun device transfer unit tag =
    let after = received device.tasks unit in
    record device {
      places = command_kept (forgot_by_unit device.places unit) tag transfer transfer.length unit;
      tasks = after.0;
      rest = rest_of tag after.1;
    }

-- it is dropped where it is shorter than 4 or its tag has no stream
abbrev pub command_new : UsbTags → ℕ → BulkRequest → List ℕ → UsbTags
command_new device id request unit =
    let answered = bulk_answered device id request Success request.length NoData in
    if nat_le 4 (length unit) && is_place (tag_in unit) then command_begun answered (transfer_of id request) unit (tag_in unit) else answered

abbrev pub command_by : UsbTags → ℕ → BulkRequest → List ℕ → Option Kept → UsbTags
command_by device id request unit None = command_new device id request unit
command_by device id request unit (Some kept) = told_again device id request Command (tag_in unit) kept

unfoldable pub command_received : UsbTags → ℕ → BulkRequest → List ℕ → UsbTags
command_received device id request unit =
    command_by device id request unit (lost_command_at device.places (tag_in unit) (transfer_of id request) unit)

-- TRANSFERS

abbrev pub is_too_long : Pipe → ℕ → Bool
is_too_long Command size = false
is_too_long Status size = false
is_too_long DataIn size = false
is_too_long DataOut size = nat_lt MOST_TRANSFER_BYTES size

-- whether a data-in of the tag has begun to use the room that a data-out needs
abbrev pub is_begun : List TagState → Pipe → ℕ → Bool
is_begun places Command tag = false
is_begun places Status tag = false
is_begun places DataIn tag = false
is_begun places DataOut tag = is_some (held_at places DataIn tag) && not (length (given_at places tag) == 0)

-- one that isn't told again: refused where it is too long, its place holds one or its room is used; done where it has no bytes; else it is
-- held, and its tag is served
abbrev pub new_transfer : UsbTags → ℕ → BulkRequest → List ℕ → Pipe → ℕ → UsbTags
new_transfer device id request bytes pipe tag =
    if is_too_long pipe request.length || (is_some (held_at device.places pipe tag) || is_begun device.places pipe tag)
    then refused device id request Stall
    else (if request.length == 0 then bulk_answered (record device { places = came device.places pipe tag }) id request Success 0 NoData
    else record device { places = holding device.places pipe tag (transfer_of id request) bytes; rest = Serves tag })

abbrev pub transfer_by : UsbTags → ℕ → BulkRequest → List ℕ → Pipe → ℕ → Option Kept → UsbTags
transfer_by device id request bytes pipe tag None = new_transfer device id request bytes pipe tag
transfer_by device id request bytes pipe tag (Some kept) = told_again device id request pipe tag kept

unfoldable pub transfer_received : UsbTags → ℕ → BulkRequest → List ℕ → Pipe → UsbTags
transfer_received device id request bytes pipe =
    if not (is_place request.stream) then refused device id request Stall
    else transfer_by device id request bytes pipe request.stream (lost_at device.places pipe request.stream (transfer_of id request))

-- ALL

-- the first 1,024 bytes of a command are read
abbrev pub by_pipe : UsbTags → ℕ → BulkRequest → List ℕ → Pipe → UsbTags
by_pipe device id request bytes Command = command_received device id request (take 1024 bytes)
by_pipe device id request bytes Status = transfer_received device id request bytes Status
by_pipe device id request bytes DataIn = transfer_received device id request bytes DataIn
by_pipe device id request bytes DataOut = transfer_received device id request bytes DataOut

unfoldable pub on_pipe : UsbTags → ℕ → BulkRequest → List ℕ → Pipe → UsbTags
on_pipe device id request bytes pipe =
    if is_halted device.disk.halts pipe then refused device id request Stall else by_pipe device id request bytes pipe

abbrev pub at_endpoint : UsbTags → ℕ → BulkRequest → List ℕ → Option Pipe → UsbTags
at_endpoint device id request bytes None = refused device id request Invalid
at_endpoint device id request bytes (Some pipe) =
    if device.disk.configured then on_pipe device id request bytes pipe else refused device id request Invalid

-- The first rule that holds: no such endpoint, or not configured, is invalid; a halted endpoint stalls; then what the pipe says.
unfoldable pub bulk_received : UsbTags → ℕ → BulkRequest → List ℕ → UsbTags
bulk_received device id request bytes = at_endpoint device id request bytes (pipe_at request.endpoint)
