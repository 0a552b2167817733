-- After a packet the disk owes what it held, and the data packet that came.
use Rattle.std.proofs.Common.{◌≡◌, ℕ, ◌+◌, ◌<◌, ◌==◌, Bool, true, false, List, length, Option, Some, None, refl, ap, arith}
use Rattle.std.specs.Prelude.{◌≤◌, ◌&&◌, ◌||◌, not, nat_lt, nat_le, take, is_some}
use Rattle.std.proofs.lemmas.Bool.{and_parts, leb-true, ltb-true}
use Rattle.uas_profile.specs.declared.Pipe.{Pipe}
use Rattle.uas_profile.specs.declared.Pipe.TheVariants.{Command, Status, DataIn, DataOut}
use Rattle.uas_profile.specs.Pipes.{HasStreams}
use Rattle.uas_target.specs.Fields.{function_in, tag_in, task_tag_in}
use Rattle.usb_disk.specs.declared.Answer.{Answer as DiskAnswer}
use Rattle.usb_disk.specs.declared.Answer.TheVariants.{Data, Done, Restarted, BulkReset, Stall as DiskStall}
use Rattle.usb_disk.specs.Answers.{controlled, is_halted}
use Rattle.usb_disk.specs.Requests.{pipe_at}
use Rattle.usb_places.specs.declared.Kept.{Kept}
use Rattle.usb_places.specs.declared.TheConstants.{GUEST_TAGS}
use Rattle.usb_places.specs.declared.Transfer.{Transfer}
use Rattle.usb_places.specs.Places.{all_forgotten, emptied_at, held_at, holder, tag_forgotten, tag_under}
use Rattle.usb_places.specs.States.{TagState, come_tag, command_kept_tag, emptied_tag, forgotten_tag, holding_tag, lost_tag, told_tag}
use Rattle.usbredir.specs.declared.fields.BulkRequest.{BulkRequest}
use Rattle.usbredir.specs.declared.fields.ControlRequest.{ControlRequest}
use Rattle.usbredir.specs.declared.packets.GuestPacket.{GuestPacket}
use Rattle.usbredir.specs.declared.packets.GuestPacket.TheVariants.{Reset, SetConfiguration, GetConfiguration, SetAltSetting, GetAltSetting, AllocBulkStreams}
use Rattle.usbredir.specs.declared.packets.GuestPacket.TheVariants.{FreeBulkStreams, CancelDataPacket, FilterReject, FilterFilter, Control, Bulk}
use Rattle.usb_tags.specs.Bulk.{at_endpoint, bulk_received, by_pipe, command_by, command_new, command_received, forgot_by_unit, is_begun, is_management, is_place, is_too_long}
use Rattle.usb_tags.specs.Bulk.{new_transfer, on_pipe, told_again, transfer_by, transfer_of, transfer_received}
use Rattle.usb_tags.specs.declared.Rest.TheVariants.{Nothing as NoRest}
use Rattle.usb_tags.specs.declared.Sending.TheVariants.{Nothing as SentAll}
use Rattle.usb_tags.specs.declared.UsbTags.{UsbTags}
use Rattle.usb_tags.specs.Calls.{cancelled_by, received_packet}
use Rattle.usb_tags.specs.Device.{after_answer, alternate_in, configuration_in, configuration_told, control_done, control_told, interface_told, is_right_way, request_setup, setup, told}
use Rattle.usb_tags.specs.Laws.{EachIsOwed, came_under, held_under, one_if, owed, sending_under, told_under}
use Rattle.usb_tags.proofs.Counts.{HoldsUnder, come_tag_same, command_kept_same, either, emptied_less, forgotten_tag_same, holder_under, holding_more, lost_tag_same}
use Rattle.usb_tags.proofs.Counts.{lowered, mapped, raised, same, split, told_tag_same}

-- what is owed after it: what was held, and so many more
abbrev pub IsOwing : ℕ → List TagState → ℕ → UsbTags → Type 0
IsOwing id tags more after = owed id after ≡ held_under id tags + more

forgot_same : (id : ℕ) (tags : List TagState) → held_under id (all_forgotten tags) ≡ held_under id tags
forgot_same id tags = mapped id forgotten_tag (forgotten_tag_same id) tags

-- THE WHOLE DEVICE

disk_same : (id : ℕ) (device : UsbTags) (answer : DiskAnswer) → held_under id (after_answer device answer).places ≡ held_under id device.places
disk_same id device (Data bytes) = refl
disk_same id device Done = refl
disk_same id device BulkReset = refl
disk_same id device Restarted = forgot_same id device.places
disk_same id device DiskStall = refl

configuration_none : (id came value : ℕ) (answer : DiskAnswer) → sending_under id (configuration_told came value answer) ≡ 0
configuration_none id came value (Data bytes) = refl
configuration_none id came value Done = refl
configuration_none id came value BulkReset = refl
configuration_none id came value Restarted = refl
configuration_none id came value DiskStall = refl

configuration_in_none : (id came : ℕ) (answer : DiskAnswer) → told_under id (told came (configuration_in answer)) ≡ 0
configuration_in_none id came (Data bytes) = refl
configuration_in_none id came Done = refl
configuration_in_none id came BulkReset = refl
configuration_in_none id came Restarted = refl
configuration_in_none id came DiskStall = refl

interface_none : (id came interface setting : ℕ) (answer : DiskAnswer) → sending_under id (interface_told came interface setting answer) ≡ 0
interface_none id came interface setting (Data bytes) = refl
interface_none id came interface setting Done = refl
interface_none id came interface setting BulkReset = refl
interface_none id came interface setting Restarted = refl
interface_none id came interface setting DiskStall = refl

alternate_none : (id came interface : ℕ) (answer : DiskAnswer) → told_under id (told came (alternate_in interface answer)) ≡ 0
alternate_none id came interface (Data bytes) = refl
alternate_none id came interface Done = refl
alternate_none id came interface BulkReset = refl
alternate_none id came interface Restarted = refl
alternate_none id came interface DiskStall = refl

control_one : (id came : ℕ) (request : ControlRequest) (answer : DiskAnswer) → told_under id (control_told came request answer) ≡ one_if (came == id)
control_one id came request (Data bytes) = refl
control_one id came request Done = refl
control_one id came request BulkReset = refl
control_one id came request Restarted = refl
control_one id came request DiskStall = refl

control_owing : (id : ℕ) (device : UsbTags) (came : ℕ) (request : ControlRequest)
    → IsOwing id device.places (one_if (came == id)) (control_done device came request)
control_owing id device came request =
    let after = controlled device.disk (request_setup request) in
    let held = disk_same id (record device { disk = after.0 }) after.1 in
    let one = control_one id came request after.1 in
    either (IsOwing id device.places (one_if (came == id))) (is_right_way request) _ _ (omega (arith, held, one)) (omega arith)

cancel_owing : (id : ℕ) (device : UsbTags) (came : ℕ) (found : Option (Pipe × ℕ)) → device.sending ≡ SentAll → HoldsUnder came device.places found
    → IsOwing id device.places 0 (cancelled_by device came (emptied_at device.places found, found))
cancel_owing id device came None sent is =
    let lost = mapped id (lost_tag came) (lost_tag_same id came) device.places in let none = ap (sending_under id) sent in omega (arith, lost, none)
cancel_owing id device came (Some place) sent is =
    let less = lowered id device.places place.1 (one_if (came == id)) (emptied_tag place.0 (tag_under device.places place.1))
    (emptied_less id came place.0 (tag_under device.places place.1) is) in
    omega (arith, less)

-- BULK

again_owing : (id : ℕ) (device : UsbTags) (came : ℕ) (request : BulkRequest) (pipe : Pipe) (tag : ℕ) (kept : Kept)
    → IsOwing id device.places (one_if (came == id)) (told_again device came request pipe tag kept)
again_owing id device came request pipe tag kept =
    let alike = same id device.places tag (told_tag pipe (tag_under device.places tag)) (told_tag_same id pipe (tag_under device.places tag)) in
    omega (arith, alike)

unit_forgot_same : (id : ℕ) (tags : List TagState) (unit : List ℕ) → held_under id (forgot_by_unit tags unit) ≡ held_under id tags
unit_forgot_same id tags unit =
    let P : List TagState → Type 0 = λ now. held_under id now ≡ held_under id tags in
    let one = task_tag_in unit in
    either P (not (is_management unit)) tags _ refl
    (either P (function_in unit == 1) (tag_forgotten tags one) _
    (same id tags one (forgotten_tag (tag_under tags one)) (forgotten_tag_same id (tag_under tags one)))
    (either P (function_in unit == 8) (all_forgotten tags) tags (forgot_same id tags) refl))

command_owing : (id : ℕ) (device : UsbTags) (came : ℕ) (request : BulkRequest) (unit : List ℕ)
    → IsOwing id device.places (one_if (came == id)) (command_new device came request unit)
command_owing id device came request unit =
    let tags = forgot_by_unit device.places unit in
    let tag = tag_in unit in
    let forgot = unit_forgot_same id device.places unit in
    let alike = same id tags tag (command_kept_tag (transfer_of came request) request.length unit (tag_under tags tag))
    (command_kept_same id (transfer_of came request) request.length unit (tag_under tags tag)) in
    either (IsOwing id device.places (one_if (came == id))) (nat_le 4 (length unit) && is_place tag) _ _ (omega (arith, forgot, alike)) (omega arith)

command_by_owing : (id : ℕ) (device : UsbTags) (came : ℕ) (request : BulkRequest) (unit : List ℕ) (kept : Option Kept)
    → IsOwing id device.places (one_if (came == id)) (command_by device came request unit kept)
command_by_owing id device came request unit None = command_owing id device came request unit
command_by_owing id device came request unit (Some kept) = again_owing id device came request Command (tag_in unit) kept

no_transfer : (held : Option Transfer) → is_some held ≡ false → held ≡ None
no_transfer None is = refl
no_transfer (Some transfer) is = absurd (cc is)

or_left : (a b : Bool) → (a || b) ≡ false → a ≡ false
or_left true b is = absurd (cc is)
or_left false b is = refl

or_right : (a b : Bool) → (a || b) ≡ false → b ≡ false
or_right true b is = absurd (cc is)
or_right false b is = is

new_owing : (id : ℕ) (device : UsbTags) (came : ℕ) (request : BulkRequest) (bytes : List ℕ) (pipe : Pipe) (tag : ℕ) → HasStreams pipe
    → length device.places ≡ GUEST_TAGS → is_place tag ≡ true → device.sending ≡ SentAll
    → IsOwing id device.places (one_if (came == id)) (new_transfer device came request bytes pipe tag)
new_owing id device came request bytes pipe tag streams many place sent =
    let P = IsOwing id device.places (one_if (came == id)) in
    let state = tag_under device.places tag in
    let none = ap (sending_under id) sent in
    let come = same id device.places tag (come_tag pipe state) (come_tag_same id pipe state) in
    let both = and_parts (nat_lt 0 tag) (nat_le tag 128) place in
    let some : 0 < tag = ltb-true 0 tag both.0 in
    let most : tag ≤ 128 = leb-true tag 128 both.1 in
    let holds = is_some (held_at device.places pipe tag) in
    let begun = is_begun device.places pipe tag in
    split P (is_too_long pipe request.length || (holds || begun)) _ _ (λ refused. omega arith) (λ free.
    let held = holding_more id pipe (transfer_of came request) bytes state streams
    (no_transfer (held_at device.places pipe tag) (or_left holds begun (or_right (is_too_long pipe request.length) (holds || begun) free))) in
    let more = raised id device.places tag (one_if (came == id)) (holding_tag pipe (transfer_of came request) bytes state) some (omega (arith, most, many)) held in
    either P (request.length == 0) _ _ (omega (arith, come)) (omega (arith, more, none)))

transfer_by_owing : (id : ℕ) (device : UsbTags) (came : ℕ) (request : BulkRequest) (bytes : List ℕ) (pipe : Pipe) (tag : ℕ) (kept : Option Kept)
    → HasStreams pipe → length device.places ≡ GUEST_TAGS → is_place tag ≡ true → device.sending ≡ SentAll
    → IsOwing id device.places (one_if (came == id)) (transfer_by device came request bytes pipe tag kept)
transfer_by_owing id device came request bytes pipe tag None streams many place sent = new_owing id device came request bytes pipe tag streams many place sent
transfer_by_owing id device came request bytes pipe tag (Some kept) streams many place sent = again_owing id device came request pipe tag kept

from_not : (b : Bool) → not b ≡ false → b ≡ true
from_not true is = refl
from_not false is = absurd (cc is)

transfer_owing : (id : ℕ) (device : UsbTags) (came : ℕ) (request : BulkRequest) (bytes : List ℕ) (pipe : Pipe) → HasStreams pipe
    → length device.places ≡ GUEST_TAGS → device.sending ≡ SentAll
    → IsOwing id device.places (one_if (came == id)) (transfer_received device came request bytes pipe)
unfolding transfer_received
transfer_owing id device came request bytes pipe streams many sent =
    split (IsOwing id device.places (one_if (came == id))) (not (is_place request.stream)) _ _ (λ refused. omega arith) (λ place.
    transfer_by_owing id device came request bytes pipe request.stream _ streams many (from_not (is_place request.stream) place) sent)

unit_owing : (id : ℕ) (device : UsbTags) (came : ℕ) (request : BulkRequest) (unit : List ℕ)
    → IsOwing id device.places (one_if (came == id)) (command_received device came request unit)
unfolding command_received
unit_owing id device came request unit = command_by_owing id device came request unit _

by_pipe_owing : (id : ℕ) (device : UsbTags) (came : ℕ) (request : BulkRequest) (bytes : List ℕ) (pipe : Pipe)
    → length device.places ≡ GUEST_TAGS → device.sending ≡ SentAll
    → IsOwing id device.places (one_if (came == id)) (by_pipe device came request bytes pipe)
by_pipe_owing id device came request bytes Command many sent = unit_owing id device came request (take 1024 bytes)
by_pipe_owing id device came request bytes Status many sent = transfer_owing id device came request bytes Status tt many sent
by_pipe_owing id device came request bytes DataIn many sent = transfer_owing id device came request bytes DataIn tt many sent
by_pipe_owing id device came request bytes DataOut many sent = transfer_owing id device came request bytes DataOut tt many sent

on_pipe_owing : (id : ℕ) (device : UsbTags) (came : ℕ) (request : BulkRequest) (bytes : List ℕ) (pipe : Pipe)
    → length device.places ≡ GUEST_TAGS → device.sending ≡ SentAll
    → IsOwing id device.places (one_if (came == id)) (on_pipe device came request bytes pipe)
unfolding on_pipe
on_pipe_owing id device came request bytes pipe many sent =
    either (IsOwing id device.places (one_if (came == id))) (is_halted device.disk.halts pipe) _ _ (omega arith)
    (by_pipe_owing id device came request bytes pipe many sent)

endpoint_owing : (id : ℕ) (device : UsbTags) (came : ℕ) (request : BulkRequest) (bytes : List ℕ) (pipe : Option Pipe)
    → length device.places ≡ GUEST_TAGS → device.sending ≡ SentAll
    → IsOwing id device.places (one_if (came == id)) (at_endpoint device came request bytes pipe)
endpoint_owing id device came request bytes None many sent = omega arith
endpoint_owing id device came request bytes (Some pipe) many sent =
    either (IsOwing id device.places (one_if (came == id))) device.disk.configured _ _ (on_pipe_owing id device came request bytes pipe many sent)
    (omega arith)

bulk_owing : (id : ℕ) (device : UsbTags) (came : ℕ) (request : BulkRequest) (bytes : List ℕ)
    → length device.places ≡ GUEST_TAGS → device.sending ≡ SentAll
    → IsOwing id device.places (one_if (came == id)) (bulk_received device came request bytes)
unfolding bulk_received
bulk_owing id device came request bytes many sent = endpoint_owing id device came request bytes (pipe_at request.endpoint) many sent

-- ALL

packet_owing : (id : ℕ) (device : UsbTags) (came : ℕ) (packet : GuestPacket) (bytes : List ℕ)
    → length device.places ≡ GUEST_TAGS → device.sending ≡ SentAll
    → IsOwing id device.places (came_under id came packet) (received_packet device came packet bytes)
packet_owing id device came Reset bytes many sent =
    let forgot = forgot_same id device.places in let none = ap (sending_under id) sent in omega (arith, forgot, none)
packet_owing id device came (SetConfiguration value) bytes many sent =
    let after = controlled device.disk (setup 0x00 9 value 0 0) in
    let held = disk_same id (record device { disk = after.0 }) after.1 in
    let none = configuration_none id came value after.1 in omega (arith, held, none)
packet_owing id device came GetConfiguration bytes many sent =
    let after = controlled device.disk (setup 0x80 8 0 0 1) in
    let held = disk_same id (record device { disk = after.0 }) after.1 in
    let none = configuration_in_none id came after.1 in omega (arith, held, none)
packet_owing id device came (SetAltSetting interface setting) bytes many sent =
    let after = controlled device.disk (setup 0x01 11 setting interface 0) in
    let held = disk_same id (record device { disk = after.0 }) after.1 in
    let none = interface_none id came interface setting after.1 in omega (arith, held, none)
packet_owing id device came (GetAltSetting interface) bytes many sent =
    let after = controlled device.disk (setup 0x81 10 0 interface 1) in
    let held = disk_same id (record device { disk = after.0 }) after.1 in
    let none = alternate_none id came interface after.1 in omega (arith, held, none)
packet_owing id device came (AllocBulkStreams endpoints streams) bytes many sent = let forgot = forgot_same id device.places in omega (arith, forgot)
packet_owing id device came (FreeBulkStreams endpoints) bytes many sent = let forgot = forgot_same id device.places in omega (arith, forgot)
packet_owing id device came CancelDataPacket bytes many sent =
    cancel_owing id device came (holder came device.places) sent (holder_under came device.places)
packet_owing id device came FilterReject bytes many sent = let none = ap (sending_under id) sent in omega (arith, none)
packet_owing id device came FilterFilter bytes many sent = let none = ap (sending_under id) sent in omega (arith, none)
packet_owing id device came (Control request) bytes many sent = control_owing id device came request
packet_owing id device came (Bulk request) bytes many sent = bulk_owing id device came request bytes many sent

pub received_owing : EachIsOwed
received_owing device came id packet bytes many =
    packet_owing id (record device { sending = SentAll; rest = NoRest }) came packet bytes many refl
