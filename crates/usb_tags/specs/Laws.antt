-- Each data packet is answered exactly once: a count of the transfers that a disk owes an answer, which grows by one with each that
-- comes, and falls by one with each answer.
use Rattle.std.specs.Prelude.{◌≡◌, ℕ, ◌+◌, ◌==◌, Bool, true, false, if◌then◌else◌, List, [], ◌∷◌, length, None, Some, ◌⊎◌}
use Rattle.uas_profile.specs.declared.Pipe.{Pipe}
use Rattle.usb_disk.specs.Descriptors.{address_of}
use Rattle.usb_places.specs.declared.TheConstants.{GUEST_TAGS}
use Rattle.usb_places.specs.declared.Transfer.{Transfer}
use Rattle.usb_places.specs.Places.{held_at}
use Rattle.usb_places.specs.States.{TagState, holds}
use Rattle.usbredir.specs.declared.packets.DevicePacket.{DevicePacket}
use Rattle.usbredir.specs.declared.packets.DevicePacket.TheVariants.{DeviceConnect, InterfaceInfo, EndpointInfo, ConfigurationStatus, AltSettingStatus}
use Rattle.usbredir.specs.declared.packets.DevicePacket.TheVariants.{BulkStreamsStatus, Control as ControlAnswered, Bulk as BulkAnswered}
use Rattle.usbredir.specs.declared.packets.GuestPacket.{GuestPacket}
use Rattle.usbredir.specs.declared.packets.GuestPacket.TheVariants.{Reset, SetConfiguration, GetConfiguration, SetAltSetting, GetAltSetting, AllocBulkStreams}
use Rattle.usbredir.specs.declared.packets.GuestPacket.TheVariants.{FreeBulkStreams, CancelDataPacket, FilterReject, FilterFilter, Control, Bulk}
use Rattle.usb_tags.specs.declared.Answer.{Answer}
use Rattle.usb_tags.specs.declared.Next.{Next}
use Rattle.usb_tags.specs.declared.Next.TheVariants.{Quiet, Moved, Asks, Sends}
use Rattle.usb_tags.specs.declared.Sending.{Sending}
use Rattle.usb_tags.specs.declared.Sending.TheVariants.{Nothing as SentAll, Last, Endpoints, Interfaces}
use Rattle.usb_tags.specs.declared.UsbTags.{UsbTags}
use Rattle.usb_tags.specs.Calls.{next_of, received}

abbrev pub one_if : Bool → ℕ
one_if holds = if holds then 1 else 0

-- the transfers of an id that a tag holds, and all tags
abbrev pub held_of : ℕ → TagState → ℕ
held_of id tag = one_if (holds id tag.status) + (one_if (holds id tag.data_in) + one_if (holds id tag.data_out))

abbrev pub held_under : ℕ → List TagState → ℕ
held_under id [] = 0
held_under id (tag ∷ tags) = held_of id tag + held_under id tags

-- whether a packet answers a data packet
abbrev pub is_data_answer : DevicePacket → Bool
is_data_answer (DeviceConnect fields) = false
is_data_answer (InterfaceInfo fields) = false
is_data_answer (EndpointInfo fields) = false
is_data_answer (ConfigurationStatus status value) = false
is_data_answer (AltSettingStatus status interface setting) = false
is_data_answer (BulkStreamsStatus endpoints streams status) = false
is_data_answer (ControlAnswered fields) = true
is_data_answer (BulkAnswered fields) = true

-- one where it answers a data packet of an id
abbrev pub told_under : ℕ → Answer → ℕ
told_under id answer = if is_data_answer answer.packet then one_if (answer.id == id) else 0

abbrev pub sending_under : ℕ → Sending → ℕ
sending_under id SentAll = 0
sending_under id (Last answer) = told_under id answer
sending_under id (Endpoints answer) = told_under id answer
sending_under id (Interfaces answer) = told_under id answer

-- the answers that the disk owes under an id: those to what it holds, and one that waits to be sent
abbrev pub owed : ℕ → UsbTags → ℕ
owed id device = held_under id device.places + sending_under id device.sending

-- the answers that a step sends, and the data packets that come with a packet
abbrev pub sent_under : ℕ → Next → ℕ
sent_under id Quiet = 0
sent_under id Moved = 0
sent_under id (Asks number request) = 0
sent_under id (Sends answer) = told_under id answer

abbrev pub came_under : ℕ → ℕ → GuestPacket → ℕ
came_under id came Reset = 0
came_under id came (SetConfiguration value) = 0
came_under id came GetConfiguration = 0
came_under id came (SetAltSetting interface setting) = 0
came_under id came (GetAltSetting interface) = 0
came_under id came (AllocBulkStreams endpoints streams) = 0
came_under id came (FreeBulkStreams endpoints) = 0
came_under id came CancelDataPacket = 0
came_under id came FilterReject = 0
came_under id came FilterFilter = 0
came_under id came (Control request) = one_if (came == id)
came_under id came (Bulk request) = one_if (came == id)

-- Each step sends what is owed no more.
abbrev pub EachIsAnsweredOnce : Type 0
EachIsAnsweredOnce = (device : UsbTags) (id : ℕ) → owed id (next_of device).0 + sent_under id (next_of device).1 ≡ owed id device

-- A step answers what a place held: under the id of that transfer, of its endpoint and its stream, and the place holds none.
abbrev pub AnswersAt : Pipe → ℕ → DevicePacket → Type 0
AnswersAt pipe tag (DeviceConnect fields) = ⊥
AnswersAt pipe tag (InterfaceInfo fields) = ⊥
AnswersAt pipe tag (EndpointInfo fields) = ⊥
AnswersAt pipe tag (ConfigurationStatus status value) = ⊥
AnswersAt pipe tag (AltSettingStatus status interface setting) = ⊥
AnswersAt pipe tag (BulkStreamsStatus endpoints streams status) = ⊥
AnswersAt pipe tag (ControlAnswered fields) = ⊥
AnswersAt pipe tag (BulkAnswered fields) = (fields.endpoint ≡ address_of pipe) × (fields.stream ≡ tag)

abbrev pub SendsAt : ℕ → Pipe → ℕ → Next → Type 0
SendsAt id pipe tag Quiet = ⊥
SendsAt id pipe tag Moved = ⊥
SendsAt id pipe tag (Asks number request) = ⊥
SendsAt id pipe tag (Sends answer) = (answer.id ≡ id) × AnswersAt pipe tag answer.packet

pub record IsAnsweredAt (device : UsbTags) (pipe : Pipe) (tag : ℕ) (after : UsbTags × Next) : Type 0 where
  pub transfer : Transfer
  pub held : held_at device.places pipe tag ≡ Some transfer
  pub none : held_at after.0.places pipe tag ≡ None
  pub told : SendsAt transfer.id pipe tag after.1

-- Each step leaves a place as it was, or answers what it held.
abbrev pub EachEndsAtItsPlace : Type 0
EachEndsAtItsPlace = (device : UsbTags) (pipe : Pipe) (tag : ℕ)
    → (held_at (next_of device).0.places pipe tag ≡ held_at device.places pipe tag) ⊎ IsAnsweredAt device pipe tag (next_of device)

-- What comes where nothing waits to be sent is owed.
abbrev pub EachIsOwed : Type 0
EachIsOwed = (device : UsbTags) (came id : ℕ) (packet : GuestPacket) (bytes : List ℕ) → length device.places ≡ GUEST_TAGS
    → owed id (received device came packet bytes) ≡ held_under id device.places + came_under id came packet
