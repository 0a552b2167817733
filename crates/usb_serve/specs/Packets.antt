-- The guest's packets: what is read of them.
use Rattle.std.specs.Prelude.{◌≡◌, ℕ, ◌==◌, ◌⊎◌, if◌then◌else◌, Bool, List, [], length, take, Option, Ok, Err}
use Rattle.std.specs.Io.KnownBytes.{Consumes, IsAtEnd}
use Rattle.usbredir.specs.declared.PacketFault.{PacketFault}
use Rattle.usbredir.specs.declared.PacketFault.TheVariants.{Rejected}
use Rattle.usbredir.specs.declared.kinds.Head.{Head}
use Rattle.usbredir.specs.declared.packets.GuestPacket.{GuestPacket}
use Rattle.usbredir.specs.declared.packets.GuestPacket.TheVariants.{Reset, SetConfiguration, GetConfiguration, SetAltSetting, GetAltSetting, AllocBulkStreams}
use Rattle.usbredir.specs.declared.packets.GuestPacket.TheVariants.{FreeBulkStreams, CancelDataPacket, FilterReject, FilterFilter, Control, Bulk}
use Rattle.usbredir.specs.Guest.{data_of_guest, guest_in, guest_room}
use Rattle.usbredir.specs.Kinds.{head_in}
use Rattle.usb_serve.specs.declared.fault.UsbFault.{UsbFault}
use Rattle.usb_serve.specs.declared.fault.UsbFault.TheVariants as fault
use Rattle.usb_serve.specs.declared.packets.Came.{Came}
use Rattle.usb_serve.specs.Faults.{IsCut}

-- WHAT IS TAKEN

-- so many bytes are taken of the data that come to an endpoint: of a command, and of a data-out
abbrev pub taken_at : ℕ → ℕ
taken_at endpoint = if endpoint == 0x01 then 1024 else (if endpoint == 0x02 then 524288 else 0)

abbrev pub most_taken : GuestPacket → ℕ
most_taken Reset = 0
most_taken (SetConfiguration value) = 0
most_taken GetConfiguration = 0
most_taken (SetAltSetting interface setting) = 0
most_taken (GetAltSetting interface) = 0
most_taken (AllocBulkStreams endpoints streams) = 0
most_taken (FreeBulkStreams endpoints) = 0
most_taken CancelDataPacket = 0
most_taken FilterReject = 0
most_taken FilterFilter = 0
most_taken (Control request) = 0
most_taken (Bulk request) = taken_at request.endpoint

-- A PACKET THAT WAS READ

-- a head
pub record ReadsHead (head : Head) (left left_new : Option (List ℕ)) : Type 0 where
  pub text : List ℕ
  pub read : Consumes left left_new text
  pub len : length text ≡ 16
  pub is : head ≡ head_in text

-- the fields that its head says
pub record ReadsFields (head : Head) (packet : GuestPacket) (left left_new : Option (List ℕ)) : Type 0 where
  pub text : List ℕ
  pub read : Consumes left left_new text
  pub is : guest_in head text ≡ Ok packet

-- so many bytes of data, of which `bytes` are taken
pub record ReadsData (packet : GuestPacket) (count : ℕ) (bytes : List ℕ) (left left_new : Option (List ℕ)) : Type 0 where
  pub text : List ℕ
  pub read : Consumes left left_new text
  pub len : length text ≡ count
  pub taken : bytes ≡ take (most_taken packet) text

-- A packet was read whole.
pub record ReadsPacket (came : Came) (bytes : List ℕ) (left left_new : Option (List ℕ)) : Type 0 where
  pub head : Head
  pub left_head : Option (List ℕ)
  pub left_fields : Option (List ℕ)
  pub first : ReadsHead head left left_head
  pub fields : ReadsFields head came.packet left_head left_fields
  pub brought : ReadsData came.packet (data_of_guest came.packet head.length) bytes left_fields left_new
  pub id : came.id ≡ head.id

-- ONE THAT WASN'T

-- the fields: the head is refused, or they weren't read whole, or are refused
abbrev pub FieldsUnread : UsbFault → Bool → Head → (left left_new : Option (List ℕ)) → Type 0
FieldsUnread reason can_fail head left left_new =
    ((refusal : PacketFault) × (guest_room head ≡ Err refusal) × (reason ≡ fault.Packet refusal) × (left_new ≡ left))
    ⊎ (((count : ℕ) × (guest_room head ≡ Ok count) × IsCut reason can_fail 0 count left left_new)
    ⊎ ((text : List ℕ) × (refusal : PacketFault) × Consumes left left_new text × (guest_in head text ≡ Err refusal) × (reason ≡ fault.Packet refusal)))

-- it says that the guest rejects the disk, or its data weren't read whole
abbrev pub DataUnread : UsbFault → Bool → Head → GuestPacket → (left left_new : Option (List ℕ)) → Type 0
DataUnread reason can_fail head packet left left_new =
    ((packet ≡ FilterReject) × (reason ≡ fault.Packet Rejected) × (left_new ≡ left))
    ⊎ IsCut reason can_fail 0 (data_of_guest packet head.length) left left_new

pub record FieldsFail (reason : UsbFault) (can_fail : Bool) (left left_new : Option (List ℕ)) : Type 0 where
  pub head : Head
  pub left_head : Option (List ℕ)
  pub first : ReadsHead head left left_head
  pub fails : FieldsUnread reason can_fail head left_head left_new

pub record DataFail (reason : UsbFault) (can_fail : Bool) (left left_new : Option (List ℕ)) : Type 0 where
  pub head : Head
  pub packet : GuestPacket
  pub left_head : Option (List ℕ)
  pub left_fields : Option (List ℕ)
  pub first : ReadsHead head left left_head
  pub fields : ReadsFields head packet left_head left_fields
  pub fails : DataUnread reason can_fail head packet left_fields left_new

-- No packet was read: its head wasn't read whole, or its fields, or its data.
abbrev pub Unread : UsbFault → Bool → (left left_new : Option (List ℕ)) → Type 0
Unread reason can_fail left left_new =
    IsCut reason can_fail 1 16 left left_new ⊎ (FieldsFail reason can_fail left left_new ⊎ DataFail reason can_fail left left_new)

-- the guest left between two packets
abbrev pub Leaves : (left left_new : Option (List ℕ)) → Type 0
Leaves left left_new = Consumes left left_new [] × IsAtEnd left_new
