-- What is sent: it is gathered, and written at the end of what a packet causes, or before where there isn't room for it.
use Rattle.std.specs.Prelude.{◌≡◌, ℕ, List, [], ◌++◌, Option}
use Rattle.std.specs.Io.KnownBytes.{Appends}
use Rattle.usb_places.specs.Places.{given_at}
use Rattle.usbredir.specs.declared.packets.DevicePacket.TheVariants.{DeviceConnect, EndpointInfo, InterfaceInfo}
use Rattle.usbredir.specs.Device.{device_text}
use Rattle.usb_tags.specs.declared.Answer.{Answer}
use Rattle.usb_tags.specs.declared.AnswerData.{AnswerData}
use Rattle.usb_tags.specs.declared.AnswerData.TheVariants.{Nothing as NoData, Control as ControlData, Unit as UnitData, Given}
use Rattle.usb_tags.specs.declared.UsbTags.{UsbTags}
use Rattle.usb_tags.specs.Fixed.{device_connect, endpoint_info, interface_info}

-- the data of an answer
abbrev pub data_text : UsbTags → AnswerData → List ℕ
data_text device NoData = []
data_text device (ControlData bytes) = bytes.items
data_text device (UnitData text) = text.items
data_text device (Given tag) = given_at device.places tag

-- an answer: its head and fields, and its data
abbrev pub answer_text : UsbTags → Answer → List ℕ
answer_text device answer = device_text answer.id answer.packet ++ data_text device answer.body

-- what the disk is: its interface, its endpoints, and that it is there; each with the id 0
abbrev pub disk_text : List ℕ
disk_text =
    device_text 0 (InterfaceInfo interface_info)
    ++ (device_text 0 (EndpointInfo endpoint_info) ++ device_text 0 (DeviceConnect device_connect))

-- Where `old` was gathered, `bytes` were gathered too: some of all that were written, and `new` is left to be written.
pub record Gathers (old new : List ℕ) (written written_new : Option (List ℕ)) (bytes : List ℕ) : Type 0 where
  pub sent : List ℕ
  pub wrote : Appends written written_new sent
  pub whole : old ++ bytes ≡ sent ++ new
