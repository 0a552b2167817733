-- What the packets that concern the whole device, and those of endpoint 0, do and are answered with.
use Rattle.std.specs.Prelude.{ℕ, ◌*◌, ◌/◌, ◌%◌, ◌==◌, nat_lt, nat_le, Bool, ◌&&◌, if◌then◌else◌, slice_index, length}
use Rattle.arrayvec.specs.ArrayVec.{array_vec_len}
use Rattle.usb_disk.specs.declared.Answer.{Answer as DiskAnswer}
use Rattle.usb_disk.specs.declared.Answer.TheVariants.{Data, Done, Restarted, BulkReset, Stall as DiskStall}
use Rattle.usb_disk.specs.declared.Setup.{Setup}
use Rattle.usb_disk.specs.Answers.{controlled, reset_of}
use Rattle.usbredir.specs.declared.fields.ControlRequest.{ControlRequest}
use Rattle.usbredir.specs.declared.kinds.Status.{Status}
use Rattle.usbredir.specs.declared.kinds.Status.TheVariants.{Success, Invalid, Stall}
use Rattle.usbredir.specs.declared.packets.DevicePacket.{DevicePacket}
use Rattle.usbredir.specs.declared.packets.DevicePacket.TheVariants.{ConfigurationStatus, AltSettingStatus, BulkStreamsStatus, Control}
use Rattle.uas_tasks.specs.Machine.{powered_machine, tasks_ended}
use Rattle.usb_places.specs.Places.{all_forgotten}
use Rattle.usb_tags.specs.declared.Answer.{Answer}
use Rattle.usb_tags.specs.declared.AnswerData.TheVariants.{Nothing as NoData, Control as ControlData}
use Rattle.usb_tags.specs.declared.Sending.{Sending}
use Rattle.usb_tags.specs.declared.Sending.TheVariants.{Last, Endpoints, Interfaces}
use Rattle.usb_tags.specs.declared.UsbTags.{UsbTags}

-- an answer without data
abbrev pub told : ℕ → DevicePacket → Answer
told id packet = record { id = id; packet = packet; body = NoData }

abbrev pub setup : ℕ → ℕ → ℕ → ℕ → ℕ → Setup
setup request_type request value index length =
    record { request_type = request_type; request = request; value = value; index = index; length = length }

-- what was kept is forgotten
abbrev pub forgot : UsbTags → UsbTags
forgot device = record device { places = all_forgotten device.places }

-- a reset of the device: not configured, no task, an attention of each logical unit; the transfers that are held stay
abbrev pub reset : UsbTags → UsbTags
reset device = forgot (record device { disk = reset_of device.disk.settings device.disk.strings; tasks = powered_machine device.tasks })

-- each task is gone, and what was kept; a disk of UAS alone has no Bulk-Only reset
abbrev pub restarted : UsbTags → UsbTags
restarted device = forgot (record device { tasks = tasks_ended device.tasks })

abbrev pub after_answer : UsbTags → DiskAnswer → UsbTags
after_answer device (Data bytes) = device
after_answer device Done = device
after_answer device Restarted = restarted device
after_answer device BulkReset = device
after_answer device DiskStall = device

-- a request of endpoint 0
abbrev pub asked_disk : UsbTags → Setup → UsbTags × DiskAnswer
asked_disk device setup =
    let after = controlled device.disk setup in (after_answer (record device { disk = after.0 }) after.1, after.1)

abbrev pub answering : UsbTags → Sending → UsbTags
answering device sending = record device { sending = sending }

-- CONFIGURATION AND INTERFACE

-- SET_CONFIGURATION: the interfaces and endpoints where it is done, then its status
abbrev pub configuration_told : ℕ → ℕ → DiskAnswer → Sending
configuration_told id value (Data bytes) = Last (told id (ConfigurationStatus Stall value))
configuration_told id value Done = Last (told id (ConfigurationStatus Stall value))
configuration_told id value Restarted = Interfaces (told id (ConfigurationStatus Success value))
configuration_told id value BulkReset = Last (told id (ConfigurationStatus Stall value))
configuration_told id value DiskStall = Last (told id (ConfigurationStatus Stall value))

abbrev pub configuration_set : UsbTags → ℕ → ℕ → UsbTags
configuration_set device id value =
    let after = asked_disk device (setup 0x00 9 value 0 0) in answering after.0 (configuration_told id value after.1)

-- GET_CONFIGURATION
abbrev pub configuration_in : DiskAnswer → DevicePacket
configuration_in (Data bytes) = ConfigurationStatus Success (slice_index bytes.items 0)
configuration_in Done = ConfigurationStatus Stall 0
configuration_in Restarted = ConfigurationStatus Stall 0
configuration_in BulkReset = ConfigurationStatus Stall 0
configuration_in DiskStall = ConfigurationStatus Stall 0

abbrev pub configuration_got : UsbTags → ℕ → UsbTags
configuration_got device id =
    let after = asked_disk device (setup 0x80 8 0 0 1) in answering after.0 (Last (told id (configuration_in after.1)))

-- SET_INTERFACE: the endpoints where it is done, then its status
abbrev pub interface_told : ℕ → ℕ → ℕ → DiskAnswer → Sending
interface_told id interface setting (Data bytes) = Last (told id (AltSettingStatus Stall interface setting))
interface_told id interface setting Done = Last (told id (AltSettingStatus Stall interface setting))
interface_told id interface setting Restarted = Endpoints (told id (AltSettingStatus Success interface setting))
interface_told id interface setting BulkReset = Last (told id (AltSettingStatus Stall interface setting))
interface_told id interface setting DiskStall = Last (told id (AltSettingStatus Stall interface setting))

abbrev pub interface_set : UsbTags → ℕ → ℕ → ℕ → UsbTags
interface_set device id interface setting =
    let after = asked_disk device (setup 0x01 11 setting interface 0) in answering after.0 (interface_told id interface setting after.1)

-- GET_INTERFACE
abbrev pub alternate_in : ℕ → DiskAnswer → DevicePacket
alternate_in interface (Data bytes) = AltSettingStatus Success interface (slice_index bytes.items 0)
alternate_in interface Done = AltSettingStatus Stall interface 0
alternate_in interface Restarted = AltSettingStatus Stall interface 0
alternate_in interface BulkReset = AltSettingStatus Stall interface 0
alternate_in interface DiskStall = AltSettingStatus Stall interface 0

abbrev pub interface_got : UsbTags → ℕ → ℕ → UsbTags
interface_got device id interface =
    let after = asked_disk device (setup 0x81 10 0 interface 1) in answering after.0 (Last (told id (alternate_in interface after.1)))

-- STREAMS

-- a mask of no other endpoints than 02h (bit 2), 81h (17) and 82h (18)
abbrev pub mask_fits : ℕ → Bool
mask_fits endpoints = endpoints % 4 == 0 && endpoints / 8 % 16384 == 0 && endpoints / 524288 == 0

abbrev pub alloc_told : ℕ → ℕ → DevicePacket
alloc_told endpoints streams =
    BulkStreamsStatus endpoints streams (if mask_fits endpoints && nat_lt 0 streams && nat_le streams 128 then Success else Invalid)

abbrev pub streams_allocated : UsbTags → ℕ → ℕ → ℕ → UsbTags
streams_allocated device id endpoints streams = answering (forgot device) (Last (told id (alloc_told endpoints streams)))

abbrev pub streams_freed : UsbTags → ℕ → ℕ → UsbTags
streams_freed device id endpoints = answering (forgot device) (Last (told id (BulkStreamsStatus endpoints 0 Success)))

-- ENDPOINT 0

-- data go to the host by endpoint 80h, to the device by 0, as bit 7 of the request's type says
abbrev pub is_right_way : ControlRequest → Bool
is_right_way request = request.endpoint == request.request_type / 128 * 128

abbrev pub request_setup : ControlRequest → Setup
request_setup request = setup request.request_type request.request request.value request.index request.length

abbrev pub told_control : ControlRequest → Status → ℕ → DevicePacket
told_control request status length = Control (record {
  endpoint = request.endpoint;
  request = request.request;
  request_type = request.request_type;
  status = status;
  value = request.value;
  index = request.index;
  length = length;
})

abbrev pub control_told : ℕ → ControlRequest → DiskAnswer → Answer
control_told id request (Data bytes) =
    record { id = id; packet = told_control request Success (array_vec_len bytes); body = ControlData bytes }
control_told id request Done = told id (told_control request Success request.length)
control_told id request Restarted = told id (told_control request Success request.length)
control_told id request BulkReset = told id (told_control request Success request.length)
control_told id request DiskStall = told id (told_control request Stall 0)

abbrev pub control_asked : ℕ → ControlRequest → UsbTags × DiskAnswer → UsbTags
control_asked id request after = answering after.0 (Last (control_told id request after.1))

abbrev pub control_done : UsbTags → ℕ → ControlRequest → UsbTags
control_done device id request =
    if is_right_way request then control_asked id request (asked_disk device (request_setup request))
    else answering device (Last (told id (told_control request Invalid 0)))
