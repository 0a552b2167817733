-- Which request a Setup packet is (USB 3.2, 9.3 and 9.4; BOT 3): by the type in byte 0 (direction and recipient), the request in byte 1, and its fields.
use Rattle.std.specs.Prelude.{ℕ, ◌==◌, ◌+◌, ◌*◌, ◌%◌, ◌/◌, ◌&&◌, nat_lt, Bool, true, false, if◌then◌else◌, List, slice_index, Option, None, Some, option_map}
use Rattle.uas_profile.specs.declared.Pipe.{Pipe}
use Rattle.uas_profile.specs.declared.Pipe.TheVariants.{Command, Status, DataIn, DataOut}
use Rattle.usb_disk.specs.declared.Setup.{Setup}
use Rattle.usb_disk.specs.declared.requests.Request.{Request}
use Rattle.usb_disk.specs.declared.requests.Request.TheVariants.{DeviceStatus, InterfaceStatus, DefaultPipeStatus, PipeStatus, SetU1, SetU2, SuspendFunction, SetHalt}
use Rattle.usb_disk.specs.declared.requests.Request.TheVariants.{GetDescriptor, GetConfiguration, SetConfiguration, GetInterface, SetInterface, SetExitLatency, SetIsochDelay, GetMostLun, ResetBulk}

-- 9.3, the eight bytes: type, request, value, index, length
abbrev pub setup_in : List ℕ → Setup
setup_in bytes = record {
  request_type = slice_index bytes 0;
  request = slice_index bytes 1;
  value = slice_index bytes 2 + 256 * slice_index bytes 3;
  index = slice_index bytes 4 + 256 * slice_index bytes 5;
  length = slice_index bytes 6 + 256 * slice_index bytes 7;
}

-- the pipe whose endpoint has this address
abbrev pub pipe_at : ℕ → Option Pipe
pipe_at address =
    if address == 0x01 then Some Command
    else (if address == 0x02 then Some DataOut
    else (if address == 0x81 then Some Status
    else (if address == 0x82 then Some DataIn
    else None)))

abbrev pub when : Bool → Request → Option Request
when holds request = if holds then Some request else None

-- of the device, to the host (80h): GET_STATUS 0, GET_DESCRIPTOR 6 (type and index in the value), GET_CONFIGURATION 8
abbrev pub asked_of_device : Setup → Option Request
asked_of_device setup =
    if setup.request == 0 then when (setup.value == 0 && setup.index == 0) DeviceStatus
    else (if setup.request == 6 then Some (GetDescriptor (setup.value / 256) (setup.value % 256))
    else (if setup.request == 8 then when (setup.value == 0 && setup.index == 0) GetConfiguration
    else None))

-- U1_ENABLE is feature 48, U2_ENABLE 49
abbrev pub device_feature : Bool → Setup → Option Request
device_feature on setup =
    if setup.value == 48 then Some (SetU1 on)
    else (if setup.value == 49 then Some (SetU2 on)
    else None)

-- to the device (00h): CLEAR_FEATURE 1, SET_FEATURE 3, SET_CONFIGURATION 9, SET_SEL 48 (of 6 bytes), SET_ISOCH_DELAY 49
abbrev pub told_device : Setup → Option Request
told_device setup =
    if setup.request == 1 then (if setup.length == 0 then device_feature false setup else None)
    else (if setup.request == 3 then (if setup.length == 0 then device_feature true setup else None)
    else (if setup.request == 9 then when (nat_lt setup.value 2 && setup.length == 0) (SetConfiguration (setup.value == 1))
    else (if setup.request == 48 then when (setup.length == 6) SetExitLatency
    else (if setup.request == 49 then when (setup.length == 0) SetIsochDelay
    else None))))

-- of the interface, to the host (81h): GET_STATUS 0 and GET_INTERFACE 10, of interface 0
abbrev pub asked_of_interface : Setup → Option Request
asked_of_interface setup =
    if setup.request == 0 then when (setup.value == 0 && setup.index == 0) InterfaceStatus
    else (if setup.request == 10 then when (setup.value == 0 && setup.index == 0) GetInterface
    else None)

-- to the interface (01h): SET_FEATURE 3 and CLEAR_FEATURE 1 of FUNCTION_SUSPEND 0, whose options stand in the index's high byte; SET_INTERFACE 11
-- of interface 0 and alternate setting 0 or 1
abbrev pub told_interface : Setup → Option Request
told_interface setup =
    if setup.request == 1 then when (setup.value == 0 && setup.index % 256 == 0 && setup.length == 0) SuspendFunction
    else (if setup.request == 3 then when (setup.value == 0 && setup.index % 256 == 0 && setup.length == 0) SuspendFunction
    else (if setup.request == 11 then when (nat_lt setup.value 2 && setup.index == 0 && setup.length == 0) (SetInterface (setup.value == 1))
    else None))

-- Bulk-Only's own of interface 0 (BOT 3.1 and 3.2): to the host (A1h) Get Max LUN FEh, to the interface (21h) the reset FFh
abbrev pub asked_of_class : Setup → Option Request
asked_of_class setup = when (setup.request == 0xfe && setup.value == 0 && setup.index == 0) GetMostLun

abbrev pub told_class : Setup → Option Request
told_class setup = when (setup.request == 0xff && setup.value == 0 && setup.index == 0 && setup.length == 0) ResetBulk

-- of an endpoint, to the host (82h): GET_STATUS 0, of the default pipe (address 0, 80h in its other direction) or of one of the four
abbrev pub asked_of_endpoint : Setup → Option Request
asked_of_endpoint setup =
    if setup.request == 0 && setup.value == 0 then status_at setup.index else None
  where
    status_at : ℕ → Option Request
    status_at address = if address % 128 == 0 then Some DefaultPipeStatus else option_map PipeStatus (pipe_at address)

-- to an endpoint (02h): SET_FEATURE 3 and CLEAR_FEATURE 1 of ENDPOINT_HALT 0, of one of the four
abbrev pub told_endpoint : Setup → Option Request
told_endpoint setup =
    if setup.value == 0 && setup.length == 0 then halted_by setup.request (pipe_at setup.index) else None
  where
    halted_by : ℕ → Option Pipe → Option Request
    halted_by request pipe =
        if request == 1 then option_map (λ it. SetHalt it false) pipe
        else (if request == 3 then option_map (λ it. SetHalt it true) pipe
        else None)

-- The request of a Setup packet, by its type; None is one that the disk doesn't know. By hand: 80 06 00 01 00 00 12 00 is
-- GET_DESCRIPTOR of type 1 and index 0; 00 09 01 00 00 00 00 00 is SET_CONFIGURATION 1; 02 01 00 00 82 00 00 00 clears the halt of data-in.
abbrev pub request_in : Setup → Option Request
request_in setup =
    if setup.request_type == 0x80 then asked_of_device setup
    else (if setup.request_type == 0x00 then told_device setup
    else (if setup.request_type == 0x81 then asked_of_interface setup
    else (if setup.request_type == 0x01 then told_interface setup
    else (if setup.request_type == 0x82 then asked_of_endpoint setup
    else (if setup.request_type == 0x02 then told_endpoint setup
    else (if setup.request_type == 0xa1 then asked_of_class setup
    else (if setup.request_type == 0x21 then told_class setup
    else None)))))))
