-- What each capture begins with: the file's heads, and the control transfers that tell what the device is.
use Rattle.std.specs.Prelude.{ℕ, List, [], ◌∷◌, ◌++◌, length, codes}
use Rattle.uas_profile.specs.declared.Pipe.{Pipe}
use Rattle.uas_profile.specs.declared.Pipe.TheVariants as pipe
use Rattle.uas_profile.specs.Pipes.{number_of}
use Rattle.capture_run.specs.declared.format.Event.{Event}
use Rattle.capture_run.specs.declared.format.Event.TheVariants.{Submitted, Completed}
use Rattle.capture_run.specs.declared.format.Record.{Record}
use Rattle.capture_run.specs.declared.format.Transfer.TheVariants.{Control}
use Rattle.capture_run.specs.declared.format.descriptors.Request.{Request}
use Rattle.capture_run.specs.declared.format.descriptors.Request.TheVariants.{GetDevice, GetConfiguration, SetConfiguration}
use Rattle.capture_run.specs.format.Pcapng.{interface, section}
use Rattle.capture_run.specs.format.Usbmon.{pipe_endpoint, record_packet}

-- DESCRIPTORS

-- the device: USB 3.0, packets of 2^9 bytes on the control pipe, one configuration
abbrev pub device : List ℕ
device = 18 ∷ 1 ∷ 0 ∷ 3 ∷ 0 ∷ 0 ∷ 0 ∷ 9 ∷ 0xf4 ∷ 0x46 ∷ 3 ∷ 0 ∷ 0 ∷ 0 ∷ 0 ∷ 0 ∷ 0 ∷ 1 ∷ []

-- the pipes but the first have 2^8 streams
unfoldable pub streams_of : Pipe → ℕ
streams_of pipe.Command = 0
streams_of pipe.Status = 8
streams_of pipe.DataIn = 8
streams_of pipe.DataOut = 8

-- a bulk endpoint of 1,024 bytes a packet, its SuperSpeed companion of bursts of 16, and its number among the pipes
unfoldable pub endpoint_descriptor : Pipe → List ℕ
endpoint_descriptor on = 7 ∷ 5 ∷ pipe_endpoint on ∷ 2 ∷ 0 ∷ 4 ∷ 0 ∷ []

unfoldable pub companion_descriptor : Pipe → List ℕ
companion_descriptor on = 6 ∷ 0x30 ∷ 15 ∷ streams_of on ∷ 0 ∷ 0 ∷ []

unfoldable pub usage_descriptor : Pipe → List ℕ
usage_descriptor on = 4 ∷ 0x24 ∷ number_of on ∷ 0 ∷ []

unfoldable pub pipe_descriptors : Pipe → List ℕ
pipe_descriptors on = endpoint_descriptor on ++ companion_descriptor on ++ usage_descriptor on

-- the configuration of 86 bytes with one interface of class 8, subclass 6, protocol 62h
unfoldable pub configuration : List ℕ
configuration =
    9 ∷ 2 ∷ 86 ∷ 0 ∷ 1 ∷ 1 ∷ 0 ∷ 0xc0 ∷ 0 ∷ 9 ∷ 4 ∷ 0 ∷ 0 ∷ 4 ∷ 8 ∷ 6 ∷ 0x62 ∷ 0 ∷ []
    ++ pipe_descriptors pipe.Command ++ pipe_descriptors pipe.Status ++ pipe_descriptors pipe.DataIn ++ pipe_descriptors pipe.DataOut

-- CONTROL TRANSFERS

abbrev pub number_of_request : Request → ℕ
number_of_request GetDevice = 1
number_of_request GetConfiguration = 2
number_of_request SetConfiguration = 3

abbrev pub comment_of : Request → List ℕ
comment_of GetDevice = codes "added: GET DESCRIPTOR device"
comment_of GetConfiguration = codes "added: GET DESCRIPTOR configuration"
comment_of SetConfiguration = codes "added: SET CONFIGURATION 1"

-- what comes in
abbrev pub answer : Request → List ℕ
answer GetDevice = device
answer GetConfiguration = configuration
answer SetConfiguration = []

abbrev pub control_record : Event → Request → Record
control_record event request = record {
  event = event;
  transfer = Control request;
  number = number_of_request request;
  length = length (answer request);
  time = 0;
}

-- a request and its answer
unfoldable pub control_packets : Request → List ℕ
control_packets request =
    record_packet (control_record Submitted request) [] (comment_of request)
    ++ record_packet (control_record Completed request) (answer request) (comment_of request)

-- what each capture begins with
unfoldable pub start : List ℕ
start = section ++ interface ++ control_packets GetDevice ++ control_packets GetConfiguration ++ control_packets SetConfiguration
