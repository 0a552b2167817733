-- What the disk is, told at the beginning of a session and where it is configured.
use Rattle.std.specs.Prelude.{ℕ, List, ◌∷◌, ◌++◌, replicate}
use Rattle.usbredir.specs.declared.fields.DeviceConnect.{DeviceConnect}
use Rattle.usbredir.specs.declared.fields.EndpointInfo.{EndpointInfo}
use Rattle.usbredir.specs.declared.fields.InterfaceInfo.{InterfaceInfo}

-- SuperSpeed (3); each class is told by its interface (0); vendor 46f4h, product 3, version 0
abbrev pub device_connect : DeviceConnect
device_connect = record { speed = 3; class = 0; subclass = 0; protocol = 0; vendor = 0x46f4; product = 3; version = 0 }

-- in the first of 32 places
abbrev pub first : ℕ → List ℕ
first value = value ∷ replicate 31 0

-- one interface, number 0: mass storage (8), SCSI (6), UAS (62h)
abbrev pub interface_info : InterfaceInfo
interface_info = record {
  count = 1;
  numbers = first 0;
  classes = first 8;
  subclasses = first 6;
  protocols = first 0x62;
}

-- what the endpoints of numbers 0, 1 and 2 have, OUT and IN, and the 13 behind them
abbrev pub at_numbers : ℕ → ℕ → ℕ → ℕ → ℕ → ℕ → ℕ → List ℕ
at_numbers rest out0 out1 out2 in0 in1 in2 =
    (out0 ∷ out1 ∷ out2 ∷ replicate 13 rest) ++ (in0 ∷ in1 ∷ in2 ∷ replicate 13 rest)

-- endpoint 0 both ways (control, 0), 01h, 02h, 81h and 82h (bulk, 2), each other none (255); packets of 1,024 bytes, and 128 streams
-- of all but 01h
abbrev pub endpoint_info : EndpointInfo
endpoint_info = record {
  types = at_numbers 255 0 2 2 0 2 2;
  intervals = replicate 32 0;
  interfaces = replicate 32 0;
  packet_sizes = at_numbers 0 0 1024 1024 0 1024 1024;
  streams = at_numbers 0 0 0 128 0 128 128;
}
