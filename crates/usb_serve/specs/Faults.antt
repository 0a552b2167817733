-- Why a session ends by a fault, and how that is told.
use Rattle.std.specs.Prelude.{◌≡◌, ℕ, ◌+◌, ◌≤◌, ◌&&◌, nat_lt, if◌then◌else◌, Bool, false, IsTrue, List, [], ◌∷◌, ◌++◌, length, Option, Result, Ok, Err, codes}
use Rattle.std.specs.Io.KnownBytes.{Appends, IsAtEnd}
use Rattle.byte_io.specs.Streams.{Began, GaveFewer}
use Rattle.usbredir.specs.declared.PacketFault.{PacketFault}
use Rattle.usbredir.specs.declared.PacketFault.TheVariants as packet
use Rattle.usb_serve.specs.declared.fault.UsbFault.{UsbFault}
use Rattle.usb_serve.specs.declared.fault.UsbFault.TheVariants as fault

-- HOW IT IS TOLD

-- 4 for want of memory, else 3
abbrev pub status_of : UsbFault → ℕ
status_of (fault.Packet is) = 3
status_of fault.NoMemory = 4
status_of fault.Ended = 3
status_of fault.Stream = 3
status_of fault.TooMany = 3
status_of fault.Answer = 3
status_of (fault.File unit) = 3

abbrev pub packet_line : PacketFault → List ℕ
packet_line packet.BadHello = codes "usb: bad hello\n"
packet_line packet.MissingCapability = codes "usb: missing capability\n"
packet_line packet.UnexpectedPacket = codes "usb: unexpected packet\n"
packet_line packet.BadLength = codes "usb: bad length\n"
packet_line packet.Rejected = codes "usb: rejected\n"

-- a number below 20 in decimal digits
abbrev pub digits : ℕ → List ℕ
digits number = if nat_lt number 10 then (48 + number) ∷ [] else 49 ∷ ((38 + number) ∷ [])

-- the first file has no number, and those up to the fifteenth theirs
abbrev pub file_line : ℕ → List ℕ
file_line unit =
    if nat_lt 0 unit && nat_lt unit 15 then codes "image " ++ (digits (unit + 1) ++ codes ": file\n") else codes "image: file\n"

abbrev pub line_of : UsbFault → List ℕ
line_of (fault.Packet is) = packet_line is
line_of fault.NoMemory = codes "no memory\n"
line_of fault.Ended = codes "usb: end of input\n"
line_of fault.Stream = codes "usb: file\n"
line_of fault.TooMany = codes "usb: too many packets\n"
line_of fault.Answer = codes "usb: bad answer\n"
line_of (fault.File unit) = file_line unit

-- A fault is reported by its exit status and its line: whole, where that can be written.
pub record IsReported (reason : UsbFault) (exit : ℕ) (can_fail : Bool) (faults faults_new : Option (List ℕ)) : Type 0 where
  pub status : exit ≡ status_of reason
  pub began : Began faults faults_new (line_of reason)
  pub line : can_fail ≡ false → Appends faults faults_new (line_of reason)

-- READING

-- the input ended there, or a read failed
abbrev pub EndsReading : UsbFault → Bool → Option (List ℕ) → Type 0
EndsReading (fault.Packet is) can_fail left_new = ⊥
EndsReading fault.NoMemory can_fail left_new = ⊥
EndsReading fault.Ended can_fail left_new = IsAtEnd left_new
EndsReading fault.Stream can_fail left_new = IsTrue can_fail
EndsReading fault.TooMany can_fail left_new = ⊥
EndsReading fault.Answer can_fail left_new = ⊥
EndsReading (fault.File unit) can_fail left_new = ⊥

-- Of a part of `count` bytes fewer were read. Where the input ended, at least `least` of them were: an end before a packet is no fault.
pub record IsCut (reason : UsbFault) (can_fail : Bool) (least count : ℕ) (left left_new : Option (List ℕ)) : Type 0 where
  pub gave : GaveFewer left left_new count
  pub why : EndsReading reason can_fail left_new
  pub some : reason ≡ fault.Ended → least ≤ length gave.bytes

-- WRITING

-- Bytes were written, as a call that answers this says: all of them, or, where a write failed, a beginning.
abbrev pub Sends : Result (Unit {0}) UsbFault → Bool → Option (List ℕ) → Option (List ℕ) → List ℕ → Type 0
Sends (Ok done) can_fail written written_new bytes = Appends written written_new bytes
Sends (Err reason) can_fail written written_new bytes = (reason ≡ fault.Stream) × IsTrue can_fail × Began written written_new bytes
