-- The text of a TRB (xHCI 1.2, 6.4): its fields at their places, and what is no text.
use Rattle.std.specs.Prelude.{◌≡◌, ℕ, ◌+◌, ◌*◌, ◌/◌, ◌%◌, ◌^◌, ◌<◌, ◌≤◌, ◌==◌, nat_lt, if◌then◌else◌}
use Rattle.std.specs.Prelude.{Bool, true, false, List, Option, Some, None, Result, Ok, Err}
use Rattle.xhci_trb.specs.declared.Trb.{Trb}
use Rattle.xhci_trb.specs.declared.Trb.TheVariants.{Normal, Link, StopEndpoint, SetDequeue, TransferEvent, CommandEvent}
use Rattle.xhci_trb.specs.declared.TrbFault.{TrbFault}
use Rattle.xhci_trb.specs.declared.TrbFault.TheVariants.{UnknownType, LengthOver, ReservedSet}
use Rattle.xhci_trb.specs.declared.words.Words.{Words}
use Rattle.xhci_trb.specs.Words.{bytes_of}

-- a flag as a bit
abbrev pub bit : Bool → ℕ
bit true = 1
bit false = 0

-- Each field fits the bits that 6.4 gives it. A pointer without its low four bits is a multiple of 16.
abbrev pub Fits : Trb → Type 0
Fits (Normal pointer length td_size flags) = (pointer < 2 ^ 64) × (length < 2 ^ 17) × (td_size < 2 ^ 5) × (flags.0 < 2 ^ 7)
Fits (Link pointer toggle chain ioc) = (pointer < 2 ^ 64) × (pointer % 16 ≡ 0)
Fits (StopEndpoint endpoint slot) = (endpoint < 2 ^ 5) × (slot < 2 ^ 8)
Fits (SetDequeue pointer cycle stream endpoint slot) =
    (pointer < 2 ^ 64) × (pointer % 16 ≡ 0) × (stream < 2 ^ 16) × (endpoint < 2 ^ 5) × (slot < 2 ^ 8)
Fits (TransferEvent pointer residual code endpoint slot) =
    (pointer < 2 ^ 64) × (residual < 2 ^ 24) × (code < 2 ^ 8) × (endpoint < 2 ^ 5) × (slot < 2 ^ 8)
Fits (CommandEvent pointer code slot) = (pointer < 2 ^ 64) × (pointer % 16 ≡ 0) × (code < 2 ^ 8) × (slot < 2 ^ 8)

-- a Normal TRB moves at most 64 KiB (6.4.1.1)
abbrev pub IsWithinLimit : Trb → Type 0
IsWithinLimit (Normal pointer length td_size flags) = length ≤ 65536
IsWithinLimit _ = Unit {0}

-- a TRB that has a text
abbrev pub HasText : Trb → Type 0
HasText trb = Fits trb × IsWithinLimit trb

-- the parameter word: a pointer, with DCS in bit 0 and SCT 1 in bits 3:1 of Set TR Dequeue Pointer (6.4.3.9)
abbrev pub parameter_of : Trb → ℕ
parameter_of (Normal pointer length td_size flags) = pointer
parameter_of (Link pointer toggle chain ioc) = pointer
parameter_of (StopEndpoint endpoint slot) = 0
parameter_of (SetDequeue pointer cycle stream endpoint slot) = pointer + 2 * 1 + bit cycle
parameter_of (TransferEvent pointer residual code endpoint slot) = pointer
parameter_of (CommandEvent pointer code slot) = pointer

-- the status word: length 16:0 and TD Size 21:17; stream 31:16; residual 23:0 and code 31:24; code 31:24
abbrev pub status_of : Trb → ℕ
status_of (Normal pointer length td_size flags) = length + 2 ^ 17 * td_size
status_of (Link pointer toggle chain ioc) = 0
status_of (StopEndpoint endpoint slot) = 0
status_of (SetDequeue pointer cycle stream endpoint slot) = 2 ^ 16 * stream
status_of (TransferEvent pointer residual code endpoint slot) = residual + 2 ^ 24 * code
status_of (CommandEvent pointer code slot) = 2 ^ 24 * code

-- the control word without the Cycle bit: the type in 15:10; the flags ENT to IDT in 6:1 and BEI in 9;
-- TC 1, CH 4, IOC 5; endpoint 20:16, slot 31:24.
-- Worked: a Normal with CH (flag 3) and cycle 1 is 1024 + 16 + 1 = 411h; Stop Endpoint of endpoint 5,
-- slot 1 with cycle 1 is 15 * 1024 + 5 * 65536 + 16777216 + 1 = 01053C01h.
abbrev pub control_of : Trb → ℕ
control_of (Normal pointer length td_size flags) = 2 ^ 10 * 1 + 2 * (flags.0 % 2 ^ 6) + 2 ^ 9 * (flags.0 / 2 ^ 6)
control_of (Link pointer toggle chain ioc) = 2 ^ 10 * 6 + 2 * bit toggle + 2 ^ 4 * bit chain + 2 ^ 5 * bit ioc
control_of (StopEndpoint endpoint slot) = 2 ^ 10 * 15 + 2 ^ 16 * endpoint + 2 ^ 24 * slot
control_of (SetDequeue pointer cycle stream endpoint slot) = 2 ^ 10 * 16 + 2 ^ 16 * endpoint + 2 ^ 24 * slot
control_of (TransferEvent pointer residual code endpoint slot) = 2 ^ 10 * 32 + 2 ^ 16 * endpoint + 2 ^ 24 * slot
control_of (CommandEvent pointer code slot) = 2 ^ 10 * 33 + 2 ^ 24 * slot

-- the three words of a TRB with its Cycle bit, bit 0 of the control word
abbrev pub words_of : Trb → Bool → Words
words_of trb cycle = record {
  parameter = parameter_of trb;
  status = status_of trb;
  control = control_of trb + bit cycle;
}

-- the 16 bytes of a TRB with its Cycle bit
abbrev pub text : Trb → Bool → List ℕ
text trb cycle = bytes_of (words_of trb cycle)

-- TRB Type, control bits 15:10 (6.4.6)
abbrev pub type_in : Words → ℕ
type_in w = w.control / 2 ^ 10 % 2 ^ 6

-- What stands in the bits that no field has, added up for each type: 0 exactly where all are 0.
-- Normal: the interrupter target in status 31:22; control 8:7 and 31:16
abbrev pub reserved_in_normal : Words → ℕ
reserved_in_normal w = w.status / 2 ^ 22 + w.control / 2 ^ 7 % 2 ^ 2 + w.control / 2 ^ 16

-- Link: parameter 3:0; the status; control 3:2, 9:6 and 31:16
abbrev pub reserved_in_link : Words → ℕ
reserved_in_link w = w.parameter % 2 ^ 4 + w.status + w.control / 2 ^ 2 % 2 ^ 2 + w.control / 2 ^ 6 % 2 ^ 4 + w.control / 2 ^ 16

-- control 9:1 and 23:21, in all TRBs with an endpoint
abbrev pub reserved_beside_endpoint : Words → ℕ
reserved_beside_endpoint w = w.control / 2 % 2 ^ 9 + w.control / 2 ^ 21 % 2 ^ 3

-- Stop Endpoint: the parameter and the status too
abbrev pub reserved_in_stop : Words → ℕ
reserved_in_stop w = w.parameter + w.status + reserved_beside_endpoint w

-- Set TR Dequeue Pointer: status 15:0 too
abbrev pub reserved_in_set_dequeue : Words → ℕ
reserved_in_set_dequeue w = w.status % 2 ^ 16 + reserved_beside_endpoint w

-- Command Completion Event: parameter 3:0; status 23:0; control 9:1 and 23:16
abbrev pub reserved_in_command_event : Words → ℕ
reserved_in_command_event w = w.parameter % 2 ^ 4 + w.status % 2 ^ 24 + w.control / 2 % 2 ^ 9 + w.control / 2 ^ 16 % 2 ^ 8

-- a reserved bit that is set
abbrev pub reserved_fault : ℕ → Option TrbFault
reserved_fault reserved = if nat_lt 0 reserved then Some ReservedSet else None

-- The first of the tests that fails, in this order: the type is one of the six; a Normal length is at
-- most 65,536; every bit outside the fields is 0, and SCT is 1.
abbrev pub fault_in : Words → Option TrbFault
fault_in w =
    if type_in w == 1 then
    (if nat_lt 65536 (w.status % 2 ^ 17) then Some LengthOver else reserved_fault (reserved_in_normal w))
    else if type_in w == 6 then reserved_fault (reserved_in_link w)
    else if type_in w == 15 then reserved_fault (reserved_in_stop w)
    else if type_in w == 16 then
    (if w.parameter / 2 % 2 ^ 3 == 1 then reserved_fault (reserved_in_set_dequeue w) else Some ReservedSet)
    else if type_in w == 32 then reserved_fault (reserved_beside_endpoint w)
    else if type_in w == 33 then reserved_fault (reserved_in_command_event w)
    else Some (UnknownType (type_in w))

-- three words hold a TRB with this Cycle bit
pub record Holds (w : Words) (trb : Trb) (cycle : ℕ) : Type 0 where
  pub parameter : parameter_of trb ≡ w.parameter
  pub status : status_of trb ≡ w.status
  pub control : control_of trb + cycle ≡ w.control

-- the TRB that three words hold beside their Cycle bit, where they have no fault
pub record IsTrbIn (w : Words) (trb : Trb) : Type 0 where
  pub held : Holds w trb (w.control % 2)
  pub has_text : HasText trb
  pub clean : fault_in w ≡ None

-- what is read from three words: their TRB, or their first fault
abbrev pub IsReading : Words → Result Trb TrbFault → Type 0
IsReading w (Ok trb) = IsTrbIn w trb
IsReading w (Err fault) = fault_in w ≡ Some fault

-- the Chain bit (4.11): the next TRB is of the same TD
abbrev pub has_chain : Trb → Bool
has_chain (Normal pointer length td_size flags) = flags.0 / 8 % 2 == 1
has_chain (Link pointer toggle chain ioc) = chain
has_chain _ = false
