-- Whether a step carries out a TRB: the tests of xhci_ctl specs/Own, which says the same as facts. Any other TRB is foreign, and so
-- are bytes that are no TRB's text.
use Rattle.std.specs.Prelude.{ℕ, ◌/◌, ◌%◌, ◌==◌, ◌&&◌, nat_le, Bool, false, if◌then◌else◌, List, length as list_length, Option, Some, None}
use Rattle.xhci_trb.specs.declared.Trb.{Trb}
use Rattle.xhci_trb.specs.declared.Trb.TheVariants.{Normal, Link, StopEndpoint, SetDequeue, TransferEvent, CommandEvent}
use Rattle.frame_store.specs.declared.TagBuffers.{TagBuffers}
use Rattle.frame_store.specs.Buffers.{left_at}
use Rattle.uas_iu.specs.declared.Iu.{Iu}
use Rattle.uas_iu.specs.Units.{unit_text}
use Rattle.uas_target.specs.declared.Phase.{Phase}
use Rattle.uas_target.specs.declared.Phase.TheVariants.{Absent, Gives, Takes, Ends}
use Rattle.uas_profile.specs.declared.TheConstants.{COMMAND_BYTES}
use Rattle.xhci_ctl.specs.Own.{length_of}

-- The bytes from an address on are bytes of one buffer that is there, or there is none. Worked: of tag 1, whose command buffer lies at
-- 10000100h, 32 bytes from there are, 33 aren't, and at 0 no byte is and none needs to be.
abbrev pub is_named : List TagBuffers → ℕ → ℕ → Bool
is_named frames address len = nat_le len (left_at frames address)

-- Normal, without Evaluate Next TRB (ENT, bit 0 of the flags) and without Immediate Data (IDT, bit 5), and all its bytes are bytes of
-- one buffer
abbrev pub is_own : List TagBuffers → Option Trb → Bool
is_own frames (Some (Normal pointer length td_size flags)) =
    flags.0 % 2 == 0 && (flags.0 / 32 % 2 == 0 && is_named frames pointer length)
is_own frames (Some (Link pointer toggle chain ioc)) = false
is_own frames (Some (StopEndpoint endpoint slot)) = false
is_own frames (Some (SetDequeue pointer cycle stream endpoint slot)) = false
is_own frames (Some (TransferEvent pointer residual code endpoint slot)) = false
is_own frames (Some (CommandEvent pointer code slot)) = false
is_own frames None = false

-- of the command pipe: at most a Command unit
abbrev pub is_own_command : List TagBuffers → Option Trb → Bool
is_own_command frames trb = is_own frames trb && nat_le (length_of trb) COMMAND_BYTES

-- of a data stream: as many bytes as the device's next chunk
abbrev pub is_own_data : List TagBuffers → ℕ → Option Trb → Bool
is_own_data frames size trb = is_own frames trb && (length_of trb == size)

-- of a data-in stream, by what the device does next on its tag
abbrev pub is_own_in : List TagBuffers → Phase → Option Trb → Bool
is_own_in frames Absent trb = is_own frames trb
is_own_in frames (Gives size) trb = is_own_data frames size trb
is_own_in frames (Takes size) trb = is_own frames trb
is_own_in frames Ends trb = is_own frames trb

-- of a data-out stream
abbrev pub is_own_out : List TagBuffers → Phase → Option Trb → Bool
is_own_out frames Absent trb = is_own frames trb
is_own_out frames (Gives size) trb = is_own frames trb
is_own_out frames (Takes size) trb = is_own_data frames size trb
is_own_out frames Ends trb = is_own frames trb

-- of a status stream: at least the bytes of the device's unit, while it has one to send
abbrev pub is_own_answer : List TagBuffers → Phase → Option Iu → Option Trb → Bool
is_own_answer frames Absent answer trb = is_own frames trb
is_own_answer frames (Gives size) answer trb = is_own frames trb
is_own_answer frames (Takes size) answer trb = is_own frames trb
is_own_answer frames Ends None trb = is_own frames trb
is_own_answer frames Ends (Some unit) trb = is_own frames trb && nat_le (list_length (unit_text unit)) (length_of trb)

-- the address of what is in front of a ring and isn't to be carried out
abbrev pub foreign : (Option Trb → Bool) → Option (ℕ × Option Trb) → Option ℕ
foreign own None = None
foreign own (Some (address, trb)) = if own trb then None else Some address
