-- What a TRB in the ring of endpoint 0 is (xHCI 6.4.1.2): a Setup Stage with eight bytes of immediate data, a Data Stage of at most 65,536
-- bytes whose DIR is bit 16, a Status Stage; any other is what it is in a pipe's ring.
use Rattle.std.specs.Prelude.{◌%◌, ◌==◌, nat_lt, ◌||◌, not, false, if◌then◌else◌}
use Rattle.byteorder.specs.Endian.{little_bytes}
use Rattle.guest_memory.specs.declared.rings.words.Words.{Words}
use Rattle.guest_memory.specs.declared.rings.trb.Flags.{Flags}
use Rattle.guest_memory.specs.declared.rings.trb.PipeTrb.TheVariants.{Foreign}
use Rattle.guest_memory.specs.rings.Trbs.{trb_in}
use Rattle.guest_memory.specs.rings.Words.{bit_in, type_in}
use Rattle.usb_disk.specs.Requests.{setup_in}
use Rattle.xhci_control.specs.declared.trb.ControlTrb.{ControlTrb}
use Rattle.xhci_control.specs.declared.trb.ControlTrb.TheVariants.{SetupStage, DataStage, StatusStage, Other}

-- IOC, BEI and IDT; such a TRB is the last of its TD
abbrev pub stage_flags : Words → Flags
stage_flags w = record { chain = false; ioc = bit_in w.control 5; isp = false; bei = bit_in w.control 9; idt = bit_in w.control 6 }

-- and CH and ISP
abbrev pub data_flags : Words → Flags
data_flags w = record (stage_flags w) { chain = bit_in w.control 4; isp = bit_in w.control 2 }

abbrev pub setup_stage : Words → ControlTrb
setup_stage w =
    if not (w.status % 131072 == 8) || not (bit_in w.control 6) then Other Foreign
    else SetupStage (setup_in (little_bytes 8 w.parameter)) (stage_flags w)

abbrev pub data_stage : Words → ControlTrb
data_stage w =
    if nat_lt 65536 (w.status % 131072) then Other Foreign
    else DataStage w.parameter (w.status % 131072) (bit_in w.control 16) (data_flags w)

unfoldable pub control_in : Words → ControlTrb
control_in w =
    if type_in w == 2 then setup_stage w
    else if type_in w == 3 then data_stage w
    else if type_in w == 4 then StatusStage (stage_flags w)
    else Other (trb_in w)
