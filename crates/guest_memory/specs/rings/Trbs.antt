-- What a TRB in a pipe's ring is (xHCI 1.2, 6.4.1 and 6.4.4), by its fields. Reserved bits are ignored.
use Rattle.std.specs.Prelude.{◌*◌, ◌/◌, ◌%◌, ◌^◌, ◌==◌, nat_lt, if◌then◌else◌}
use Rattle.guest_memory.specs.declared.rings.words.Words.{Words}
use Rattle.guest_memory.specs.declared.rings.trb.Flags.{Flags}
use Rattle.guest_memory.specs.declared.rings.trb.PipeTrb.{PipeTrb}
use Rattle.guest_memory.specs.declared.rings.trb.PipeTrb.TheVariants.{Normal, Link, NoOp, EventData, Foreign}
use Rattle.guest_memory.specs.rings.Words.{bit_in, type_in}

-- CH is control bit 4, IOC 5, ISP 2, BEI 9, IDT 6
abbrev pub flags_in : Words → Flags
flags_in w = record {
  chain = bit_in w.control 4;
  ioc = bit_in w.control 5;
  isp = bit_in w.control 2;
  bei = bit_in w.control 9;
  idt = bit_in w.control 6;
}

-- the length is status bits 16:0
unfoldable pub normal_in : Words → PipeTrb
normal_in w = if nat_lt 65536 (w.status % 2 ^ 17) then Foreign else Normal w.parameter (w.status % 2 ^ 17) (flags_in w)

-- a Link's pointer is parameter bits 63:4, and TC control bit 1
unfoldable pub trb_in : Words → PipeTrb
trb_in w =
    if type_in w == 1 then normal_in w
    else if type_in w == 6 then Link (16 * (w.parameter / 16)) (bit_in w.control 1) (flags_in w)
    else if type_in w == 7 then EventData w.parameter (flags_in w)
    else if type_in w == 8 then NoOp (flags_in w)
    else Foreign
