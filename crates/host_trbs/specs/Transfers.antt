-- The TRBs of transfers (xHCI 1.2, 6.4.1) and Link TRBs (6.4.4.1): their fields at their places, and 0 elsewhere.
use Rattle.std.specs.Prelude.{ℕ, ◌+◌, ◌/◌, ◌^◌, ◌==◌, ◌&&◌, not, if◌then◌else◌, Bool}
use Rattle.host_trbs.specs.declared.transfers.DataStage.{DataStage}
use Rattle.host_trbs.specs.declared.transfers.DataTrb.{DataTrb}
use Rattle.host_trbs.specs.declared.transfers.LinkTrb.{LinkTrb}
use Rattle.host_trbs.specs.declared.transfers.SetupPacket.{SetupPacket}
use Rattle.host_trbs.specs.declared.words.Words.{Words}
use Rattle.host_trbs.specs.Words.{aligned, bit, bits}

-- USB 3.2, 9.3: the device sends the data where bmRequestType bit 7 is 1; without bytes there is no Data Stage
abbrev pub has_data_in : SetupPacket → Bool
has_data_in setup = not (setup.length == 0) && setup.request_type / 2 ^ 7 == 1

-- 6.4.1.2.1: bmRequestType 7:0, bRequest 15:8, wValue 31:16, wIndex 47:32, wLength 63:48.
-- Worked: SET_CONFIGURATION 1 (00 09 0001 0000 0000) is 10900h.
abbrev pub setup_parameter : SetupPacket → ℕ
setup_parameter setup =
    bits 7 0 setup.request_type + bits 15 8 setup.request + bits 31 16 setup.value + bits 47 32 setup.index + bits 63 48 setup.length

-- Transfer Type (6.4.1.2.1): 0 No Data Stage, 2 OUT Data Stage, 3 IN Data Stage
abbrev pub transfer_type : SetupPacket → ℕ
transfer_type setup = if setup.length == 0 then 0 else if has_data_in setup then 3 else 2

-- 6.4.1.2.1: TRB Transfer Length, always 8; IDT in control bit 6, TRB Type 2, Transfer Type in bits 17:16.
abbrev pub setup_words : SetupPacket → Bool → Words
setup_words setup cycle = record {
  parameter = setup_parameter setup;
  status = 8;
  control = bits 17 16 (transfer_type setup) + bits 15 10 2 + bits 6 6 1 + bit cycle;
}

-- 6.4.1.2.2: TRB Transfer Length in bits 16:0, TD Size 0; ISP in control bit 2, TRB Type 3, DIR in bit 16.
abbrev pub data_stage_words : DataStage → Bool → Words
data_stage_words stage cycle = record {
  parameter = stage.at;
  status = bits 16 0 stage.length;
  control = bits 16 16 (bit stage.is_in) + bits 15 10 3 + bits 2 2 1 + bit cycle;
}

-- 6.4.1.2.3: IOC in control bit 5, TRB Type 4, DIR in bit 16: 0 behind data from the device, else 1 (4.11.2.2).
abbrev pub status_stage_words : SetupPacket → Bool → Words
status_stage_words setup cycle = record {
  parameter = 0;
  status = 0;
  control = bits 16 16 (bit (not (has_data_in setup))) + bits 15 10 4 + bits 5 5 1 + bit cycle;
}

-- 6.4.1.1: ISP in control bit 2 on data from the device, CH in bit 4 on all but the last TRB of a TD, IOC in bit 5 on the last; TRB Type 1.
abbrev pub data_control : DataTrb → ℕ
data_control trb = bits 15 10 1 + bits 2 2 (bit trb.is_in) + bits 4 4 (bit (not trb.is_last)) + bits 5 5 (bit trb.is_last)

-- 6.4.1.1: TRB Transfer Length in status bits 16:0, TD Size in 21:17.
-- Worked: 2,048 bytes with 2 packets left are 00040800h.
abbrev pub data_words : DataTrb → Bool → Words
data_words trb cycle = record {
  parameter = trb.at;
  status = bits 16 0 trb.length + bits 21 17 trb.packets_left;
  control = data_control trb + bit cycle;
}

-- 6.4.4.1: Ring Segment Pointer in bits 63:4; TC in control bit 1, TRB Type 6.
abbrev pub link_words : LinkTrb → Bool → Words
link_words link cycle = record {
  parameter = aligned link.to;
  status = 0;
  control = bits 15 10 6 + bits 1 1 (bit link.toggles) + bit cycle;
}
