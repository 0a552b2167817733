-- A TRB as C's record: its fields under one name each, flags as 0 or 1, and 0 where its type has no such field.
use Rattle.std.specs.Prelude.{ℕ, ◌%◌, ◌^◌, Bool, true, ◌&&◌, if◌then◌else◌, ◌==◌, nat_le, nat_lt, Option, None, Some, replicate}
use Rattle.xhci_trb.specs.Text.{bit}
use Rattle.xhci_trb.specs.declared.Trb.{Trb}
use Rattle.xhci_trb.specs.declared.Trb.TheVariants.{Normal, Link, StopEndpoint, SetDequeue, TransferEvent, CommandEvent}
use Rattle.xhci_trb.specs.declared.TrbFault.{TrbFault}
use Rattle.xhci_trb.specs.declared.TrbFault.TheVariants.{LengthOver, ReservedSet}
use Rattle.xhci_trb.specs.declared.TrbFault.TheVariants as trb_faults
use Rattle.c_common.specs.declared.faults.TheConstants.{TRB_LENGTH_OVER, TRB_RESERVED_SET, TRB_UNFIT, TRB_UNKNOWN_TYPE}
use Rattle.c_common.specs.trb.RecordFault.{fault_of}
use Rattle.c_common.specs.declared.trb.trb.UasTrb.{UasTrb}

-- every field 0
abbrev pub no_trb : UasTrb
no_trb = record {
  pointer = 0;
  length = 0;
  stream = 0;
  kind = 0;
  cycle = 0;
  td_size = 0;
  flags = 0;
  toggle = 0;
  chain = 0;
  ioc = 0;
  dequeue_cycle = 0;
  endpoint = 0;
  slot = 0;
  code = 0;
  reserved = replicate 7 0;
}

-- the record of a TRB, its Cycle bit still 0
abbrev pub trb_fields : Trb → UasTrb
trb_fields (Normal pointer length td_size flags) =
    record no_trb { kind = 1; pointer = pointer; length = length; td_size = td_size; flags = flags.0 }
trb_fields (Link pointer toggle chain ioc) =
    record no_trb { kind = 6; pointer = pointer; toggle = bit toggle; chain = bit chain; ioc = bit ioc }
trb_fields (StopEndpoint endpoint slot) = record no_trb { kind = 15; endpoint = endpoint; slot = slot }
trb_fields (SetDequeue pointer cycle stream endpoint slot) =
    record no_trb { kind = 16; pointer = pointer; dequeue_cycle = bit cycle; stream = stream; endpoint = endpoint; slot = slot }
trb_fields (TransferEvent pointer residual code endpoint slot) =
    record no_trb { kind = 32; pointer = pointer; length = residual; code = code; endpoint = endpoint; slot = slot }
trb_fields (CommandEvent pointer code slot) = record no_trb { kind = 33; pointer = pointer; code = code; slot = slot }

-- the record of a TRB with its Cycle bit
abbrev pub trb_record : Trb → Bool → UasTrb
trb_record trb cycle = record (trb_fields trb) { cycle = bit cycle }

-- a byte that says yes or no
abbrev pub is_bit : ℕ → Bool
is_bit byte = nat_lt byte 2

-- the TRB that a record names by its type, whatever its fields have
abbrev pub named_trb : UasTrb → Option Trb
named_trb r =
    if r.kind == 1 then Some (Normal r.pointer r.length r.td_size (record { 0 = r.flags }))
    else (if r.kind == 6 then Some (Link r.pointer (r.toggle == 1) (r.chain == 1) (r.ioc == 1))
    else (if r.kind == 15 then Some (StopEndpoint r.endpoint r.slot)
    else (if r.kind == 16 then Some (SetDequeue r.pointer (r.dequeue_cycle == 1) r.stream r.endpoint r.slot)
    else (if r.kind == 32 then Some (TransferEvent r.pointer r.length r.code r.endpoint r.slot)
    else (if r.kind == 33 then Some (CommandEvent r.pointer r.code r.slot)
    else None)))))

-- each byte of the type that says yes or no is 0 or 1
abbrev pub bits_fit : UasTrb → Bool
bits_fit r =
    is_bit r.cycle
    && (if r.kind == 6 then is_bit r.toggle && is_bit r.chain && is_bit r.ioc else (if r.kind == 16 then is_bit r.dequeue_cycle else true))

-- the numbers of a TRB fit their bits (xHCI 1.2, 6.4), and a Normal moves at most 64 KiB
abbrev pub numbers_fit : Trb → Bool
numbers_fit (Normal pointer length td_size flags) = nat_le length 65536 && nat_lt td_size (2 ^ 5) && nat_lt flags.0 (2 ^ 7)
numbers_fit (Link pointer toggle chain ioc) = pointer % 16 == 0
numbers_fit (StopEndpoint endpoint slot) = nat_lt endpoint (2 ^ 5)
numbers_fit (SetDequeue pointer cycle stream endpoint slot) = pointer % 16 == 0 && nat_lt endpoint (2 ^ 5)
numbers_fit (TransferEvent pointer residual code endpoint slot) = nat_lt residual (2 ^ 24) && nat_lt endpoint (2 ^ 5)
numbers_fit (CommandEvent pointer code slot) = pointer % 16 == 0

-- the fault of writing a record
abbrev pub write_fault : UasTrb → ℕ
write_fault r = fault_of TRB_UNKNOWN_TYPE (λ trb. if bits_fit r && numbers_fit trb then 0 else TRB_UNFIT) (named_trb r)

-- the fault of reading 16 bytes, in the order of the tests
abbrev pub read_fault : Option TrbFault → ℕ
read_fault None = 0
read_fault (Some (trb_faults.UnknownType kind)) = TRB_UNKNOWN_TYPE
read_fault (Some LengthOver) = TRB_LENGTH_OVER
read_fault (Some ReservedSet) = TRB_RESERVED_SET
