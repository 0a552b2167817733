-- Contexts that a host writes (xHCI 1.2, 6.2): their fields at their places, and 0 elsewhere.
use Rattle.std.specs.Prelude.{ℕ, ◌+◌, List, ◌++◌, replicate}
use Rattle.byteorder.specs.Endian.{little_bytes}
use Rattle.host_trbs.specs.declared.contexts.ContextSize.{ContextSize}
use Rattle.host_trbs.specs.declared.contexts.ContextSize.TheVariants.{Short, Long}
use Rattle.host_trbs.specs.declared.contexts.Dequeue.{Dequeue}
use Rattle.host_trbs.specs.declared.contexts.Dequeue.TheVariants.{Ring, Streams}
use Rattle.host_trbs.specs.declared.contexts.EndpointContext.{EndpointContext}
use Rattle.host_trbs.specs.declared.contexts.EndpointKind.{EndpointKind}
use Rattle.host_trbs.specs.declared.contexts.EndpointKind.TheVariants.{Control, BulkOut, BulkIn}
use Rattle.host_trbs.specs.declared.contexts.SlotContext.{SlotContext}
use Rattle.host_trbs.specs.Commands.{dequeue_of}
use Rattle.host_trbs.specs.Words.{aligned, bits, bytes_of}

-- 5.3.6: bytes of a context, by Context Size (CSZ)
abbrev pub context_size : ContextSize → ℕ
context_size Short = 32
context_size Long = 64

-- the first two words, the pointer in the third and fourth, the fifth word; 12 bytes are 0
unfoldable pub context_bytes : ℕ → ℕ → ℕ → ℕ → List ℕ
context_bytes first second pointer fifth =
    little_bytes 4 first ++ little_bytes 4 second ++ little_bytes 8 pointer ++ little_bytes 4 fifth ++ replicate 12 0

-- Input Control Context: the Drop Context flags, bits 31:2 of the first word, and the Add Context flags, bits 31:0 of the second
abbrev pub input_control : ℕ → ℕ → List ℕ
input_control drop add = context_bytes drop add 0 0

-- 6.2.2: Speed in bits 23:20 and Context Entries in 31:27 of the first word, Root Hub Port Number in 23:16 of the second.
-- Worked: speed 4, 1 entry and port 1 are 08400000h and 00010000h.
abbrev pub slot_context : SlotContext → List ℕ
slot_context slot = context_bytes (bits 23 20 slot.speed + bits 31 27 slot.entries) (bits 23 16 slot.port) 0 0

-- EP Type (6.2.3)
abbrev pub endpoint_type : EndpointKind → ℕ
endpoint_type BulkOut = 2
endpoint_type Control = 4
endpoint_type BulkIn = 6

-- 6.2.3, the first word: MaxPStreams in bits 14:10, LSA in bit 15
abbrev pub endpoint_first : Dequeue → ℕ
endpoint_first (Ring at) = 0
endpoint_first (Streams array max_primary) = bits 14 10 max_primary + bits 15 15 1

-- 6.2.3, the second word: CErr 3 in bits 2:1, EP Type in 5:3, Max Burst Size in 15:8, Max Packet Size in 31:16.
-- Worked: a bulk IN endpoint with bursts of 16 packets of 1,024 bytes is 04000F36h.
abbrev pub endpoint_second : EndpointContext → ℕ
endpoint_second endpoint =
    bits 2 1 3 + bits 5 3 (endpoint_type endpoint.kind) + bits 15 8 endpoint.burst + bits 31 16 endpoint.max_packet

-- 6.2.3, the third and fourth: TR Dequeue Pointer in bits 63:4, and DCS 1 in bit 0 of a ring's; of a stream array bits 3:0 are 0
abbrev pub dequeue_pointer : Dequeue → ℕ
dequeue_pointer (Ring at) = dequeue_of at 0
dequeue_pointer (Streams array max_primary) = aligned array

-- 6.2.3: Average TRB Length in bits 15:0 of the fifth word
abbrev pub endpoint_context : EndpointContext → List ℕ
endpoint_context endpoint =
    context_bytes (endpoint_first endpoint.dequeue) (endpoint_second endpoint) (dequeue_pointer endpoint.dequeue) (bits 15 0 endpoint.average)

-- 6.2.4.1: the dequeue pointer of a stream, with DCS 1 and SCT 1; Stopped EDTLA and the rest are 0
abbrev pub stream_context : ℕ → List ℕ
stream_context ring = bytes_of (record { parameter = dequeue_of ring 1; status = 0; control = 0 })
