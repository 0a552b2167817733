-- Row 14: the four pipes are configured at once (xHCI 1.2, 4.6.6, 6.2.3 and 6.2.4.1).
use Rattle.std.specs.Prelude.{ℕ, ◌+◌, ◌*◌, ◌-◌, ◌^◌, ◌==◌, min, max, nat_lt, if◌then◌else◌, Option, Some, None, List, bit_or}
use Rattle.bring_up.specs.declared.access.Access.{Access}
use Rattle.bring_up.specs.declared.access.Access.TheVariants.{Rest}
use Rattle.bring_up.specs.declared.access.Stored.TheVariants.{Sixteen, ThirtyTwo, Zeros}
use Rattle.bring_up.specs.declared.slots.Device.{Device}
use Rattle.bring_up.specs.Accesses.{later, store_in}
use Rattle.host_layout.specs.declared.layout.Area.TheVariants.{At, EmptyPage, OfTag}
use Rattle.host_layout.specs.declared.layout.Fixed.TheVariants.{CommandPipe, DataInStreams, DataOutStreams, InputContext, StatusStreams}
use Rattle.host_layout.specs.declared.layout.Layout.{Layout}
use Rattle.host_layout.specs.declared.layout.TagArea.TheVariants.{DataInRing, DataOutRing, StatusRing}
use Rattle.host_layout.specs.Places.{address_of, context_of, place_of}
use Rattle.host_trbs.specs.declared.contexts.Dequeue.{Dequeue}
use Rattle.host_trbs.specs.declared.contexts.Dequeue.TheVariants as dequeue
use Rattle.host_trbs.specs.declared.contexts.EndpointContext.{EndpointContext}
use Rattle.host_trbs.specs.declared.contexts.EndpointKind.{EndpointKind}
use Rattle.host_trbs.specs.declared.contexts.EndpointKind.TheVariants.{BulkIn, BulkOut}
use Rattle.host_trbs.specs.declared.contexts.SlotContext.{SlotContext}
use Rattle.host_trbs.specs.Contexts.{endpoint_context, input_control, slot_context, stream_context}
use Rattle.uas_profile.specs.declared.Pipe.{Pipe}
use Rattle.uas_profile.specs.declared.Pipe.TheVariants.{Command, Status, DataIn, DataOut}
use Rattle.usb_descriptors.specs.declared.Endpoint.{Endpoint}
use Rattle.usb_descriptors.specs.declared.Pipes.{Pipes}
use Rattle.usb_descriptors.specs.declared.stream_tags.Streams.{Streams}
use Rattle.usb_descriptors.specs.Endpoints.{context_index}
use Rattle.disk_up.specs.declared.pipes.Piping.{Piping}
use Rattle.disk_up.specs.declared.pipes.Piping.TheVariants.{Zero, Stream, Flags, Slot, OfPipe}

abbrev pub endpoint_of : Pipes → Pipe → Endpoint
endpoint_of pipes Command = pipes.command
endpoint_of pipes Status = pipes.status
endpoint_of pipes DataIn = pipes.data_in
endpoint_of pipes DataOut = pipes.data_out

-- WHICH CONTEXTS: A0 and those of the pipes (6.2.5.1); the last of them (6.2.2)

abbrev pub flag : Endpoint → ℕ
flag endpoint = 2 ^ context_index endpoint

abbrev pub added_contexts : Pipes → ℕ
added_contexts pipes = bit_or (bit_or (bit_or (bit_or 1 (flag pipes.command)) (flag pipes.status)) (flag pipes.data_in)) (flag pipes.data_out)

abbrev pub context_count : Pipes → ℕ
context_count pipes =
    max (max (max (context_index pipes.command) (context_index pipes.status)) (context_index pipes.data_in)) (context_index pipes.data_out)

abbrev pub pipes_slot : Device → Pipes → SlotContext
pipes_slot device pipes = record { speed = device.speed; entries = context_count pipes; port = device.port.number }

-- WHERE EACH PIPE'S RING OR STREAM ARRAY IS, AND EACH TAG'S RING

abbrev pub array_of : Layout → Pipe → ℕ
array_of layout Command = address_of layout (At CommandPipe)
array_of layout Status = address_of layout (At StatusStreams)
array_of layout DataIn = address_of layout (At DataInStreams)
array_of layout DataOut = address_of layout (At DataOutStreams)

abbrev pub ring_of : Layout → Pipe → ℕ → Option ℕ
ring_of layout Command tag = None
ring_of layout Status tag = place_of layout (OfTag tag StatusRing)
ring_of layout DataIn tag = place_of layout (OfTag tag DataInRing)
ring_of layout DataOut tag = place_of layout (OfTag tag DataOutRing)

abbrev pub kind_of : Pipe → EndpointKind
kind_of Command = BulkOut
kind_of Status = BulkIn
kind_of DataIn = BulkIn
kind_of DataOut = BulkOut

abbrev pub dequeue_of : ℕ → Streams → Pipe → Dequeue
dequeue_of at streams Command = dequeue.Ring at
dequeue_of at streams Status = dequeue.Streams at streams.max_primary_streams
dequeue_of at streams DataIn = dequeue.Streams at streams.max_primary_streams
dequeue_of at streams DataOut = dequeue.Streams at streams.max_primary_streams

abbrev pub pipe_endpoint : Layout → Pipes → Streams → Pipe → EndpointContext
pipe_endpoint layout pipes streams pipe = record {
  kind = kind_of pipe;
  max_packet = (endpoint_of pipes pipe).max_packet;
  burst = (endpoint_of pipes pipe).burst;
  dequeue = dequeue_of (array_of layout pipe) streams pipe;
  average = 3072;
}

-- THE STORES: zeros over the input context, the command pipe's ring, the stream arrays and what tags have; the stream contexts of the tags; the
-- contexts of the input context (6.2.5), of which a pipe's stands one behind its index

abbrev pub stream_at : Option ℕ → Layout → Pipe → ℕ → Access
stream_at (Some ring) layout pipe tag = store_in (Some (later (array_of layout pipe) (16 * tag))) (Sixteen (stream_context ring))
stream_at None layout pipe tag = Rest 0

abbrev pub stream_put : Layout → Pipe → ℕ → Access
stream_put layout pipe tag = stream_at (ring_of layout pipe tag) layout pipe tag

-- 6.2.4.1: bytes 8 to 15 of a stream context are zeroed
abbrev pub stream_mended : Layout → Pipe → ℕ → Access
stream_mended layout pipe tag = store_in (Some (later (array_of layout pipe) (16 * tag + 8))) (Zeros 8)

abbrev pub context_put : Layout → ℕ → List ℕ → Access
context_put layout index context = store_in (context_of layout InputContext 33 index) (ThirtyTwo context)

abbrev pub pipes_access : Piping → Layout → Device → Pipes → Streams → Access
pipes_access (Zero page) layout device pipes streams = store_in (Some (later layout.base (4096 * page))) (Zeros 4096)
pipes_access (Stream pipe tag) layout device pipes streams = stream_put layout pipe tag
pipes_access Flags layout device pipes streams = context_put layout 0 (input_control 0 (added_contexts pipes))
pipes_access Slot layout device pipes streams = context_put layout 1 (slot_context (pipes_slot device pipes))
pipes_access (OfPipe pipe) layout device pipes streams =
    context_put layout (context_index (endpoint_of pipes pipe) + 1) (endpoint_context (pipe_endpoint layout pipes streams pipe))

-- pages 1, 3 to 7, and from 16 on up to the empty page; 8 to 15 are the event ring
abbrev pub next_page : ℕ → ℕ
next_page page = if page == 1 then 3 else if page == 7 then 16 else min (page + 1) (2 ^ 32 - 1)

abbrev pub zero_after : Layout → ℕ → Piping
zero_after layout next = if nat_lt (later layout.base (4096 * next)) (address_of layout EmptyPage) then Zero next else Stream Status 1

abbrev pub next_streams : Pipe → Piping
next_streams Command = Flags
next_streams Status = Stream DataIn 1
next_streams DataIn = Stream DataOut 1
next_streams DataOut = Flags

abbrev pub stream_after : Pipe → ℕ → ℕ → Piping
stream_after pipe tag tags = if nat_lt tag tags then Stream pipe (min (tag + 1) 255) else next_streams pipe

abbrev pub pipe_after : Pipe → Option Piping
pipe_after Command = Some (OfPipe Status)
pipe_after Status = Some (OfPipe DataIn)
pipe_after DataIn = Some (OfPipe DataOut)
pipe_after DataOut = None

abbrev pub pipes_after : Piping → Layout → Streams → Option Piping
pipes_after (Zero page) layout streams = Some (zero_after layout (next_page page))
pipes_after (Stream pipe tag) layout streams = Some (stream_after pipe tag streams.tags)
pipes_after Flags layout streams = Some Slot
pipes_after Slot layout streams = Some (OfPipe Command)
pipes_after (OfPipe pipe) layout streams = pipe_after pipe
