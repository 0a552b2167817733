-- A memory that is laid out: rings, events and buffers as they are at the start, in zeros, and contexts beside them.
use Rattle.std.specs.Prelude.{◌≡◌, ℕ, ◌+◌, ◌-◌, ◌*◌, ◌/◌, ◌%◌, ◌^◌, nat_lt, true, false, if◌then◌else◌, List, [], map, replicate, set, Some, None, slice_get}
use Rattle.std.specs.List.{range_with_len}
use Rattle.uas_profile.specs.declared.Pipe.{Pipe}
use Rattle.uas_profile.specs.declared.Pipe.TheVariants.{Command, Status, DataIn, DataOut}
use Rattle.uas_profile.specs.declared.TheConstants.{COMMAND_BUFFERS, BUFFER_SPAN, COMMAND_BYTES, COMMAND_ENDPOINT, ENGINE_RING, EVENT_RING, EVENT_RING_PLACES, GREATEST_TAG, STATUS_BUFFERS, STATUS_BYTES, STATUS_ENDPOINT, STREAM_ENTRIES, STREAMS}
use Rattle.xhci_trb.specs.declared.Trb.{Trb}
use Rattle.xhci_trb.specs.declared.Trb.TheVariants.{Normal}
use Rattle.xhci_trb.specs.Text.{text}
use Rattle.cycle_ring.specs.Ring.{opening as opening_ring}
use Rattle.cycle_ring.specs.Items.{ItemRing}
use Rattle.event_ring.specs.Events.{opening as opening_events}
use Rattle.stream_array.specs.declared.Dequeue.{Dequeue}
use Rattle.stream_array.specs.Map.{ring_base}
use Rattle.stream_array.specs.Contexts.{context_text, opening_entry}
use Rattle.stream_array.specs.Rings.{LinesState, stream_ring, with_ring}
use Rattle.frame_store.specs.Buffers.{opening as opening_frames}
use Rattle.uas_target.specs.Device.{opening as opening_device, with_task}
use Rattle.uas_target.specs.declared.DeviceTask.TheVariants.{Ended}
use Rattle.uas_target.specs.declared.DeviceAnswer.TheVariants.{Status as StatusAnswer}
use Rattle.device_server.specs.declared.Answer.TheVariants.{Good}
use Rattle.uas_iu.specs.declared.Iu.{Iu}
use Rattle.uas_iu.specs.declared.Iu.TheVariants.{Sense}
use Rattle.guest_pipes.specs.Pipe.{configured, disabled}
use Rattle.xhci_ctl.specs.Steps.{Sides}
use Rattle.guest_memory.specs.Bytes.{Memory, is_in, written}
use Rattle.guest_memory.specs.declared.rings.cursor.Cursor.{Cursor}
use Rattle.guest_memory.specs.rings.Ends.{pointer_bytes, stream_bytes}
use Rattle.guest_memory.specs.rings.Events.{EventEnd}
use Rattle.uas_target.specs.Device.{Device}
use Rattle.guest_transfers.specs.State.{TransfersWorld, opening as opening_transfers}
use Rattle.guest_profile.specs.Layout.{IsLaid, IsLayout, Layout}
use Rattle.guest_profile.specs.Host.{with_trb}
use Rattle.guest_profile.specs.Ready.{rung_consumer}
use Rattle.guest_profile.specs.Steps.{HasAnswer, HasCommand}

-- a stream's context has the same 16 bytes on both sides
abbrev pub ContextsAreAlike : Type 0
ContextsAreAlike =
    (dequeue : Dequeue) → dequeue.pointer % 16 ≡ 0 → context_text (Some dequeue) ≡ stream_bytes 1 (record { place = dequeue.pointer; cycle = dequeue.cycle })

-- the contexts stand below the profile's map
abbrev pub opening_layout : Layout
opening_layout = record { command = 0x1000; status = 0x2000; data_in = 0x3000; data_out = 0x4000 }

abbrev pub stream_rings : Pipe → List ItemRing
stream_rings pipe = map (λ stream. opening_ring (ring_base pipe stream)) (range_with_len 1 STREAMS)

abbrev pub opening_lines : LinesState
opening_lines = record {
  command = opening_ring (ring_base Command 0);
  status = stream_rings Status;
  data_in = stream_rings DataIn;
  data_out = stream_rings DataOut;
  engine = opening_ring ENGINE_RING;
  events = opening_events;
}

abbrev pub opening_end : EventEnd
opening_end = record { base = EVENT_RING; places = EVENT_RING_PLACES; place = 0; cycle = true; free = EVENT_RING_PLACES - 1; asks = false }

-- zeros at every address
unfoldable pub zeros : Memory
zeros a = if nat_lt a (2 ^ 64) then Some 0 else None

-- a pipe's array of stream contexts at its first values
unfoldable pub with_array : Memory → ℕ → Pipe → Memory
with_array memory array pipe a =
    if is_in array (16 * STREAM_ENTRIES) a then slice_get (context_text (opening_entry pipe ((a - array) / 16))) ((a - array) % 16) else memory a

-- the first place of the command pipe's ring
abbrev pub first_cursor : Cursor
first_cursor = record { place = ring_base Command 0; cycle = true }

abbrev pub opening_memory : Memory
opening_memory =
    with_array (with_array (with_array (written zeros 0x1000 (pointer_bytes first_cursor)) 0x2000 Status) 0x3000 DataIn) 0x4000 DataOut

-- that memory is laid out
pub record OpeningIsLaid : Type 0 where
  pub layout : IsLayout opening_layout
  pub laid : IsLaid opening_layout opening_lines opening_frames opening_memory opening_end

-- A COMMAND IN FRONT

-- tag 1's command buffer, with IOC: 00 01 00 10, four zeros, 20 00 00 00, 21 04 00 00 at 41000000h
abbrev pub first_trb : Trb
first_trb = Normal (COMMAND_BUFFERS + BUFFER_SPAN * 1) COMMAND_BYTES 0 (record { 0 = 16 })

abbrev pub first_sides : Sides
first_sides = record {
  lines = with_ring opening_lines Command 0 (with_trb opening_lines.command first_trb);
  frames = opening_frames;
  device = opening_device GREATEST_TAG [];
}

abbrev pub first_world : TransfersWorld Device
first_world = record {
  memory = written opening_memory (ring_base Command 0) (text first_trb true);
  events = opening_end;
  transfers = record opening_transfers { command = rung_consumer COMMAND_ENDPOINT; home = 0x1000 };
  device = opening_device GREATEST_TAG [];
}

-- both sides stand at it
abbrev pub CommandIsInFront : Type 0
CommandIsInFront = HasCommand opening_layout first_sides first_world (COMMAND_BUFFERS + BUFFER_SPAN * 1) COMMAND_BYTES 0 (record { 0 = 16 })

-- AN ANSWER THAT IS DUE

-- tag 1's status buffer, with ISP and IOC: 00 01 00 20, four zeros, 70 00 00 00, 25 04 00 00 at 42001000h
abbrev pub first_status_trb : Trb
first_status_trb = Normal (STATUS_BUFFERS + BUFFER_SPAN * 1) STATUS_BYTES 0 (record { 0 = 18 })

-- tag 1's task has ended GOOD; its answer is 03 00 00 01 and 12 zeros
abbrev pub ended_device : Device
ended_device = with_task (opening_device GREATEST_TAG []) 1 (Some (Ended None (StatusAnswer Good)))

abbrev pub first_answer : Iu
first_answer = Sense 1 0 (record { items = [] })

abbrev pub answer_sides : Sides
answer_sides = record {
  lines = with_ring opening_lines Status 1 (with_trb (stream_ring opening_lines.status 1) first_status_trb);
  frames = opening_frames;
  device = ended_device;
}

abbrev pub answer_world : TransfersWorld Device
answer_world = record {
  memory = written opening_memory (ring_base Status 1) (text first_status_trb true);
  events = opening_end;
  transfers = record opening_transfers { status = record (configured (disabled STATUS_ENDPOINT) 0x2000 128) { rung = set (replicate 256 false) 1 true } };
  device = ended_device;
}

abbrev pub AnswerIsDue : Type 0
AnswerIsDue = HasAnswer opening_layout answer_sides answer_world 1 first_answer (STATUS_BUFFERS + BUFFER_SPAN * 1) STATUS_BYTES 0 (record { 0 = 18 })
