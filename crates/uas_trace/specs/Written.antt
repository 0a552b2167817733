-- What a step wrote, read where it stands: on the rings, in the buffers and in the stream contexts.
use Rattle.std.specs.Prelude.{ℕ, zero, suc, ◌+◌, ◌-◌, ◌*◌, ◌%◌, ◌==◌, nat_lt, ◌&&◌, Bool, false, if◌then◌else◌, List, [], ◌++◌, length, take, codes, fold}
use Rattle.std.specs.Prelude.{Option, Some, None, slice_index_or, is_none}
use Rattle.std.specs.Option.{option_map_or}
use Rattle.xhci_trb.specs.declared.Trb.{Trb}
use Rattle.xhci_trb.specs.declared.Trb.TheVariants.{Normal, SetDequeue}
use Rattle.cycle_ring.specs.Ring.{item_in, place_of}
use Rattle.cycle_ring.specs.Items.{ItemRing, known_front_of, raw_image, raw_link_image}
use Rattle.ring_ends.specs.Counted.{distance}
use Rattle.event_ring.specs.Events.{Events, event_image, place_of as event_place_of}
use Rattle.frame_store.specs.declared.Buffer.{Buffer}
use Rattle.frame_store.specs.declared.Buffer.TheVariants as buffer
use Rattle.frame_store.specs.declared.TagBuffers.{TagBuffers}
use Rattle.uas_profile.specs.declared.TheConstants.{STATUS_BYTES}
use Rattle.frame_store.specs.Buffers.{bytes_of, front_of as front_of_buffer}
use Rattle.frame_store.specs.Places.{address_of}
use Rattle.uas_profile.specs.Tags.{most_clients, tag_of, task_slot}
use Rattle.uas_profile.specs.declared.Pipe.{Pipe}
use Rattle.uas_profile.specs.declared.Pipe.TheVariants as pipe
use Rattle.uas_profile.specs.declared.TheConstants.{ENGINE_RING, ENGINE_RING_PLACES, EVENT_RING, EVENT_RING_PLACES, STREAM_ENTRIES}
use Rattle.stream_array.specs.Contexts.{context_text, has_stream}
use Rattle.stream_array.specs.Map.{HasRing, places_of, ring_base}
use Rattle.stream_array.specs.Rings.{LinesState, consumer_end, ring_of}
use Rattle.uas_profile.specs.declared.TheConstants.{COMMAND_BYTES}
use Rattle.uas_iu.specs.declared.TheConstants.{TASK_BYTES}
use Rattle.xhci_ctl.specs.Doorbells.{pipe_at}
use Rattle.shared_machine.specs.declared.Step.{Step}
use Rattle.shared_machine.specs.declared.Step.TheVariants as step
use Rattle.shared_machine.specs.declared.Outcome.{Outcome}
use Rattle.uas_trace.specs.declared.put_ring.PutRing.{PutRing}
use Rattle.uas_trace.specs.declared.put_ring.PutRing.TheVariants as put
use Rattle.uas_trace.specs.declared.writes.Before.{Before}
use Rattle.uas_trace.specs.declared.writes.Ends.{Ends}
use Rattle.uas_trace.specs.declared.writes.Writes.{Writes}
use Rattle.uas_trace.specs.declared.writes.Writes.TheVariants as writes
use Rattle.uas_trace.specs.Traced.{bell_line, bytes_line, chunk_line, context_line}

-- RINGS

-- the rings that the host puts TRBs on: how many places they have, where they begin, and what stands on them
abbrev pub places_in : PutRing → ℕ
places_in (put.Stream pipe stream) = places_of pipe
places_in put.Engine = ENGINE_RING_PLACES

abbrev pub base_in : PutRing → ℕ
base_in (put.Stream pipe stream) = ring_base pipe stream
base_in put.Engine = ENGINE_RING

abbrev pub ring_in : LinesState → PutRing → ItemRing
ring_in lines (put.Stream pipe stream) = ring_of lines pipe stream
ring_in lines put.Engine = lines.engine

abbrev pub IsPutRing : PutRing → Type 0
IsPutRing (put.Stream pipe stream) = HasRing pipe stream
IsPutRing put.Engine = Unit {0}

-- the place of the next TRB of a ring of n places
abbrev pub end_of : ℕ → ItemRing → ℕ
end_of n ring = place_of n ring (length ring.put)

-- the bytes of the TRB at a place before the Link's, where one stands
abbrev pub trb_at : ℕ → ItemRing → ℕ → Option (List ℕ)
trb_at n ring place = raw_image n ring (item_in (n - 1) (ring.at % (n - 1)) place)

-- the bytes of the Link, which stands once the place before it has its TRB (xHCI 4.11.5.1)
abbrev pub link_at : ℕ → ItemRing → Option (List ℕ)
link_at n ring = raw_link_image n ring (item_in (n - 1) (ring.at % (n - 1)) (n - 2))

-- the line of bytes, where they stand
abbrev pub image_line : List ℕ → ℕ → Option (List ℕ) → List ℕ
image_line name address None = []
image_line name address (Some bytes) = bytes_line name address bytes

abbrev pub put_line : LinesState → PutRing → ℕ → List ℕ
put_line lines at place = image_line (codes "put") (base_in at + 16 * place) (trb_at (places_in at) (ring_in lines at) place)

abbrev pub link_line : LinesState → PutRing → List ℕ
link_line lines at = image_line (codes "link") (base_in at + 16 * (places_in at - 1)) (link_at (places_in at) (ring_in lines at))

-- the TRB at a place, and behind the last place the Link
abbrev pub place_lines : LinesState → PutRing → ℕ → List ℕ
place_lines lines at place = put_line lines at place ++ (if place + 2 == places_in at then link_line lines at else [])

-- so many places from one on, round the ring
abbrev pub put_lines : LinesState → PutRing → ℕ → ℕ → List ℕ
put_lines lines at from zero = []
put_lines lines at from (suc count) = put_lines lines at from count ++ place_lines lines at ((from + count) % (places_in at - 1))

-- what was put since the ring ended at this place
unfoldable pub put_since : LinesState → PutRing → ℕ → List ℕ
put_since lines at from = put_lines lines at from (distance (places_in at - 1) from (end_of (places_in at) (ring_in lines at)))

-- the event at a place of the event ring, where one is pending there
abbrev pub event_at : Events → ℕ → Option (List ℕ)
event_at events place = event_image EVENT_RING_PLACES events (distance EVENT_RING_PLACES (events.at % EVENT_RING_PLACES) place)

-- the place of the newest event, where one is pending
abbrev pub newest_place : Events → ℕ
newest_place events = event_place_of EVENT_RING_PLACES events (length events.pending - 1)

-- BEFORE THE STEP

-- where the rings of a tag and of the command pipe end
abbrev pub ends_of : LinesState → ℕ → Ends
ends_of lines tag = record {
  data_in = end_of (places_of pipe.DataIn) (ring_of lines pipe.DataIn tag);
  data_out = end_of (places_of pipe.DataOut) (ring_of lines pipe.DataOut tag);
  status = end_of (places_of pipe.Status) (ring_of lines pipe.Status tag);
  command = end_of (places_of pipe.Command) (ring_of lines pipe.Command 0);
}

-- the first TRB that the controller may take on a tag's ring, and its address
abbrev pub front_on : LinesState → Pipe → ℕ → Option (ℕ × Trb)
front_on lines on tag = known_front_of (places_of on) (ring_of lines on tag)

-- A client's tag for task management, the last of its own. Worked: client 30's of 8 tags is 248, and client 2's of 16 tags is 48.
abbrev pub task_tag : ℕ → ℕ → ℕ
task_tag tags client = tag_of tags (record { client = client; slot = task_slot tags })

-- What a step can write, where each client has so many tags: the ends and the fronts of the rings that it works on.
abbrev pub seen_writes : ℕ → LinesState → Step → Writes
seen_writes tags lines (step.Submit client tag ticket command) =
    if has_stream tag then writes.CommandUnit tag (ends_of lines tag) else writes.Nothing
seen_writes tags lines (step.Task client ticket task) =
    if nat_lt client (most_clients tags) then writes.TaskUnit (task_tag tags client) (ends_of lines (task_tag tags client)) else writes.Nothing
seen_writes tags lines step.CommandPipe = writes.Nothing
seen_writes tags lines (step.Data tag) =
    if has_stream tag then writes.Chunk tag (front_on lines pipe.DataIn tag) (front_on lines pipe.DataOut tag) else writes.Nothing
seen_writes tags lines (step.Status tag) = if has_stream tag then writes.StatusUnit tag else writes.Nothing
seen_writes tags lines step.Engine = writes.Context (known_front_of ENGINE_RING_PLACES lines.engine)
seen_writes tags lines step.Event = writes.EngineCommand (end_of ENGINE_RING_PLACES lines.engine)
seen_writes tags lines (step.Retire pipe tag) = writes.EngineCommand (end_of ENGINE_RING_PLACES lines.engine)
seen_writes tags lines (step.Take client) = writes.Nothing

abbrev pub seen_before : ℕ → LinesState → Step → Before
seen_before tags lines step = record { writes = seen_writes tags lines step; events = length lines.events.pending }

-- the place of the event that was posted since, if one was: the newest
abbrev pub posted_at : Before → LinesState → Option ℕ
posted_at before lines = if nat_lt before.events (length lines.events.pending) then Some (newest_place lines.events) else None

-- AFTER THE STEP

-- the TRBs of a submission: data-in, data-out, status, command
unfoldable pub tds_lines : LinesState → ℕ → Ends → List ℕ
tds_lines lines tag ends =
    put_since lines (put.Stream pipe.DataIn tag) ends.data_in ++ put_since lines (put.Stream pipe.DataOut tag) ends.data_out
    ++ put_since lines (put.Stream pipe.Status tag) ends.status ++ put_since lines (put.Stream pipe.Command 0) ends.command

-- so many bytes of a tag's buffer
abbrev pub unit_line : List TagBuffers → ℕ → Buffer → ℕ → List ℕ
unit_line frames tag buffer len =
    bytes_line (codes "unit") (address_of (front_of_buffer buffer tag)) (take len (bytes_of frames (front_of_buffer buffer tag)))

-- a tag's unit of so many bytes, and the TRBs of its TDs
abbrev pub submission_lines : LinesState → List TagBuffers → ℕ → Ends → ℕ → List ℕ
submission_lines lines frames tag ends len =
    if has_stream tag then unit_line frames tag buffer.Command len ++ tds_lines lines tag ends else []

-- whether the TRB in front of a ring has this address
abbrev pub is_at : ℕ → Option (ℕ × Trb) → Bool
is_at address None = false
is_at address (Some front) = front.0 == address

-- the chunk of a TRB
abbrev pub trb_line : List ℕ → Trb → List ℕ
trb_line name (Normal pointer length td_size flags) = chunk_line name pointer length
trb_line name _ = []

-- the chunk of the TRB that was in front of a ring, once it isn't any more
abbrev pub taken_line : List ℕ → Option (ℕ × Trb) → Option (ℕ × Trb) → List ℕ
taken_line name None after = []
taken_line name (Some front) after = if is_at front.0 after then [] else trb_line name front.1

unfoldable pub chunk_lines : LinesState → ℕ → Option (ℕ × Trb) → Option (ℕ × Trb) → List ℕ
chunk_lines lines tag data_in data_out =
    taken_line (codes "in") data_in (front_on lines pipe.DataIn tag) ++ taken_line (codes "out") data_out (front_on lines pipe.DataOut tag)

-- How many bytes an event's TRB had left: bits 23:0 of the status word (xHCI 6.4.2.1).
-- By hand: the event 00 10 00 20 .. 60 00 00 0D .. left 96 of the 112 bytes, so the status unit has 16.
abbrev pub residual_in : List ℕ → ℕ
residual_in event = slice_index_or event 8 0 + 256 * slice_index_or event 9 0 + 65536 * slice_index_or event 10 0

-- how many bytes of the status buffer were written, as the event tells
abbrev pub status_len : Option (List ℕ) → ℕ
status_len event = STATUS_BYTES - option_map_or residual_in event STATUS_BYTES

-- the stream context of a ring, as it stands (xHCI 6.2.4.1)
abbrev pub context_of : LinesState → Pipe → ℕ → List ℕ
context_of lines on stream = context_text (if has_stream stream then Some (consumer_end (ring_of lines on stream)) else None)

abbrev pub is_entry : ℕ → Bool
is_entry stream = nat_lt 0 stream && nat_lt stream STREAM_ENTRIES

abbrev pub moved_on : LinesState → ℕ → Option Pipe → List ℕ
moved_on lines stream None = []
moved_on lines stream (Some on) = if is_entry stream then context_line on stream (context_of lines on stream) else []

-- the stream context that a command to the controller moved
abbrev pub moved_by : LinesState → Trb → List ℕ
moved_by lines (SetDequeue pointer cycle stream endpoint slot) = moved_on lines stream (pipe_at endpoint)
moved_by lines _ = []

abbrev pub moved_line : LinesState → Option (ℕ × Trb) → List ℕ
moved_line lines None = []
moved_line lines (Some front) = moved_by lines front.1

-- what a step wrote, but for its event
abbrev pub own_lines : LinesState → List TagBuffers → Writes → Option (List ℕ) → List ℕ
own_lines lines frames (writes.CommandUnit tag ends) event = submission_lines lines frames tag ends COMMAND_BYTES
own_lines lines frames (writes.TaskUnit tag ends) event = submission_lines lines frames tag ends TASK_BYTES
own_lines lines frames (writes.Chunk tag data_in data_out) event = if has_stream tag then chunk_lines lines tag data_in data_out else []
own_lines lines frames (writes.StatusUnit tag) event = if has_stream tag then unit_line frames tag buffer.Status (status_len event) else []
own_lines lines frames (writes.EngineCommand from) event = put_since lines put.Engine from
own_lines lines frames (writes.Context command) event = moved_line lines command
own_lines lines frames writes.Nothing event = []

-- the event that was posted, if one was
abbrev pub event_posted : LinesState → Option ℕ → Option (List ℕ)
event_posted lines None = None
event_posted lines (Some place) = event_at lines.events place

abbrev pub event_line : Option ℕ → Option (List ℕ) → List ℕ
event_line None event = []
event_line (Some place) event = image_line (codes "event") (EVENT_RING + 16 * place) event

abbrev pub with_bell : List ℕ → ℕ → List ℕ
with_bell text value = text ++ bell_line value

-- The text and the lines of what a step wrote: its own, unless it was refused, its event, and its doorbells in their order.
abbrev pub with_writes : List ℕ → Before → LinesState → List TagBuffers → Outcome → List ℕ
with_writes text before lines frames outcome =
    let posted = posted_at before lines in
    let event = event_posted lines posted in
    fold with_bell (text ++ (if is_none outcome.refused then own_lines lines frames before.writes event else []) ++ event_line posted event) outcome.doors
