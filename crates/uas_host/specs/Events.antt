-- An event (xHCI 4.11.3): which TD it is of, what it tells, and what the host makes of it.
use Rattle.std.specs.Prelude.{◌≡◌, ℕ, zero, suc, ◌+◌, ◌-◌, ◌*◌, ◌/◌, ◌%◌, ◌≤◌, ◌==◌, nat_lt, nat_le, not, Bool, true, false, ◌&&◌, if◌then◌else◌, List, []}
use Rattle.std.specs.Prelude.{◌∷◌, length, take, drop, slice_index, Option, Some, None, is_none, is_some, option_map, option_and_then}
use Rattle.std.specs.Option.{option_map_or}
use Rattle.xhci_trb.specs.declared.Trb.{Trb}
use Rattle.xhci_trb.specs.declared.Trb.TheVariants.{Normal, Link, StopEndpoint, SetDequeue, TransferEvent, CommandEvent}
use Rattle.xhci_trb.specs.Text.{has_chain}
use Rattle.cycle_ring.specs.Ring.{IsConsumed, item_at, reclaimed}
use Rattle.cycle_ring.specs.Items.{Item, foreign, known, known_consumed_at}
use Rattle.event_ring.specs.declared.Event.{Event}
use Rattle.event_ring.specs.declared.Event.TheVariants.{Transfer, Command as CommandCompletion}
use Rattle.uas_profile.specs.declared.Pipe.{Pipe}
use Rattle.uas_profile.specs.declared.Pipe.TheVariants.{Command, Status, DataIn, DataOut}
use Rattle.uas_profile.specs.declared.TheConstants.{STREAMS, ENGINE_RING_PLACES, STATUS_BYTES, COMMAND_BUFFERS, BUFFER_SPAN, SUCCESS, SHORT_PACKET}
use Rattle.stream_array.specs.Map.{place_address, places_of, spot_at}
use Rattle.stream_array.specs.Rings.{LinesState, ring_of, with_ring}
use Rattle.frame_store.specs.declared.TagBuffers.{TagBuffers}
use Rattle.frame_store.specs.Buffers.{held_for}
use Rattle.uas_iu.specs.declared.Iu.{Iu}
use Rattle.uas_iu.specs.declared.Iu.TheVariants.{Command as CommandUnit, Sense as SenseUnit, Response as ResponseUnit, Task as TaskUnit}
use Rattle.uas_iu.specs.Faults.{first_fault, identifier}
use Rattle.uas_host.specs.declared.Handled.{Handled}
use Rattle.uas_host.specs.declared.Handled.TheVariants.{Engine, Matched, Stray}
use Rattle.uas_host.specs.declared.EndedTd.{EndedTd}
use Rattle.uas_host.specs.Notices.{Notice, CommandSeen, DataInSeen, DataOutSeen, Answered, Responded}
use Rattle.uas_host.specs.declared.Retirement.{Retirement}
use Rattle.uas_host.specs.declared.RetirementStage.{RetirementStage}
use Rattle.uas_host.specs.declared.RetirementStage.TheVariants.{Stopping, Moving}
use Rattle.uas_profile.specs.TdStates.{is_pending}
use Rattle.uas_host.specs.State.{HostState}
use Rattle.uas_host.specs.Retirement.{moved_lines, resumed_doors, retired_host, stopped_lines, with_retirement}
pub use Rattle.uas_host.specs.Seen.{after_response, client_seen, completes, data_after, doomed, entries_after, goes_to_device, goes_to_host, held_of}
pub use Rattle.uas_host.specs.Seen.{host_seen, is_data_left_over, is_doomed, is_td_left_over, left_over_data, left_over_td, ended_in, place_seen, seen}
pub use Rattle.uas_host.specs.Seen.{seen_data, with_retired, with_seen}

-- WHICH TD

abbrev pub is_tag : ℕ → Bool
is_tag tag = nat_lt 0 tag && nat_le tag STREAMS

-- the tag at whose command buffer an address is. Worked: 10002200h is tag 34's, and 10002201h is none's.
abbrev pub tag_at_buffer : ℕ → Option ℕ
tag_at_buffer pointer =
    if nat_lt pointer COMMAND_BUFFERS then None
    else (if not ((pointer - COMMAND_BUFFERS) % BUFFER_SPAN == 0) then None
    else (if is_tag ((pointer - COMMAND_BUFFERS) / BUFFER_SPAN) then Some ((pointer - COMMAND_BUFFERS) / BUFFER_SPAN) else None))

-- the tag whose command buffer a TRB of the command pipe names
abbrev pub command_tag : Trb → Option ℕ
command_tag (Normal pointer length td_size flags) = tag_at_buffer pointer
command_tag (Link pointer toggle chain ioc) = None
command_tag (StopEndpoint endpoint slot) = None
command_tag (SetDequeue pointer cycle stream endpoint slot) = None
command_tag (TransferEvent pointer residual code endpoint slot) = None
command_tag (CommandEvent pointer code slot) = None

-- the tag of a TRB on a ring: on a pipe with streams the stream's number
abbrev pub trb_tag : Pipe → ℕ → Trb → Option ℕ
trb_tag Command stream trb = command_tag trb
trb_tag Status stream trb = Some stream
trb_tag DataIn stream trb = Some stream
trb_tag DataOut stream trb = Some stream

-- the TD that a TRB ends: one with CH ends none
abbrev pub ended_td : Pipe → ℕ → Trb → Option EndedTd
ended_td pipe stream trb = if has_chain trb then None else option_map (λ tag. record { pipe = pipe; tag = tag }) (trb_tag pipe stream trb)

-- the TD whose last TRB, consumed and not reclaimed, is at this address
abbrev pub ended_on : LinesState → ℕ → Pipe × ℕ × ℕ → Option EndedTd
ended_on lines pointer at = option_and_then (ended_td at.0 at.1) (known_consumed_at (places_of at.0) (ring_of lines at.0 at.1) pointer)

abbrev pub ended_at : LinesState → ℕ → Option EndedTd
ended_at lines pointer = option_and_then (ended_on lines pointer) (spot_at pointer)

-- WHAT THE EVENT TELLS

-- the bytes are a Sense unit of this tag
abbrev pub is_sense_of : ℕ → List ℕ → Bool
is_sense_of tag bytes = is_none (first_fault bytes) && ((identifier bytes == 3) && (slice_index bytes 2 * 256 + slice_index bytes 3 == tag))

-- the bytes are a Response unit of this tag
abbrev pub is_response_of : ℕ → List ℕ → Bool
is_response_of tag bytes = is_none (first_fault bytes) && ((identifier bytes == 4) && (slice_index bytes 2 * 256 + slice_index bytes 3 == tag))

-- the answer that a unit tells, if it is a Sense or a Response unit of this tag
abbrev pub answer_by : ℕ → Iu → Option Notice
answer_by tag (CommandUnit told_tag lun cdb) = None
answer_by tag (SenseUnit told_tag status sense) = if told_tag == tag then Some (Answered status sense) else None
answer_by tag (ResponseUnit told_tag code) = if told_tag == tag then Some (Responded code) else None
answer_by tag (TaskUnit told_tag function task_tag lun) = None

-- the code that a Response unit tells, byte 7. Worked: 04 00 00 30 00 00 00 00 tells 00h of tag 48.
abbrev pub response_of : ℕ → List ℕ → Option Notice
response_of tag bytes = if is_response_of tag bytes then Some (Responded (slice_index bytes 7)) else None

-- the status and the sense that a Sense unit tells: byte 6, and the bytes from 16 on
abbrev pub answer_in : ℕ → List ℕ → Option Notice
answer_in tag bytes =
    if is_sense_of tag bytes then Some (Answered (slice_index bytes 6) (record { items = drop 16 bytes })) else response_of tag bytes

-- the code is Success (xHCI 6.4.5)
abbrev pub succeeded : ℕ → Notice → Option Notice
succeeded code notice = if code == SUCCESS then Some notice else None

-- what an event of a TD tells, by its code and the bytes that were written of its status buffer
abbrev pub told_on : Pipe → List ℕ → ℕ → ℕ → Option Notice
told_on Command unit code tag = succeeded code CommandSeen
told_on Status unit code tag = if code == SHORT_PACKET then answer_in tag unit else None
told_on DataIn unit code tag = succeeded code DataInSeen
told_on DataOut unit code tag = succeeded code DataOutSeen

-- What an event of a TD tells, by its residual and its code. A status TD has the bytes of a status buffer, of which the residual
-- weren't written. Worked: of 112 bytes, residual 96 leaves the first 16 of the status buffer; above 112 none is left.
abbrev pub notice_on : Pipe → List TagBuffers → ℕ → ℕ → ℕ → Option Notice
notice_on pipe frames residual code tag = told_on pipe (take (STATUS_BYTES - residual) (held_for frames tag).status) code tag

abbrev pub notice_of : List TagBuffers → ℕ → ℕ → EndedTd → Option Notice
notice_of frames residual code td = notice_on td.pipe frames residual code td.tag

-- WHICH TRBS ARE FREE AGAIN

-- the host waits for the event of the command TD of this tag
abbrev pub awaits_command : HostState → ℕ → Bool
awaits_command host tag = option_map_or (λ held. is_pending held.command_td) (held_of host tag) false

abbrev pub is_awaited : HostState → Trb → Bool
is_awaited host trb = option_map_or (awaits_command host) (command_tag trb) false

-- how many of these items of the command pipe are TRBs before the first whose event the host waits for; foreign bytes, which no host puts
-- there, end them
abbrev pub done_before : HostState → List Item → ℕ
done_before host [] = 0
done_before host (known trb ∷ rest) = if is_awaited host trb then 0 else suc (done_before host rest)
done_before host (foreign bytes ∷ rest) = 0

-- so many TRBs of the command pipe are freed
abbrev pub with_commands_freed : LinesState → ℕ → LinesState
with_commands_freed lines zero = lines
with_commands_freed lines (suc more) = with_ring lines Command 0 (reclaimed (places_of Command) (suc more) lines.command)

abbrev pub commands_freed : HostState → LinesState → LinesState
commands_freed host lines = with_commands_freed lines (done_before host (take lines.command.got lines.command.put))

-- the TRBs of a stream's ring are freed up to and with this one
abbrev pub with_freed : LinesState → Pipe → ℕ → Option ℕ → LinesState
with_freed lines pipe stream None = lines
with_freed lines pipe stream (Some item) = with_ring lines pipe stream (reclaimed (places_of pipe) (item + 1) (ring_of lines pipe stream))

abbrev pub stream_freed : LinesState → Pipe → ℕ → ℕ → LinesState
stream_freed lines pipe stream pointer = with_freed lines pipe stream (item_at (places_of pipe) (ring_of lines pipe stream) pointer)

-- The rings once the event of a TD was seen. An event out of order frees no TRB of the command pipe that the host still
-- waits for, nor any behind it.
abbrev pub freed_on : Pipe → HostState → LinesState → ℕ → ℕ → LinesState
freed_on Command host lines tag pointer = commands_freed host lines
freed_on Status host lines tag pointer = stream_freed lines Status tag pointer
freed_on DataIn host lines tag pointer = stream_freed lines DataIn tag pointer
freed_on DataOut host lines tag pointer = stream_freed lines DataOut tag pointer

-- ALL TOGETHER

-- what an event may change
pub record Sides : Type 0 where
  pub host : HostState
  pub lines : LinesState

abbrev pub handled_seen : Sides → ℕ → EndedTd → Option HostState → Sides × Handled
handled_seen sides pointer td None = (sides, Stray)
handled_seen sides pointer td (Some host) = (record { host = host; lines = freed_on td.pipe host sides.lines td.tag pointer }, Matched td.tag)

abbrev pub handled_notice : Sides → ℕ → EndedTd → Option Notice → Sides × Handled
handled_notice sides pointer td None = (sides, Stray)
handled_notice sides pointer td (Some notice) = handled_seen sides pointer td (host_seen notice sides.host td.tag)

abbrev pub handled_td : Sides → List TagBuffers → ℕ → ℕ → ℕ → Option EndedTd → Sides × Handled
handled_td sides frames pointer residual code None = (sides, Stray)
handled_td sides frames pointer residual code (Some td) = handled_notice sides pointer td (notice_of frames residual code td)

-- the engine's command under way is done: it is consumed, at this address, and its code is 1
abbrev pub is_engine_done : LinesState → ℕ → ℕ → Bool
is_engine_done lines pointer code = is_some (known_consumed_at ENGINE_RING_PLACES lines.engine pointer) && (code == SUCCESS)

-- Stop Endpoint is done: Set TR Dequeue Pointer follows it
abbrev pub handled_stop : Sides → ℕ → Retirement → Sides
handled_stop sides pointer retirement = record {
  host = with_retirement sides.host (record retirement { stage = Moving });
  lines = stopped_lines sides.host.tags sides.lines pointer retirement;
}

-- Set TR Dequeue Pointer is done: the TD is retired
abbrev pub handled_move : Sides → ℕ → Retirement → Sides
handled_move sides pointer retirement =
    record { host = retired_host sides.host retirement; lines = moved_lines sides.host.tags sides.lines pointer retirement }

abbrev pub handled_stage : Sides → ℕ → Retirement → RetirementStage → Sides
handled_stage sides pointer retirement Stopping = handled_stop sides pointer retirement
handled_stage sides pointer retirement Moving = handled_move sides pointer retirement

abbrev pub handled_engine : Sides → ℕ → Bool → Option Retirement → Sides × Handled
handled_engine sides pointer false retirement = (sides, Stray)
handled_engine sides pointer true None = (sides, Stray)
handled_engine sides pointer true (Some retirement) = (handled_stage sides pointer retirement retirement.stage, Engine)

-- What the host makes of an event. Neither endpoint nor slot is read.
abbrev pub handled : Sides → List TagBuffers → Event → Sides × Handled
handled sides frames (Transfer pointer residual code endpoint slot) = handled_td sides frames pointer residual code (ended_at sides.lines pointer)
handled sides frames (CommandCompletion pointer code slot) =
    handled_engine sides pointer (is_engine_done sides.lines pointer code) sides.host.retirement

-- THE DOORBELLS: the engine's, and at the end of a retirement those of the pipe's streams with pending TRBs

abbrev pub stage_doors : ℕ → LinesState → ℕ → Retirement → RetirementStage → List ℕ
stage_doors tags lines pointer retirement Stopping = 0 ∷ []
stage_doors tags lines pointer retirement Moving = resumed_doors (moved_lines tags lines pointer retirement) retirement.pipe

abbrev pub engine_doors : ℕ → LinesState → ℕ → Bool → Option Retirement → List ℕ
engine_doors tags lines pointer false retirement = []
engine_doors tags lines pointer true None = []
engine_doors tags lines pointer true (Some retirement) = stage_doors tags lines pointer retirement retirement.stage

abbrev pub event_doors : Sides → Event → List ℕ
event_doors sides (Transfer pointer residual code endpoint slot) = []
event_doors sides (CommandCompletion pointer code slot) =
    engine_doors sides.host.tags sides.lines pointer (is_engine_done sides.lines pointer code) sides.host.retirement

-- What is known of a TD whose last TRB is at an address: its tag is one, and on a pipe with streams its ring has that TRB.
abbrev pub IsConsumedAt : LinesState → Pipe → ℕ → ℕ → Type 0
IsConsumedAt lines pipe stream pointer =
    (item : ℕ) × (item_at (places_of pipe) (ring_of lines pipe stream) pointer ≡ Some item)
    × IsConsumed (places_of pipe) (ring_of lines pipe stream) item pointer

abbrev pub IsEndedOn : Pipe → LinesState → ℕ → ℕ → Type 0
IsEndedOn Command lines tag pointer = Unit {0}
IsEndedOn Status lines tag pointer = IsConsumedAt lines Status tag pointer
IsEndedOn DataIn lines tag pointer = IsConsumedAt lines DataIn tag pointer
IsEndedOn DataOut lines tag pointer = IsConsumedAt lines DataOut tag pointer

pub record IsEnded (lines : LinesState) (pointer : ℕ) (td : EndedTd) : Type 0 where
  pub first_tag : 1 ≤ td.tag
  pub last_tag : td.tag ≤ STREAMS
  pub consumed : IsEndedOn td.pipe lines td.tag pointer

-- The same with the place of that TRB. On a pipe with streams the address is that of this place of the tag's ring.
abbrev pub IsPlaceOn : Pipe → ℕ → ℕ → ℕ → Type 0
IsPlaceOn Command tag pointer place = Unit {0}
IsPlaceOn Status tag pointer place = pointer ≡ place_address Status tag place
IsPlaceOn DataIn tag pointer place = pointer ≡ place_address DataIn tag place
IsPlaceOn DataOut tag pointer place = pointer ≡ place_address DataOut tag place

pub record IsEndedIn (lines : LinesState) (pointer place : ℕ) (td : EndedTd) : Type 0 where
  pub ended : IsEnded lines pointer td
  pub at : IsPlaceOn td.pipe td.tag pointer place
