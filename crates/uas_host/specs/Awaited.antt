-- Which events the host waits for (xHCI 4.11.3 and 6.4.2): four conditions. An event that fails one of them is stray.
use Rattle.std.specs.Prelude.{◌≡◌, ℕ, ◌-◌, ◌≤◌, false, if◌then◌else◌, List, take, Option, None, Some}
use Rattle.xhci_trb.specs.declared.Trb.{Trb}
use Rattle.xhci_trb.specs.declared.Trb.TheVariants.{Normal}
use Rattle.xhci_trb.specs.Text.{has_chain}
use Rattle.cycle_ring.specs.Items.{known_consumed_at}
use Rattle.event_ring.specs.declared.Event.{Event}
use Rattle.event_ring.specs.declared.Event.TheVariants.{Transfer, Command as CommandCompletion}
use Rattle.uas_profile.specs.declared.Pipe.{Pipe}
use Rattle.uas_profile.specs.declared.Pipe.TheVariants.{Command, Status, DataIn, DataOut}
use Rattle.uas_profile.specs.declared.TdState.{TdState}
use Rattle.uas_profile.specs.declared.TdState.TheVariants.{Pending}
use Rattle.uas_profile.specs.declared.TheConstants.{STREAMS, ENGINE_RING_PLACES, STATUS_BYTES, SUCCESS, SHORT_PACKET}
use Rattle.stream_array.specs.Map.{places_of, spot_at}
use Rattle.stream_array.specs.Rings.{LinesState, ring_of}
use Rattle.frame_store.specs.declared.TagBuffers.{TagBuffers}
use Rattle.frame_store.specs.Buffers.{held_for}
use Rattle.scsi_cmd.specs.declared.Request.{Request}
use Rattle.scsi_cmd.specs.declared.Request.TheVariants.{Execute, Manage}
use Rattle.scsi_cmd.specs.Request.{request_direction}
use Rattle.uas_iu.specs.Faults.{first_fault, identifier}
use Rattle.uas_iu.specs.Heads.{tag_told}
use Rattle.uas_host.specs.declared.HostEntry.{HostEntry}
use Rattle.uas_host.specs.declared.Retirement.{Retirement}
use Rattle.uas_host.specs.Events.{Sides}
use Rattle.uas_host.specs.Seen.{goes_to_device, goes_to_host, held_of}
use Rattle.uas_host.specs.Tds.{command_buffer_of}

-- THE TD THAT ENDS AT AN ADDRESS

-- the TRB names the command buffer of this tag
abbrev pub NamesCommand : Trb → ℕ → Type 0
NamesCommand (Normal pointer length td_size flags) tag = (1 ≤ tag) × (tag ≤ STREAMS) × (pointer ≡ command_buffer_of tag)
NamesCommand _ tag = ⊥

-- the tag whose TD a TRB is of: on a pipe with streams the stream's number, on the command pipe that of the buffer that it names
abbrev pub IsOfTag : Pipe → ℕ → Trb → ℕ → Type 0
IsOfTag Command stream trb tag = NamesCommand trb tag
IsOfTag pipe stream trb tag = tag ≡ stream

-- The last TRB of a consumed TD of this tag on this pipe is at this address: the address is a place of the pipe's ring, and its
-- TRB is consumed, not reclaimed, and hasn't CH.
pub record EndsAt (lines : LinesState) (pointer : ℕ) (pipe : Pipe) (tag : ℕ) : Type 0 where
  pub stream : ℕ
  pub place : ℕ
  pub trb : Trb
  pub ring : spot_at pointer ≡ Some (pipe, stream, place)
  pub consumed : known_consumed_at (places_of pipe) (ring_of lines pipe stream) pointer ≡ Some trb
  pub last : has_chain trb ≡ false
  pub names : IsOfTag pipe stream trb tag

-- the TD that an entry has on a pipe; its data TD is on the pipe of its direction
abbrev pub td_on : Pipe → HostEntry → Option TdState
td_on Command held = Some held.command_td
td_on Status held = Some held.status_td
td_on DataIn held = if goes_to_host (request_direction held.request) then held.data_td else None
td_on DataOut held = if goes_to_device (request_direction held.request) then held.data_td else None

-- CODE AND UNIT

-- Success, 1; of a status, whose unit is shorter than its buffer, Short Packet, 13
abbrev pub code_of : Pipe → ℕ
code_of Status = SHORT_PACKET
code_of pipe = SUCCESS

-- a command is answered by a Sense unit, 03h, a task management by a Response unit, 04h
abbrev pub answer_id : Request → ℕ
answer_id (Execute op) = 3
answer_id (Manage task noted) = 4

-- the bytes are a unit of this kind and this tag
pub record IsUnitOf (id tag : ℕ) (bytes : List ℕ) : Type 0 where
  pub sound : first_fault bytes ≡ None
  pub kind : identifier bytes ≡ id
  pub under : tag_told bytes ≡ tag

-- the bytes that were written of a tag's status buffer: the first 112 less the residual, above 112 none
abbrev pub written_of : List TagBuffers → ℕ → ℕ → List ℕ
written_of frames residual tag = take (STATUS_BYTES - residual) (held_for frames tag).status

-- the event of a status brings the answer to the request; no other pipe brings a unit
abbrev pub BringsAnswer : Pipe → Request → ℕ → List ℕ → Type 0
BringsAnswer Status request tag written = IsUnitOf (answer_id request) tag written
BringsAnswer pipe request tag written = Unit {0}

-- THE CONDITIONS

-- A transfer event of a TD that the host waits for, by its pointer, its residual and its code.
pub record IsTdAwaited (sides : Sides) (frames : List TagBuffers) (pointer residual code : ℕ) (pipe : Pipe) (tag : ℕ) : Type 0 where
  pub ends : EndsAt sides.lines pointer pipe tag
  pub held : HostEntry
  pub under : held_of sides.host tag ≡ Some held
  -- neither seen, left over nor retired
  pub waits : td_on pipe held ≡ Some Pending
  pub succeeds : code ≡ code_of pipe
  pub answers : BringsAnswer pipe held.request tag (written_of frames residual tag)

-- A completion of the engine command under way, by its pointer and its code.
pub record IsEngineAwaited (sides : Sides) (pointer code : ℕ) : Type 0 where
  pub retirement : Retirement
  pub under_way : sides.host.retirement ≡ Some retirement
  pub trb : Trb
  pub consumed : known_consumed_at ENGINE_RING_PLACES sides.lines.engine pointer ≡ Some trb
  pub succeeds : code ≡ SUCCESS

-- The event is of a TD of this tag that the host waits for. Its kind is that of its pointer's ring: only transfer events are of
-- the pipes' rings. Neither endpoint nor slot is read.
abbrev pub IsOfTd : Sides → List TagBuffers → Event → ℕ → Type 0
IsOfTd sides frames (Transfer pointer residual code endpoint slot) tag = (pipe : Pipe) × IsTdAwaited sides frames pointer residual code pipe tag
IsOfTd sides frames (CommandCompletion pointer code slot) tag = ⊥

-- The event is of the engine command under way: only command completions are of the controller's command ring.
abbrev pub IsOfEngine : Sides → Event → Type 0
IsOfEngine sides (Transfer pointer residual code endpoint slot) = ⊥
IsOfEngine sides (CommandCompletion pointer code slot) = IsEngineAwaited sides pointer code

-- the event is of nothing that the host waits for
pub record IsOfNothing (sides : Sides) (frames : List TagBuffers) (event : Event) : Type 0 where
  pub td : (tag : ℕ) → IsOfTd sides frames event tag → ⊥
  pub engine : IsOfEngine sides event → ⊥
