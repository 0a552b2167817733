-- The TDs of a command as TRBs (xHCI 4.11 and 6.4.1.1), and the rings that they are put on.
use Rattle.std.specs.Prelude.{ℕ, zero, suc, ◌+◌, ◌-◌, ◌*◌, ◌/◌, ◌<◌, ◌≤◌, min, List, [], ◌∷◌, ◌++◌, length, map}
use Rattle.uas_profile.specs.declared.TheConstants.{CHUNK_BYTES, COMMAND_BYTES, STATUS_BYTES, WINDOW_BYTES, COMMAND_BUFFERS, STATUS_BUFFERS, BUFFER_SPAN, WINDOWS, WINDOW_SPAN}
use Rattle.xhci_trb.specs.declared.Trb.{Trb}
use Rattle.xhci_trb.specs.declared.Trb.TheVariants.{Normal}
use Rattle.xhci_trb.specs.declared.TrbFlags.{TrbFlags}
use Rattle.scsi_cmd.specs.declared.Op.{Op}
use Rattle.uas_profile.specs.declared.Direction.{Direction}
use Rattle.uas_profile.specs.declared.Direction.TheVariants.{Nothing, ToHost, ToDevice}
use Rattle.scsi_cmd.specs.Op.{moved_bytes, direction_of}
use Rattle.uas_profile.specs.declared.Pipe.{Pipe}
use Rattle.uas_profile.specs.declared.Pipe.TheVariants.{Command, Status, DataIn, DataOut}
use Rattle.cycle_ring.specs.Items.{known}
use Rattle.stream_array.specs.Map.{places_of}
use Rattle.stream_array.specs.Rings.{LinesState, ring_of, with_ring}

-- WHERE A TAG'S BYTES LIE. Worked: tag 18 has its window at 100120000h, its status buffer at 20001200h and its command
-- buffer at 10001200h.
abbrev pub window_of : ℕ → ℕ
window_of tag = WINDOWS + WINDOW_SPAN * tag

abbrev pub status_buffer_of : ℕ → ℕ
status_buffer_of tag = STATUS_BUFFERS + BUFFER_SPAN * tag

abbrev pub command_buffer_of : ℕ → ℕ
command_buffer_of tag = COMMAND_BUFFERS + BUFFER_SPAN * tag

-- FLAGS: ISP is 2, CH is 8, IOC is 16

-- of a data TRB with so many more of its TD behind it
abbrev pub data_flags : ℕ → TrbFlags
data_flags zero = record { 0 = 16 }
data_flags (suc more) = record { 0 = 8 }

-- TRBS

-- TD Size: how many packets of 1,024 bytes these bytes make, at most 31. Worked: 1,025 bytes are 2 packets, and
-- 61,440 bytes, 60 packets, give 31.
abbrev pub packets_left : ℕ → ℕ
packets_left bytes = min 31 ((bytes + 1023) / 1024)

-- The data TRB at this address, with so many bytes of the TD left from it on, and so many more TRBs behind it. Worked:
-- the first of 65,536 bytes has length 4,096, TD Size 31 and CH; one for 36 bytes has length 36, TD Size 0 and IOC.
abbrev pub data_trb : ℕ → ℕ → ℕ → Trb
data_trb pointer left more = Normal pointer (min CHUNK_BYTES left) (packets_left (left - CHUNK_BYTES)) (data_flags more)

-- so many TRBs from this address on, for the bytes that are left
abbrev pub data_trbs : ℕ → ℕ → ℕ → List Trb
data_trbs zero pointer left = []
data_trbs (suc more) pointer left = data_trb pointer left more ∷ data_trbs more (pointer + CHUNK_BYTES) (left - CHUNK_BYTES)

-- how many TRBs so many bytes take. Worked: 4,096 bytes take one and 4,097 two.
abbrev pub data_trb_count : ℕ → ℕ
data_trb_count bytes = (bytes + (CHUNK_BYTES - 1)) / CHUNK_BYTES

-- the data TD of a tag's command that moves so many bytes
abbrev pub data_td : ℕ → ℕ → List Trb
data_td tag bytes = data_trbs (data_trb_count bytes) (window_of tag) bytes

-- a status TRB has room for the longest unit, with ISP and IOC
abbrev pub status_td : ℕ → List Trb
status_td tag = Normal (status_buffer_of tag) STATUS_BYTES 0 (record { 0 = 18 }) ∷ []

-- a command TRB has the bytes of a Command unit, with IOC
abbrev pub command_td : ℕ → List Trb
command_td tag = Normal (command_buffer_of tag) COMMAND_BYTES 0 (record { 0 = 16 }) ∷ []

-- the command TRB of a task management has the 16 bytes of its unit, with IOC
abbrev pub task_td : ℕ → List Trb
task_td tag = Normal (command_buffer_of tag) 16 0 (record { 0 = 16 }) ∷ []

-- RINGS

-- these TRBs are put on a ring
abbrev pub put_on : LinesState → Pipe → ℕ → List Trb → LinesState
put_on lines pipe stream trbs =
    with_ring lines pipe stream (record (ring_of lines pipe stream) { put = (ring_of lines pipe stream).put ++ map known trbs })

-- the data TD of a tag on the pipe of its direction, where bytes move
abbrev pub with_data_td : LinesState → Direction → ℕ → ℕ → LinesState
with_data_td lines Nothing tag bytes = lines
with_data_td lines ToHost tag bytes = put_on lines DataIn tag (data_td tag bytes)
with_data_td lines ToDevice tag bytes = put_on lines DataOut tag (data_td tag bytes)

-- all TDs of a command: data, status, command
abbrev pub pushed : LinesState → ℕ → Op → LinesState
pushed lines tag op =
    put_on (put_on (with_data_td lines (direction_of op) tag (moved_bytes op)) Status tag (status_td tag)) Command 0 (command_td tag)

-- both TDs of a task management: status, command
abbrev pub pushed_task : LinesState → ℕ → LinesState
pushed_task lines tag = put_on (put_on lines Status tag (status_td tag)) Command 0 (task_td tag)

-- ROOM

-- a ring has room for so many TRBs; two of its places are never filled
abbrev pub HasRoom : LinesState → Pipe → ℕ → ℕ → Type 0
HasRoom lines pipe stream count = length (ring_of lines pipe stream).put + count ≤ places_of pipe - 2

abbrev pub HasDataRoom : LinesState → Direction → ℕ → ℕ → Type 0
HasDataRoom lines Nothing tag bytes = Unit {0}
HasDataRoom lines ToHost tag bytes = HasRoom lines DataIn tag (data_trb_count bytes)
HasDataRoom lines ToDevice tag bytes = HasRoom lines DataOut tag (data_trb_count bytes)

-- the three rings have room for the TDs of a command
pub record HasTdRoom (lines : LinesState) (tag : ℕ) (op : Op) : Type 0 where
  pub on_data : HasDataRoom lines (direction_of op) tag (moved_bytes op)
  pub on_status : HasRoom lines Status tag 1
  pub on_command : HasRoom lines Command 0 1

-- the two rings have room for the TDs of a task management
pub record HasTaskRoom (lines : LinesState) (tag : ℕ) : Type 0 where
  pub on_status : HasRoom lines Status tag 1
  pub on_command : HasRoom lines Command 0 1

-- a TD that is put on a data pipe has 1 to 65,536 bytes
abbrev pub IsOnData : Direction → ℕ → Type 0
IsOnData Nothing bytes = Unit {0}
IsOnData ToHost bytes = (0 < bytes) × (bytes ≤ WINDOW_BYTES)
IsOnData ToDevice bytes = (0 < bytes) × (bytes ≤ WINDOW_BYTES)
