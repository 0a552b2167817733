-- What a driver tells, as the door has it.
use Rattle.std.specs.Prelude.{ℕ, ◌++◌, List, drop, length}
use Rattle.c_common.specs.Bytes.{yes}
use Rattle.bring_up.specs.Accesses.{stored_length}
use Rattle.bring_up.specs.declared.access.Access.{Access}
use Rattle.bring_up.specs.declared.access.Access.TheVariants.{Read32, Load, Write32, Store, Rest}
use Rattle.bring_up.specs.declared.access.Stored.{Stored}
use Rattle.bring_up.specs.declared.access.Stored.TheVariants.{Zeros, Four, Eight, Sixteen, ThirtyTwo}
use Rattle.disk_ready.specs.declared.shapes.ReadyDisk.{ReadyDisk}
use Rattle.block_requests.specs.declared.outcomes.Outcome.{Outcome}
use Rattle.block_requests.specs.declared.outcomes.Outcome.TheVariants as outcome
use Rattle.block_driver.specs.declared.replies.Reply.{Reply}
use Rattle.block_driver.specs.declared.replies.State.{State}
use Rattle.block_driver.specs.declared.replies.State.TheVariants as state
use Rattle.block_driver.specs.declared.table.Ending.{Ending}
use Rattle.block_driver.specs.declared.table.Ending.TheVariants as ending
use Rattle.uas_block_c.specs.declared.door.UasBlockDoor.{UasBlockDoor}
use Rattle.uas_block_c.specs.Numbers.{loss_number, row_number, why_number}

-- AN ACCESS: 1 reads a register, 2 loads, 3 writes a register, 4 stores, 5 stores zeros, 6 rests; where, how many bytes, and what is written

abbrev pub told_access : UasBlockDoor → ℕ → ℕ → ℕ → ℕ → UasBlockDoor
told_access door kind at length value = record door { kind = kind; at = at; length = length; value = value }

abbrev pub store_kind : Stored → ℕ
store_kind (Zeros count) = 5
store_kind (Four word) = 4
store_kind (Eight pair) = 4
store_kind (Sixteen trb) = 4
store_kind (ThirtyTwo unit) = 4

abbrev pub with_access : UasBlockDoor → Access → UasBlockDoor
with_access door (Read32 offset) = told_access door 1 offset 4 0
with_access door (Load at length) = told_access door 2 at length 0
with_access door (Write32 offset value) = told_access door 3 offset 4 value
with_access door (Store at bytes) = told_access door (store_kind bytes) at (stored_length bytes) 0
with_access door (Rest until) = told_access door 6 until 0 0

-- bytes at the front of others
abbrev pub front : List ℕ → List ℕ → List ℕ
front put bytes = put ++ drop (length put) bytes

-- the bytes that are stored stand at the front; zeros aren't written
abbrev pub stored_front : List ℕ → Stored → List ℕ
stored_front bytes (Zeros count) = bytes
stored_front bytes (Four word) = front word bytes
stored_front bytes (Eight pair) = front pair bytes
stored_front bytes (Sixteen trb) = front trb bytes
stored_front bytes (ThirtyTwo unit) = front unit bytes

abbrev pub with_stored : List ℕ → Access → List ℕ
with_stored bytes (Read32 offset) = bytes
with_stored bytes (Load at length) = bytes
with_stored bytes (Write32 offset value) = bytes
with_stored bytes (Store at stored) = stored_front bytes stored
with_stored bytes (Rest until) = bytes

-- A STATE: 1 surveying, 2 wants memory, 3 bringing up, 4 no device, 5 refused, 6 asking, 7 ready, 8 restarting, 9 shutting down, 10 stopped, 11 gone,
-- 12 dead

abbrev pub in_state : UasBlockDoor → ℕ → ℕ → ℕ → UasBlockDoor
in_state door kind code length = record door { kind = kind; code = code; length = length }

abbrev pub with_disk : UasBlockDoor → ℕ → ReadyDisk → UasBlockDoor
with_disk door number disk = record door {
  number = number;
  tag = disk.tags;
  blocks = disk.shape.blocks;
  block_bytes = disk.shape.block_bytes;
  most_blocks = disk.shape.most_blocks;
  most_unmap = disk.shape.most_unmap;
  can_unmap = yes disk.shape.can_unmap;
  has_fua = yes disk.shape.has_fua;
}

abbrev pub with_state : UasBlockDoor → State → UasBlockDoor
with_state door state.Surveying = in_state door 1 0 0
with_state door (state.WantsMemory bytes) = in_state door 2 0 bytes
with_state door (state.BringingUp row) = in_state door 3 (row_number row) 0
with_state door state.NoDevice = in_state door 4 0 0
with_state door (state.Refused why) = in_state door 5 (why_number why) 0
with_state door state.Asking = in_state door 6 0 0
with_state door (state.Ready number disk) = in_state (with_disk door number disk) 7 0 0
with_state door state.Restarting = in_state door 8 0 0
with_state door state.ShuttingDown = in_state door 9 0 0
with_state door state.Stopped = in_state door 10 0 0
with_state door state.Gone = in_state door 11 0 0
with_state door state.Dead = in_state door 12 0 0

-- A REPLY: 1 GOOD, 2 GOOD but short, 3 another status, with its sense at the front, 4 a response, 5 aborted, 6 lost

abbrev pub with_ending : UasBlockDoor → ℕ → ℕ → ℕ → UasBlockDoor
with_ending door kind code sense = record door { kind = kind; code = code; value = sense }

abbrev pub with_outcome : UasBlockDoor → List ℕ → Outcome → UasBlockDoor × List ℕ
with_outcome door bytes outcome.Good = (with_ending door 1 0 0, bytes)
with_outcome door bytes outcome.Short = (with_ending door 2 0 0, bytes)
with_outcome door bytes (outcome.Status status sense) = (with_ending door 3 status (length sense.items), front sense.items bytes)
with_outcome door bytes (outcome.Response code) = (with_ending door 4 code 0, bytes)

abbrev pub after_ending : UasBlockDoor → List ℕ → Ending → UasBlockDoor × List ℕ
after_ending door bytes (ending.Told outcome) = with_outcome door bytes outcome
after_ending door bytes (ending.Lost loss) = (with_ending door 6 (loss_number loss) 0, bytes)
after_ending door bytes ending.Aborted = (with_ending door 5 0 0, bytes)

abbrev pub with_reply : UasBlockDoor → List ℕ → Reply → UasBlockDoor × List ℕ
with_reply door bytes reply =
    after_ending (record door { good = 1; tag = reply.tag; number = reply.mark; length = reply.moved }) bytes reply.ending
