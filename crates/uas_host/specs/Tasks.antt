-- A task management (SAM, ABORT TASK, LOGICAL UNIT RESET and QUERY TASK): what it changes, and when it is refused.
use Rattle.std.specs.Prelude.{ℕ, ◌+◌, nat_lt, true, false, Bool, if◌then◌else◌, List, [], ◌∷◌, ◌++◌, length, take, drop, Option, Some, None, is_some, slice_set}
use Rattle.std.specs.Option.{option_map_or}
use Rattle.arrayvec.specs.ArrayVec.{ArrayVec}
use Rattle.scsi_cmd.specs.declared.SubmitFault.{SubmitFault}
use Rattle.scsi_cmd.specs.declared.SubmitFault.TheVariants.{NotYours}
use Rattle.scsi_cmd.specs.declared.Task.{Task}
use Rattle.scsi_cmd.specs.declared.Task.TheVariants.{Abort, Reset, Query}
use Rattle.scsi_cmd.specs.Submission.{first_task_fault}
use Rattle.scsi_cmd.specs.Held.{held_at}
use Rattle.uas_iu.specs.declared.Iu.TheVariants.{Task as TaskUnit}
use Rattle.uas_iu.specs.Units.{unit_text}
use Rattle.uas_iu.specs.Lun.{lun_text}
use Rattle.frame_store.specs.declared.TagBuffers.{TagBuffers}
use Rattle.frame_store.specs.Buffers.{held_for, with_held}
use Rattle.uas_profile.specs.declared.TdState.TheVariants.{Pending}
use Rattle.uas_host.specs.declared.HostAnswer.TheVariants.{Unanswered}
use Rattle.scsi_cmd.specs.declared.Request.TheVariants.{Manage}
use Rattle.uas_host.specs.declared.HostEntry.{HostEntry}
use Rattle.uas_host.specs.declared.HostClient.{HostClient}
use Rattle.uas_host.specs.State.{HostState, client_of, with_client}
use Rattle.uas_profile.specs.Tags.{command_slot, slot_of, tag_of, task_slot}

-- the tag for task managements of a client. Worked: client 2's is 48 of 16 tags, and 24 of 8.
abbrev pub task_tag : ℕ → ℕ → ℕ
task_tag tags client = tag_of tags (record { client = client; slot = task_slot tags })

-- THE FAULTS

-- something is held in a slot
abbrev pub is_held_at : HostClient → ℕ → Bool
is_held_at held slot = is_some (held_at held.entries slot)

-- There is something to manage: for an abort and a query a command of this client on the tag, whoever's the tag is, that was submitted
-- and isn't yet taken. Worked: of three clients of 16 tags, client 2 can abort tag 34 while a command is on it, never tag 48 or 17 of
-- another's.
abbrev pub has_task : ℕ → ℕ → ℕ → HostClient → Task → Bool
has_task tags clients client held (Abort tag) = option_map_or (is_held_at held) (command_slot tags clients client tag) false
has_task tags clients client held Reset = true
has_task tags clients client held (Query tag) = option_map_or (is_held_at held) (command_slot tags clients client tag) false

-- the first fault of a task management of a client that is there
abbrev pub client_task_fault : ℕ → ℕ → ℕ → HostClient → ℕ → Task → Option SubmitFault
client_task_fault tags clients client held ticket task =
    first_task_fault true (is_held_at held (task_slot tags)) held.least_ticket ticket (has_task tags clients client held task)

-- the first fault of a task management, or none
abbrev pub task_fault : HostState → ℕ → ℕ → Task → Option SubmitFault
task_fault host client ticket task =
    if nat_lt client (length host.clients)
    then client_task_fault host.tags (length host.clients) client (client_of host client) ticket task
    else Some NotYours

-- THE HOST

-- the tickets of what is held, by rising slot
abbrev pub tickets_of : List (Option HostEntry) → List ℕ
tickets_of [] = []
tickets_of (None ∷ places) = tickets_of places
tickets_of (Some held ∷ places) = held.ticket ∷ tickets_of places

-- the tickets that a task management notes: an abort and a query that of the command on the tag, a reset those of all commands
-- of the client
abbrev pub noted_by : ℕ → HostClient → Task → List ℕ
noted_by tags held (Abort tag) = tickets_of (held_at held.entries (slot_of tags tag) ∷ [])
noted_by tags held Reset = tickets_of (take (task_slot tags) held.entries)
noted_by tags held (Query tag) = tickets_of (held_at held.entries (slot_of tags tag) ∷ [])

-- the entry of a task management that was just submitted
abbrev pub task_entry : ℕ → Task → ArrayVec ℕ → HostEntry
task_entry ticket task noted = record {
  ticket = ticket;
  request = Manage task noted;
  told = Unanswered;
  command_td = Pending;
  status_td = Pending;
  data_td = None;
}

-- a client with a task management under its task tag
abbrev pub managed_client : ℕ → HostClient → ℕ → Task → HostClient
managed_client tags held ticket task = record {
  entries = slice_set held.entries (task_slot tags) (Some (task_entry ticket task (record { items = noted_by tags held task })));
  least_ticket = ticket + 1;
  ready = held.ready;
}

-- the host after a task management of a client
abbrev pub managed : HostState → ℕ → ℕ → Task → HostState
managed host client ticket task = with_client host client (managed_client host.tags (client_of host client) ticket task)

-- THE BUFFERS

-- ABORT TASK is 01h, LOGICAL UNIT RESET 08h, QUERY TASK 80h
abbrev pub function_of : Task → ℕ
function_of (Abort tag) = 0x01
function_of Reset = 0x08
function_of (Query tag) = 0x80

-- a reset names no task
abbrev pub named_tag : Task → ℕ
named_tag (Abort tag) = tag
named_tag Reset = 0
named_tag (Query tag) = tag

-- The Task Management unit of a client. Worked: of 16 tags the abort of tag 34 by client 2 is 05 00 00 30 01 00 00 22 00 02 and six
-- zeros, the query of it 05 00 00 30 80 00 00 22 00 02 and six zeros.
abbrev pub task_text : ℕ → ℕ → Task → List ℕ
task_text tags client task = unit_text (TaskUnit (task_tag tags client) (function_of task) (named_tag task) (lun_text client))

-- the tag's command buffer begins with the unit
abbrev pub with_task_unit : ℕ → List TagBuffers → ℕ → Task → List TagBuffers
with_task_unit tags frames client task =
    with_held frames (task_tag tags client) (record (held_for frames (task_tag tags client)) {
      command = task_text tags client task ++ drop 16 (held_for frames (task_tag tags client)).command;
    })
