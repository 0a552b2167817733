-- A submission: what it changes, and when it is refused.
use Rattle.std.specs.Prelude.{◌≡◌, ℕ, ◌+◌, ◌==◌, true, if◌then◌else◌, List, length, Option, Some, None, is_some, slice_set}
use Rattle.scsi_cmd.specs.declared.Command.{Command}
use Rattle.scsi_cmd.specs.declared.Op.{Op}
use Rattle.scsi_cmd.specs.declared.SubmitFault.{SubmitFault}
use Rattle.scsi_cmd.specs.declared.SubmitFault.TheVariants.{NotYours}
use Rattle.scsi_cmd.specs.Op.{cdb_bytes, moved_bytes}
use Rattle.scsi_cmd.specs.Submission.{first_submit_fault}
use Rattle.scsi_cmd.specs.Held.{held_at}
use Rattle.uas_iu.specs.declared.Iu.TheVariants.{Command as CommandUnit}
use Rattle.uas_iu.specs.Units.{unit_text}
use Rattle.uas_iu.specs.Lun.{lun_text}
use Rattle.frame_store.specs.declared.TagBuffers.{TagBuffers}
use Rattle.frame_store.specs.Buffers.{held_for, with_held}
use Rattle.stream_array.specs.Rings.{LinesState}
use Rattle.uas_profile.specs.declared.TdState.{TdState}
use Rattle.uas_profile.specs.declared.TdState.TheVariants.{Pending}
use Rattle.uas_host.specs.declared.HostAnswer.TheVariants.{Unanswered}
use Rattle.scsi_cmd.specs.declared.Request.TheVariants.{Execute}
use Rattle.uas_host.specs.declared.HostEntry.{HostEntry}
use Rattle.uas_host.specs.declared.HostClient.{HostClient}
use Rattle.uas_host.specs.State.{HostState, client_of, with_client}
use Rattle.uas_profile.specs.Tags.{command_slot, slot_of}
use Rattle.uas_host.specs.Tds.{HasTdRoom}

-- THE FAULTS

-- the first fault of a submission under a command slot of the client, or under none of its own
abbrev pub fault_at : HostClient → ℕ → Command → Option ℕ → Option SubmitFault
fault_at held ticket command None = Some NotYours
fault_at held ticket command (Some slot) = first_submit_fault true (is_some (held_at held.entries slot)) held.least_ticket ticket command

-- the first fault of a submission, or none
abbrev pub host_fault : HostState → ℕ → ℕ → ℕ → Command → Option SubmitFault
host_fault host client tag ticket command = fault_at (client_of host client) ticket command (command_slot host.tags (length host.clients) client tag)

-- THE HOST

-- only a command that moves bytes has a data TD
abbrev pub data_td_for : ℕ → Option TdState
data_td_for bytes = if bytes == 0 then None else Some Pending

-- the entry of a command that was just submitted
abbrev pub new_entry : ℕ → Op → HostEntry
new_entry ticket op = record {
  ticket = ticket;
  request = Execute op;
  told = Unanswered;
  command_td = Pending;
  status_td = Pending;
  data_td = data_td_for (moved_bytes op);
}

-- a client with a command under this slot
abbrev pub submitted_client : HostClient → ℕ → ℕ → Op → HostClient
submitted_client held slot ticket op = record {
  entries = slice_set held.entries slot (Some (new_entry ticket op));
  least_ticket = ticket + 1;
  ready = held.ready;
}

-- the host with a command under a slot of a client
abbrev pub noted : HostState → ℕ → ℕ → ℕ → Op → HostState
noted host client slot ticket op = with_client host client (submitted_client (client_of host client) slot ticket op)

-- the host after a submission under this tag
abbrev pub submitted : HostState → ℕ → ℕ → ℕ → Op → HostState
submitted host client tag ticket op = noted host client (slot_of host.tags tag) ticket op

-- THE BUFFERS

-- The Command unit of an operation for the logical unit of a client, under this tag. Worked: INQUIRY of 36 bytes by client
-- 2 on tag 34 is 01 00 00 22 00 00 00 00 00 02 00 00 00 00 00 00 12 00 00 00 24 and eleven zeros.
abbrev pub command_text : ℕ → ℕ → Op → List ℕ
command_text client tag op = unit_text (CommandUnit tag (lun_text client) (cdb_bytes op))

-- the tag's command buffer has the unit, and its window is the client's own vector
abbrev pub lent : List TagBuffers → ℕ → ℕ → Command → List TagBuffers
lent frames client tag command = with_held frames tag (record {
  command = command_text client tag command.op;
  status = (held_for frames tag).status;
  lent = Some command.buffer;
})

-- ROOM

-- rings and window of a tag are free for a command
pub record HasRoomFor (lines : LinesState) (frames : List TagBuffers) (tag : ℕ) (op : Op) : Type 0 where
  pub tds : HasTdRoom lines tag op
  pub window : (held_for frames tag).lent ≡ None

-- nothing is under a slot
abbrev pub IsFree : HostClient → ℕ → Type 0
IsFree held slot = held_at held.entries slot ≡ None
