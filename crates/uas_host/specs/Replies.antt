-- The reply that was ready first.
use Rattle.std.specs.Prelude.{◌≡◌, ℕ, ◌<◌, true, false, ◌&&◌, ◌||◌, Bool, IsSome, length, List, [], ◌∷◌, Option, None, Some, option_and_then, slice_set}
use Rattle.scsi_cmd.specs.Request.{is_command}
use Rattle.scsi_cmd.specs.declared.Reply.{Reply}
use Rattle.scsi_cmd.specs.declared.Reply.TheVariants.{Status as StatusReply, Aborted, Task as TaskReply}
use Rattle.scsi_cmd.specs.Held.{held_at}
use Rattle.frame_store.specs.declared.TagBuffers.{TagBuffers}
use Rattle.frame_store.specs.Buffers.{held_for, with_lent}
use Rattle.uas_profile.specs.declared.TdState.{TdState}
use Rattle.uas_profile.specs.declared.TdState.TheVariants.{Pending, Seen, LeftOver, Retired}
use Rattle.uas_host.specs.declared.HostAnswer.{HostAnswer}
use Rattle.uas_host.specs.declared.HostAnswer.TheVariants.{Unanswered, Status, Response}
use Rattle.scsi_cmd.specs.declared.Request.{Request}
use Rattle.scsi_cmd.specs.declared.Request.TheVariants.{Execute, Manage}
use Rattle.uas_host.specs.declared.HostEntry.{HostEntry}
use Rattle.uas_host.specs.declared.HostClient.{HostClient}
use Rattle.uas_profile.specs.TdStates.{is_retired, is_seen}
use Rattle.uas_host.specs.State.{HostState, client_of, is_response, is_status, with_client}
use Rattle.uas_profile.specs.Tags.{tag_of}

-- what a call for a reply changes, and the reply
pub record Given : Type 0 where
  pub host : HostState
  pub frames : List TagBuffers
  pub reply : Option Reply

-- nothing is ready, or a command's vector isn't lent
abbrev pub no_reply : HostState → List TagBuffers → Given
no_reply host frames = record { host = host; frames = frames; reply = None }

-- the status that a command was told, with its buffer; none before it was told one
abbrev pub status_reply : ℕ → ℕ → List ℕ → HostAnswer → Option Reply
status_reply tag ticket buffer Unanswered = None
status_reply tag ticket buffer (Status status sense) = Some (StatusReply tag ticket status sense buffer)
status_reply tag ticket buffer (Response code) = None

-- A command's reply with the vector that was lent: its status once that was seen, and that it was aborted where its status
-- TD was retired.
abbrev pub command_reply : ℕ → ℕ → HostAnswer → TdState → List ℕ → Option Reply
command_reply tag ticket told Pending buffer = None
command_reply tag ticket told Seen buffer = status_reply tag ticket buffer told
command_reply tag ticket told LeftOver buffer = None
command_reply tag ticket told Retired buffer = Some (Aborted tag ticket buffer)

-- a task management's reply: the code of its response
abbrev pub task_reply : ℕ → ℕ → HostAnswer → Option Reply
task_reply tag ticket Unanswered = None
task_reply tag ticket (Status status sense) = None
task_reply tag ticket (Response code) = Some (TaskReply tag ticket code)

-- a command's reply asks that a vector is lent; a task management lends none and needs none
abbrev pub reply_to : ℕ → HostEntry → Option (List ℕ) → Request → Option Reply
reply_to tag held lent (Execute op) = option_and_then (command_reply tag held.ticket held.told held.status_td) lent
reply_to tag held lent (Manage task noted) = task_reply tag held.ticket held.told

-- the reply of an entry under this tag, with what is lent under the tag
abbrev pub reply_of : ℕ → Option (List ℕ) → HostEntry → Option Reply
reply_of tag lent held = reply_to tag held lent held.request

-- the buffers once a reply was given: a command's vector goes back
abbrev pub without_lent : List TagBuffers → ℕ → Reply → List TagBuffers
without_lent frames tag (StatusReply told_tag ticket status sense buffer) = with_lent frames tag None
without_lent frames tag (Aborted told_tag ticket buffer) = with_lent frames tag None
without_lent frames tag (TaskReply told_tag ticket code) = frames

-- the client without the entry of a slot, and with these slots ready
abbrev pub without : HostClient → ℕ → List ℕ → HostClient
without held slot rest = record { entries = slice_set held.entries slot None; least_ticket = held.least_ticket; ready = record { items = rest } }

abbrev pub given : HostState → List TagBuffers → ℕ → ℕ → List ℕ → Option Reply → Given
given host frames client slot rest None = no_reply host frames
given host frames client slot rest (Some reply) = record {
  host = with_client host client (without (client_of host client) slot rest);
  frames = without_lent frames (tag_of host.tags (record { client = client; slot = slot })) reply;
  reply = Some reply;
}

-- the reply of a slot, where it holds an entry, and for a command where its tag has a vector lent
abbrev pub slot_reply : HostState → List TagBuffers → ℕ → ℕ → Option Reply
slot_reply host frames client slot =
    let tag = tag_of host.tags (record { client = client; slot = slot }) in
    option_and_then (reply_of tag (held_for frames tag).lent) (held_at (client_of host client).entries slot)

abbrev pub replied_first : HostState → List TagBuffers → ℕ → List ℕ → Given
replied_first host frames client [] = no_reply host frames
replied_first host frames client (slot ∷ rest) = given host frames client slot rest (slot_reply host frames client slot)

-- The client takes the reply that was ready first, a command's with the very vector that it handed in. The tag is free then.
-- A client that isn't there has nothing ready.
abbrev pub replied : HostState → List TagBuffers → ℕ → Given
replied host frames client = replied_first host frames client (client_of host client).ready.items

-- an entry has its reply: a command's status TD was seen and told its status, or is retired, and a task management was told
-- its response
abbrev pub has_answer : HostAnswer → TdState → Request → Bool
has_answer told td (Execute op) = (is_seen td && is_status told) || is_retired td
has_answer told td (Manage task noted) = is_response told

abbrev pub HasAnswer : Option HostEntry → Type 0
HasAnswer None = ⊥
HasAnswer (Some held) = has_answer held.told held.status_td held.request ≡ true

-- a command is held
abbrev pub has_command : Option HostEntry → Bool
has_command None = false
has_command (Some held) = is_command held.request

-- a command has a vector to give back
abbrev pub HasBuffer : Option (List ℕ) → Option HostEntry → Type 0
HasBuffer lent held = has_command held ≡ true → IsSome lent

-- a slot that is ready is one of a client that is there, and its entry has its reply
pub record IsReadySlot (host : HostState) (client slot : ℕ) : Type 0 where
  pub there : client < length host.clients
  pub within : slot < host.tags
  pub answered : HasAnswer (held_at (client_of host client).entries slot)
