-- What leaves a TD over: the CHECK CONDITION of its own command, or the COMPLETE of an abort or a reset that noted its ticket.
use Rattle.std.specs.Prelude.{◌≡◌, ℕ, ◌==◌, ◌⊎◌, true, false, slice_index, List, Some}
use Rattle.std.specs.List.{list_any}
use Rattle.arrayvec.specs.ArrayVec.{ArrayVec}
use Rattle.event_ring.specs.declared.Event.{Event}
use Rattle.event_ring.specs.declared.Event.TheVariants.{Transfer, Command as CommandCompletion}
use Rattle.uas_profile.specs.declared.Pipe.{Pipe}
use Rattle.uas_profile.specs.declared.Pipe.TheVariants.{Status}
use Rattle.uas_profile.specs.declared.TdState.TheVariants.{Pending}
use Rattle.uas_profile.specs.Tags.{client_of as client_of_tag}
use Rattle.frame_store.specs.declared.TagBuffers.{TagBuffers}
use Rattle.scsi_cmd.specs.Request.{ends_commands, is_command}
use Rattle.scsi_cmd.specs.declared.Request.TheVariants.{Manage}
use Rattle.scsi_cmd.specs.declared.Task.{Task}
use Rattle.uas_host.specs.declared.HostEntry.{HostEntry}
use Rattle.uas_host.specs.Awaited.{IsTdAwaited, td_on, written_of}
use Rattle.uas_host.specs.Events.{Sides}
use Rattle.uas_host.specs.Retirement.{is_left_over_on}
use Rattle.uas_host.specs.Seen.{held_of}
use Rattle.uas_host.specs.State.{HostState}

-- It is the status event of the command of this tag, and byte 6 of its Sense unit is CHECK CONDITION, 02h.
pub record IsCheckOf (sides : Sides) (frames : List TagBuffers) (pointer residual code tag : ℕ) : Type 0 where
  pub event : IsTdAwaited sides frames pointer residual code Status tag
  pub command : is_command event.held.request ≡ true
  pub check : slice_index (written_of frames residual tag) 6 ≡ 2

-- It is the status event of a task management of the same client, an abort or a reset, that noted this ticket, and byte 7 of its
-- Response unit is COMPLETE, 00h.
pub record IsCompleteFor (sides : Sides) (frames : List TagBuffers) (pointer residual code tag ticket : ℕ) : Type 0 where
  pub manager : ℕ
  pub event : IsTdAwaited sides frames pointer residual code Status manager
  pub client : client_of_tag sides.host.tags manager ≡ client_of_tag sides.host.tags tag
  pub task : Task
  pub noted : ArrayVec ℕ
  pub request : event.held.request ≡ Manage task noted
  pub ends : ends_commands task ≡ true
  pub notes : list_any (λ one. one == ticket) noted.items ≡ true
  pub complete : slice_index (written_of frames residual manager) 7 ≡ 0

-- The TD of this tag on this pipe was waited for, and the event is one that leaves it over.
pub record IsLeftOverBy (sides : Sides) (frames : List TagBuffers) (pointer residual code : ℕ) (pipe : Pipe) (tag : ℕ) : Type 0 where
  pub held : HostEntry
  pub under : held_of sides.host tag ≡ Some held
  pub waited : td_on pipe held ≡ Some Pending
  pub by : IsCheckOf sides frames pointer residual code tag ⊎ IsCompleteFor sides frames pointer residual code tag held.ticket

-- no completion of an engine command leaves a TD over
abbrev pub IsLeftOverAt : Sides → List TagBuffers → Event → Pipe → ℕ → Type 0
IsLeftOverAt sides frames (Transfer pointer residual code endpoint slot) pipe tag = IsLeftOverBy sides frames pointer residual code pipe tag
IsLeftOverAt sides frames (CommandCompletion pointer code slot) pipe tag = ⊥

-- What is left over after the event and wasn't before was left over by it: never a TD that was seen or retired, and none of a later
-- command on the same tag.
abbrev pub LeavesOverByNote : Sides → List TagBuffers → Event → HostState → Type 0
LeavesOverByNote sides frames event after =
    (pipe : Pipe) (tag : ℕ) → is_left_over_on after pipe tag ≡ true → is_left_over_on sides.host pipe tag ≡ false
    → IsLeftOverAt sides frames event pipe tag
