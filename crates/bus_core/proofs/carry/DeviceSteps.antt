-- What the device's calls are to a command of a client, in the words of the solo machine. Cited by ClientSteps and Doing.
use Rattle.std.proofs.Common.{◌≡◌, ℕ, ◌*◌, ◌^◌, ◌<◌, true, List, Option, Some, None, is_some, Ok, refl, ap, ◌∙◌}
use Rattle.std.specs.Prelude.{slice_get, slice_set}
use Rattle.std.specs.Option.{option_map_or}
use Rattle.uas_profile.specs.declared.TheConstants.{CHUNK_BYTES}
use Rattle.block_unit.specs.BlockMaps.{BlockMaps, bytes_from}
use Rattle.scsi_cmd.specs.declared.Op.{Op}
use Rattle.scsi_cmd.specs.declared.Request.TheVariants.{Execute}
use Rattle.scsi_cmd.specs.Buffers.{with_bytes_at}
use Rattle.scsi_cmd.specs.Held.{held_under, with_held_under}
use Rattle.scsi_cmd.specs.Laws.{asked-cdb_bytes, checked-none, length-cdb_bytes}
use Rattle.scsi_cmd.specs.Meaning.{asked, checked}
use Rattle.scsi_cmd.specs.Op.{moved_bytes, cdb_bytes}
use Rattle.scsi_cmd.specs.Work.{checked_work, reports_attention, work_of}
use Rattle.device_server.specs.Laws.{begun_progress, chunk_to_device, chunk_to_host}
use Rattle.device_server.specs.Server.{HasChunk, begun, chunk_fits, chunk_given, chunk_moved, progress_after, unit_taken}
use Rattle.device_server.specs.declared.Answer.TheVariants.{Good, Check}
use Rattle.device_server.specs.declared.Progress.{Progress}
use Rattle.device_server.specs.declared.Progress.TheVariants.{Moving as MovingOn, Ended as EndedWith}
use Rattle.solo_model.specs.declared.Phase.TheVariants.{Begun}
use Rattle.solo_model.specs.Soundness.{IsSoundProgress}
use Rattle.solo_model.specs.TaggedTask.{buffer_after, chunk_brought, of_command, progress_left, unit_after}
use Rattle.uas_iu.specs.Lun.{lun_text}
use Rattle.uas_target.specs.declared.DeviceTask.TheVariants.{Moving as MovingTask}
use Rattle.uas_target.specs.declared.Phase.TheVariants.{Gives, Takes}
use Rattle.uas_target.specs.Device.{Device, executed, executed_on, received, with_units_and_task, wanted, given, gave, fits, took, has_place}
use Rattle.uas_target.specs.Laws.{gives_to_host, takes_size, takes_to_device}
use Rattle.uas_target.specs.Tasks.{task_in, begun_by, chunk_wanted}
use Rattle.uas_target.proofs.Received.{received-command, begins_as_asked}
use Rattle.shared_machine.specs.Part.{took_trb}
use Rattle.bus_core.specs.Hosts.{begun_task}
use Rattle.bus_core.specs.Wire.{request_text}

-- A COMMAND'S TASK

-- what the device has of a command is what its entry says
task_in-begun : (number : Option ℕ) (op : Op) (progress : Progress) → task_in number (Ok op) progress ≡ begun_task number (Execute op) (of_command progress)
task_in-begun number op (MovingOn chunk) = refl
task_in-begun number op (EndedWith answer) = refl

-- a chunk took a TRB where it met no bad block
took-moved : (progress : Progress) → took_trb (Begun (of_command progress)) ≡ chunk_moved progress
took-moved (MovingOn chunk) = refl
took-moved (EndedWith Good) = refl
took-moved (EndedWith (Check sense)) = refl

pub sound-command : (count : ℕ) (op : Op) (progress : Progress) → HasChunk count op progress → IsSoundProgress count op (of_command progress)
sound-command count op (MovingOn chunk) has = has
sound-command count op (EndedWith answer) has = tt

-- RECEIVED

-- what the device has of a command that begins doesn't tell its fault
task_begun : (number : Option ℕ) (unit : BlockMaps) (op : Op) →
    task_in number (checked op unit.count) (begun unit (reports_attention op) (checked_work op unit.count)).1
    ≡ task_in number (Ok op) (begun unit (reports_attention op) (checked_work op unit.count)).1
task_begun number unit op =
    begun_progress (λ progress. task_in number (checked op unit.count) progress ≡ task_in number (Ok op) progress) unit (reports_attention op) op
    (λ sense. refl) (λ empty. refl) (λ some none. rw (checked-none op unit.count none) refl)

-- the unit of the number executes the CDB of an operation
executed-op : (units : List BlockMaps) (number : ℕ) (op : Op) (unit : BlockMaps) → slice_get units number ≡ Some unit →
    executed units (lun_text number) (cdb_bytes op)
    ≡ (
      slice_set units number (begun unit (reports_attention op) (checked_work op unit.count)).0,
      task_in (Some number) (Ok op) (begun unit (reports_attention op) (checked_work op unit.count)).1,
    )
executed-op units number op unit is =
    let begins : begun_by unit (cdb_bytes op) (asked (cdb_bytes op) unit.count) ≡ begun unit (reports_attention op)
    (checked_work op unit.count) = begins_as_asked unit op in
    ap (executed_on units number (cdb_bytes op)) is
    ∙ (λ i. (slice_set units number (begins i).0, task_in (Some number) (asked-cdb_bytes op unit.count i) (begins i).1))
    ∙ ap (λ t. (slice_set units number (begun unit (reports_attention op) (checked_work op unit.count)).0, t)) (task_begun (Some number) unit op)

-- the device receives the text of a command to the unit of this number, under a free tag
pub received-op : (device : Device) (number tag : ℕ) (op : Op) (unit : BlockMaps) → slice_get device.units number ≡ Some unit → tag < 2 ^ 16
    → has_place device tag ≡ true → held_under device.tasks tag ≡ None →
    (received device (request_text number tag (Execute op))).0
    ≡ record {
      units = slice_set device.units number (begun unit (reports_attention op) (checked_work op unit.count)).0;
      tasks = with_held_under device.tasks tag
          (begun_task (Some number) (Execute op) (of_command (begun unit (reports_attention op) (checked_work op unit.count)).1));
    }
received-op device number tag op unit is less is_one free =
    ap (λ r. r.0) (received-command device tag (lun_text number) (cdb_bytes op) (less, refl, length-cdb_bytes op))
    ∙ rw (is_one, free) refl
    ∙ ap (with_units_and_task device tag) (executed-op device.units number op unit is)
    ∙ ap (λ task. record {
      units = slice_set device.units number (begun unit (reports_attention op) (checked_work op unit.count)).0;
      tasks = with_held_under device.tasks tag task;
    }) (task_in-begun (Some number) op (begun unit (reports_attention op) (checked_work op unit.count)).1)

-- DATA

-- the device's next step on a command that moves data
pub wanted-moving : (device : Device) (number tag chunk : ℕ) (op : Op) → held_under device.tasks tag ≡ Some (MovingTask (Some number) op chunk) →
    wanted device tag ≡ chunk_wanted chunk op
wanted-moving device number tag chunk op is = rw is refl

pub gave-moving : (device : Device) (number tag chunk : ℕ) (op : Op) (unit : BlockMaps)
    → held_under device.tasks tag ≡ Some (MovingTask (Some number) op chunk) →
    slice_get device.units number ≡ Some unit →
    gave device tag ≡ record { units = device.units; tasks = with_held_under device.tasks tag (begun_task (Some number) (Execute op) (progress_left unit chunk op)) }
gave-moving device number tag chunk op unit is there =
    rw (is, there, ← (task_in-begun (Some number) op (progress_after unit chunk (work_of op unit.count)))) refl

pub given-moving : (device : Device) (number tag chunk : ℕ) (op : Op) (unit : BlockMaps)
    → held_under device.tasks tag ≡ Some (MovingTask (Some number) op chunk) →
    slice_get device.units number ≡ Some unit → given device tag ≡ chunk_given unit chunk (work_of op unit.count)
given-moving device number tag chunk op unit is there = rw (is, there) refl

pub took-moving : (device : Device) (number tag chunk : ℕ) (op : Op) (unit : BlockMaps) (bytes : List ℕ) →
    held_under device.tasks tag ≡ Some (MovingTask (Some number) op chunk) → slice_get device.units number ≡ Some unit →
    took device tag bytes
    ≡ record {
      units = slice_set device.units number (unit_taken unit bytes chunk (work_of op unit.count));
      tasks = with_held_under device.tasks tag (begun_task (Some number) (Execute op) (progress_left unit chunk op));
    }
took-moving device number tag chunk op unit bytes is there =
    rw (is, there, ← (task_in-begun (Some number) op (progress_after unit chunk (work_of op unit.count)))) refl

pub fits-moving : (device : Device) (number tag chunk : ℕ) (op : Op) (unit : BlockMaps)
    → held_under device.tasks tag ≡ Some (MovingTask (Some number) op chunk) →
    slice_get device.units number ≡ Some unit → fits device tag ≡ chunk_fits unit chunk (work_of op unit.count)
fits-moving device number tag chunk op unit is there = rw (is, there) refl

-- A CHUNK

-- a command whose chunk the device gives: the blocks stay
pub record IsGiven (unit : BlockMaps) (buffer : List ℕ) (chunk : ℕ) (op : Op) : Type 0 where
  pub unit_same : unit_after unit buffer chunk op ≡ unit
  pub taken : took_trb (Begun (progress_left unit chunk op)) ≡ is_some (chunk_given unit chunk (work_of op unit.count))

pub given_chunk : (unit : BlockMaps) (buffer : List ℕ) (chunk size : ℕ) (op : Op) → chunk_wanted chunk op ≡ Gives size → CHUNK_BYTES * chunk < moved_bytes op →
    IsGiven unit buffer chunk op
given_chunk unit buffer chunk size op wants less =
    let gives = chunk_to_host unit chunk (work_of op unit.count) (gives_to_host op chunk size unit.count wants less) in
    record { unit_same = gives.unit_same (chunk_brought buffer chunk op); taken = took-moved (progress_after unit chunk (work_of op unit.count)) ∙ gives.moved }

-- a command whose chunk the device takes: the buffer stays, and its bytes at the chunk's place are written
pub record IsTaken (unit : BlockMaps) (buffer : List ℕ) (chunk size : ℕ) (op : Op) : Type 0 where
  pub unit_is : unit_after unit buffer chunk op ≡ unit_taken unit (bytes_from buffer (CHUNK_BYTES * chunk) size) chunk (work_of op unit.count)
  pub taken : took_trb (Begun (progress_left unit chunk op)) ≡ chunk_fits unit chunk (work_of op unit.count)
  pub bytes : buffer_after unit buffer chunk op ≡ buffer

pub taken_chunk : (unit : BlockMaps) (buffer : List ℕ) (chunk size : ℕ) (op : Op) → chunk_wanted chunk op ≡ Takes size → CHUNK_BYTES * chunk < moved_bytes op →
    IsTaken unit buffer chunk size op
taken_chunk unit buffer chunk size op wants less =
    let takes = chunk_to_device unit chunk (work_of op unit.count) (takes_to_device op chunk size unit.count wants less) in
    record {
      unit_is = ap (λ n. unit_taken unit (bytes_from buffer (CHUNK_BYTES * chunk) n) chunk (work_of op unit.count)) (takes_size op chunk size wants);
      taken = took-moved (progress_after unit chunk (work_of op unit.count)) ∙ takes.moved;
      bytes = ap (λ given. option_map_or (λ bytes. with_bytes_at buffer (CHUNK_BYTES * chunk) bytes) given buffer) takes.none;
    }
