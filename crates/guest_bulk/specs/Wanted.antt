-- The first range of memory that a step lacks, in the order of `out_stepped` and `in_stepped`.
use Rattle.std.specs.Prelude.{ℕ, ◌-◌, ◌==◌, min, Bool, ◌&&◌, if◌then◌else◌, length as list_length, Option, None, Some}
use Rattle.guest_memory.specs.declared.rings.context.Home.{Home}
use Rattle.guest_memory.specs.declared.rings.context.Front.{Front}
use Rattle.guest_memory.specs.declared.rings.wanting.Range.{Range}
use Rattle.guest_memory.specs.rings.Ends.{looked}
use Rattle.guest_memory.specs.rings.Wanted.{look_wanted}
use Rattle.guest_pipes.specs.Gate.{gate}
use Rattle.guest_pipes.specs.Wanted.{wanted_of, wanted_through}
use Rattle.guest_tags.specs.declared.buffer.Buffer.{Buffer}
use Rattle.guest_tags.specs.declared.device.Phase.{Phase}
use Rattle.guest_tags.specs.declared.device.Phase.TheVariants.{Absent, Gives, Takes, Ended}
use Rattle.guest_tags.specs.Devices.{Kind}
use Rattle.guest_tags.specs.Wanted.{moved_part, moving}
use Rattle.guest_out.specs.Wanted.{drawn_part, taken_next}
use Rattle.guest_bulk.specs.declared.bulk.Bulk.{Bulk}
use Rattle.guest_bulk.specs.declared.bulk.BulkCommand.{BulkCommand}
use Rattle.guest_bulk.specs.declared.bulk.BulkStage.{BulkStage}
use Rattle.guest_bulk.specs.declared.bulk.BulkStage.TheVariants.{Awaits, Faulty, Moves, Tells}
use Rattle.guest_bulk.specs.Commands.{BulkWorld, gives_bytes, takes_bytes}
use Rattle.guest_bulk.specs.Verdicts.{has_chunk}

-- how many bytes the device gives next, unless a bad block keeps them; once it has ended, zeros
abbrev pub given_next : Phase → ℕ
given_next Absent = 0
given_next (Gives count) = count
given_next (Takes count) = 0
given_next (Ended end) = 4096

-- how many bytes of a CSW there are, once what the device does is known
abbrev pub told_next : Phase → ℕ
told_next Absent = 0
told_next (Gives count) = 13
told_next (Takes count) = 13
told_next (Ended end) = 13

module _ {D : Type 0} (kind : Kind D) where
  -- BULK-IN

  abbrev pub coming_data : Bulk → D → BulkCommand → ℕ
  coming_data bulk device command =
      if has_chunk bulk then list_length bulk.chunk
      else if command.is_kept then 4096
      else given_next (kind.phase device 1)

  abbrev pub coming_told : Bulk → D → BulkCommand → ℕ
  coming_told bulk device command =
      if has_chunk bulk then 13
      else if command.is_kept then 13
      else told_next (kind.phase device 1)

  abbrev pub coming_beside : Bool → Bulk → D → BulkCommand → ℕ
  coming_beside fed bulk device command =
      if takes_bytes command then 0
      else if fed then 0
      else coming_told bulk device command

  -- how many bytes go into the TRB in front next, whose TD has some or not
  abbrev pub coming_by : BulkStage → Bool → Bulk → D → ℕ
  coming_by Awaits fed bulk device = 0
  coming_by Faulty fed bulk device = 0
  coming_by (Moves command) fed bulk device =
      if gives_bytes command then min (coming_data bulk device command) command.left else coming_beside fed bulk device command
  coming_by (Tells csw sent) fed bulk device = if sent == 0 && fed then 0 else 13 - sent

  -- none where the endpoint isn't served
  abbrev pub in_part : Option ℕ → BulkWorld D → Front → Option Range
  in_part (Some code) w front = None
  in_part None w front = moved_part w.ring.memory w.ring.consumer (coming_by w.bulk.stage w.ring.consumer.progress.fed w.bulk w.device) (moving w.ring.consumer front)

  abbrev pub in_wanted : Option ℕ → BulkWorld D → Home → Option Range
  in_wanted fault w home =
      wanted_through (gate w.ring.memory w.ring.events w.ring.consumer) w.ring.events
      (wanted_of (looked w.ring.memory home) (look_wanted w.ring.memory home) (in_part fault w))

  -- BULK-OUT

  -- how many bytes of the buffer in front are gathered for a chunk
  abbrev pub taken_data : Bulk → D → BulkCommand → ℕ → ℕ
  taken_data bulk device command room =
      if has_chunk bulk then 0
      else if command.is_kept then 0
      else min (min (taken_next (kind.phase device 1) - list_length bulk.taken) room) command.left

  abbrev pub out_part_by : BulkStage → BulkWorld D → Option Buffer → Option Range
  out_part_by stage w None = None
  out_part_by Awaits w (Some buffer) =
      if w.ring.consumer.progress.fed then None
      else drawn_part w.ring.memory buffer 0 (min buffer.length (1024 - list_length w.bulk.taken))
  out_part_by Faulty w (Some buffer) = None
  out_part_by (Moves command) w (Some buffer) =
      if takes_bytes command then drawn_part w.ring.memory buffer w.ring.consumer.progress.moved (taken_data w.bulk w.device command (buffer.length - w.ring.consumer.progress.moved)) else None
  out_part_by (Tells csw sent) w (Some buffer) = None

  abbrev pub out_part : Option ℕ → BulkWorld D → Front → Option Range
  out_part (Some code) w front = None
  out_part None w front = out_part_by w.bulk.stage w (moving w.ring.consumer front)

  abbrev pub out_wanted : Option ℕ → BulkWorld D → Home → Option Range
  out_wanted fault w home =
      wanted_through (gate w.ring.memory w.ring.events w.ring.consumer) w.ring.events
      (wanted_of (looked w.ring.memory home) (look_wanted w.ring.memory home) (out_part fault w))
