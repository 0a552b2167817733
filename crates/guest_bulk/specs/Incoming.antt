-- Data on Bulk-In: H bytes, the device's and then zeros (BOT 6.7.2).
use Rattle.std.specs.Prelude.{ℕ, ◌+◌, ◌-◌, ◌==◌, min, nat_le, Bool, true, false, not, ◌&&◌, if◌then◌else◌, List, [], length as list_length, take, drop, replicate, unwrap_or}
use Rattle.guest_memory.specs.Bytes.{is_there}
use Rattle.guest_memory.specs.declared.rings.context.Front.{Front}
use Rattle.guest_memory.specs.declared.rings.trb.Flags.{Flags}
use Rattle.guest_memory.specs.declared.rings.trb.PipeTrb.{PipeTrb}
use Rattle.guest_pipes.specs.declared.acted.Acted.TheVariants.{Worked}
use Rattle.guest_pipes.specs.Gate.{took_other}
use Rattle.guest_pipes.specs.Step.{failed, filled, filled_if, poured}
use Rattle.guest_tags.specs.declared.buffer.Buffer.{Buffer}
use Rattle.guest_tags.specs.declared.device.Phase.{Phase}
use Rattle.guest_tags.specs.declared.device.Phase.TheVariants.{Absent, Gives, Takes, Ended}
use Rattle.guest_tags.specs.Devices.{Kind}
use Rattle.guest_bulk.specs.declared.bulk.BulkCommand.{BulkCommand}
use Rattle.guest_bulk.specs.declared.bulk.BulkStage.{BulkStage}
use Rattle.guest_bulk.specs.declared.bulk.BulkStage.TheVariants.{Awaits, Faulty, Moves, Tells}
use Rattle.guest_bulk.specs.declared.bulk.Halting.TheVariants.{Nothing, BulkIn}
use Rattle.guest_bulk.specs.declared.bulk.Stepped.{Stepped}
use Rattle.guest_bulk.specs.Commands.{BulkWorld, gives_bytes, takes_bytes, with_moved, with_ring}
use Rattle.guest_bulk.specs.Outgoing.{waits, worked}
use Rattle.guest_bulk.specs.Verdicts.{broken_off, csw_ended, csw_ran, data_closed, has_chunk, settled, with_given, with_taking}

-- the command once the device gave so many bytes more
abbrev pub command_given : BulkCommand → ℕ → BulkCommand
command_given command count = record command { done = with_given command.done count }

module _ {D : Type 0} (kind : Kind D) where
  -- bytes of H go to an address
  unfoldable pub in_poured : BulkWorld D → BulkCommand → ℕ → List ℕ → BulkWorld D
  in_poured w command to bytes = record w {
    ring = poured w.ring to bytes;
    bulk = record w.bulk { stage = Moves (with_moved command (list_length bytes)) };
  }

  -- so many bytes of the chunk
  unfoldable pub chunk_poured : BulkWorld D → BulkCommand → ℕ → ℕ → BulkWorld D
  chunk_poured w command to count = record w {
    ring = poured w.ring to (take count w.bulk.chunk);
    bulk = record w.bulk { stage = Moves (with_moved command count); chunk = drop count w.bulk.chunk };
  }

  -- so many zeros
  unfoldable pub zeros_poured : BulkWorld D → BulkCommand → ℕ → ℕ → BulkWorld D
  zeros_poured w command to count = record w {
    ring = poured w.ring to (replicate count 0);
    bulk = record w.bulk { stage = Moves (with_moved command count) };
  }

  -- how many bytes a step moves: the least of what comes, of what is left of the TRB, and of H
  abbrev pub in_count : BulkWorld D → BulkCommand → ℕ → Buffer → ℕ
  in_count w command coming buffer = min (min coming (buffer.length - w.ring.consumer.progress.moved)) command.left

  abbrev pub in_filled : Bool → BulkWorld D → Front → Buffer → BulkWorld D
  in_filled full w front buffer = with_ring w (filled_if full w.ring front buffer.flags)

  -- the buffer isn't there: its TD ends, and the bytes go into the next one
  abbrev pub in_lost : BulkWorld D → Front → Buffer → BulkWorld D
  in_lost w front buffer = with_ring w (failed w.ring front buffer.length buffer.flags)

  unfoldable pub chunk_moved : BulkWorld D → BulkCommand → Front → Buffer → BulkWorld D
  chunk_moved w command front buffer =
      let count = in_count w command (list_length w.bulk.chunk) buffer in
      let to = buffer.pointer + w.ring.consumer.progress.moved in
      if is_there w.ring.memory to count
      then in_filled (w.ring.consumer.progress.moved + count == buffer.length) (chunk_poured w command to count) front buffer
      else in_lost w front buffer

  unfoldable pub zeros_moved : BulkWorld D → BulkCommand → Front → Buffer → BulkWorld D
  zeros_moved w command front buffer =
      let count = in_count w command 4096 buffer in
      let to = buffer.pointer + w.ring.consumer.progress.moved in
      if is_there w.ring.memory to count
      then in_filled (w.ring.consumer.progress.moved + count == buffer.length) (zeros_poured w command to count) front buffer
      else in_lost w front buffer

  -- the device gives its next chunk; at a bad block that is empty
  unfoldable pub refilled : BulkWorld D → BulkCommand → BulkWorld D
  refilled w command =
      let chunk = unwrap_or (kind.given w.device 1) [] in
      record w {
        bulk = record w.bulk { stage = Moves (command_given command (list_length chunk)); chunk = chunk };
        device = kind.gave w.device 1;
      }

  abbrev pub moved_if : Bool → BulkWorld D → BulkCommand → Front → Buffer → BulkWorld D
  moved_if true w command front buffer = chunk_moved w command front buffer
  moved_if false w command front buffer = w

  abbrev pub refilled_moved : BulkWorld D → BulkCommand → Front → Buffer → BulkWorld D
  refilled_moved w command front buffer =
      moved_if (has_chunk w.bulk) w (command_given command (list_length w.bulk.chunk)) front buffer

  -- the device takes instead (case 8): Bulk-In is halted at once
  abbrev pub in_broken : BulkWorld D → BulkCommand → ℕ → BulkWorld D × Stepped
  in_broken w command count = (broken_off kind w command (with_taking command.done count), record { acted = Worked; halts = BulkIn; ends = true })

  -- by what the device does next
  abbrev pub in_by : Phase → BulkWorld D → BulkCommand → Front → Buffer → BulkWorld D × Stepped
  in_by Absent w command front buffer = (w, waits)
  in_by (Gives count) w command front buffer = (refilled_moved (refilled w command) command front buffer, worked)
  in_by (Takes count) w command front buffer = in_broken w command count
  in_by (Ended end) w command front buffer = (zeros_moved w command front buffer, worked)

  -- a Normal TRB of a command's data
  unfoldable pub in_ran : BulkWorld D → BulkCommand → Front → Buffer → BulkWorld D × Stepped
  in_ran w command front buffer =
      if nat_le buffer.length w.ring.consumer.progress.moved then (with_ring w (filled w.ring front buffer.flags), worked)
      else if has_chunk w.bulk then (chunk_moved w command front buffer, worked)
      else if command.is_kept then (zeros_moved w command front buffer, worked)
      else in_by (kind.phase w.device 1) w command front buffer

  -- a Normal TRB by the stage that settling led to
  abbrev pub told_staged : BulkStage → BulkWorld D × Bool → Front → Buffer → BulkWorld D × Stepped
  told_staged Awaits after front buffer = (after.0, waits)
  told_staged Faulty after front buffer = (after.0, waits)
  told_staged (Moves command) after front buffer = (after.0, waits)
  told_staged (Tells csw sent) after front buffer =
      (csw_ran kind after.0 csw sent front buffer, record { acted = Worked; halts = Nothing; ends = after.1 })

  abbrev pub settled_told : BulkWorld D × Bool → Front → Buffer → BulkWorld D × Stepped
  settled_told after front buffer = told_staged after.0.bulk.stage after front buffer

  -- a Normal TRB where no data go to the host: once all H bytes have moved, the CSW
  abbrev pub in_beside : BulkWorld D → BulkCommand → Front → Buffer → BulkWorld D × Stepped
  in_beside w command front buffer =
      if takes_bytes command then (w, waits)
      else if w.ring.consumer.progress.fed then (data_closed kind w front buffer, worked)
      else settled_told (settled kind w command) front buffer

  -- a Normal TRB of a TD whose bytes move
  abbrev pub in_staged : BulkStage → BulkWorld D → Front → Buffer → BulkWorld D × Stepped
  in_staged Awaits w front buffer = (w, waits)
  in_staged Faulty w front buffer = (w, waits)
  in_staged (Moves command) w front buffer = if gives_bytes command then in_ran w command front buffer else in_beside w command front buffer
  in_staged (Tells csw sent) w front buffer = (csw_ran kind w csw sent front buffer, worked)

  -- another TRB may be the last of a TD that has bytes of the CSW
  abbrev pub in_last_by : BulkStage → BulkWorld D → Front → PipeTrb → Flags → BulkWorld D
  in_last_by Awaits w front trb flags = with_ring w (took_other w.ring front trb)
  in_last_by Faulty w front trb flags = with_ring w (took_other w.ring front trb)
  in_last_by (Moves command) w front trb flags = with_ring w (took_other w.ring front trb)
  in_last_by (Tells csw sent) w front trb flags =
      if not (sent == 0) && not flags.chain then csw_ended kind (13 - sent == 0) w csw front trb flags
      else with_ring w (took_other w.ring front trb)
