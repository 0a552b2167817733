-- Data on Bulk-Out: H bytes, which go to the device in chunks; what it doesn't take is dropped (BOT 6.7.3).
use Rattle.std.specs.Prelude.{ℕ, ◌+◌, ◌-◌, ◌%◌, ◌^◌, ◌==◌, min, nat_le, Bool, true, false, not, ◌&&◌, if◌then◌else◌, List, [], ◌++◌, length as list_length, Option, None, Some}
use Rattle.guest_memory.specs.declared.rings.context.Front.{Front}
use Rattle.guest_memory.specs.declared.rings.trb.Flags.{Flags}
use Rattle.guest_memory.specs.declared.rings.trb.PipeTrb.{PipeTrb}
use Rattle.guest_pipes.specs.declared.acted.Acted.{Acted}
use Rattle.guest_pipes.specs.declared.acted.Acted.TheVariants.{Waits, Worked}
use Rattle.guest_pipes.specs.declared.progress.Progress.{Progress}
use Rattle.guest_pipes.specs.Gate.{took_other}
use Rattle.guest_pipes.specs.Progress.{counted, runs}
use Rattle.guest_pipes.specs.Step.{failed, filled, filled_if, with_progress}
use Rattle.guest_tags.specs.declared.buffer.Buffer.{Buffer}
use Rattle.guest_tags.specs.declared.device.Phase.{Phase}
use Rattle.guest_tags.specs.declared.device.Phase.TheVariants.{Absent, Gives, Takes, Ended}
use Rattle.guest_tags.specs.Devices.{Kind}
use Rattle.guest_out.specs.Immediate.{bytes_out}
use Rattle.guest_bulk.specs.declared.bulk.BulkCommand.{BulkCommand}
use Rattle.guest_bulk.specs.declared.bulk.BulkStage.{BulkStage}
use Rattle.guest_bulk.specs.declared.bulk.BulkStage.TheVariants.{Awaits, Faulty, Moves, Tells}
use Rattle.guest_bulk.specs.declared.bulk.Halting.TheVariants.{Nothing, BulkOut}
use Rattle.guest_bulk.specs.declared.bulk.Stepped.{Stepped}
use Rattle.guest_bulk.specs.Commands.{BulkWorld, cbw_ran, received_if, takes_bytes, with_moved, with_ring}
use Rattle.guest_bulk.specs.declared.bulk.Halting.{Halting}
use Rattle.guest_bulk.specs.Verdicts.{broken_off, has_chunk, with_chunk, with_given}

-- what a step did, without a halt
abbrev pub plain : Acted → Stepped
plain acted = record { acted = acted; halts = Nothing; ends = false }

abbrev pub worked : Stepped
worked = plain Worked

abbrev pub waits : Stepped
waits = plain Waits

-- so many bytes of a TRB were passed over: its TD has data now
abbrev pub passed_over : Progress → ℕ → Progress
passed_over progress count = record progress { edtla = (progress.edtla + count) % 2 ^ 24; begun = true; fed = true }

abbrev pub is_awaiting : BulkStage → Bool
is_awaiting Awaits = true
is_awaiting Faulty = false
is_awaiting (Moves command) = false
is_awaiting (Tells csw sent) = false

module _ {D : Type 0} (kind : Kind D) where
  -- what is left of a TRB is dropped, as if it had moved
  unfoldable pub rest_dropped : BulkWorld D → Front → Buffer → BulkWorld D
  rest_dropped w front buffer =
      let progress = passed_over w.ring.consumer.progress (buffer.length - w.ring.consumer.progress.moved) in
      with_ring w (filled (with_progress w.ring progress) front buffer.flags)

  -- the same of bytes that belong to H
  unfoldable pub data_dropped : BulkWorld D → BulkCommand → Front → Buffer → BulkWorld D
  data_dropped w command front buffer =
      let count = buffer.length - w.ring.consumer.progress.moved in
      rest_dropped (record w { bulk = record w.bulk { stage = Moves (with_moved command (min count command.left)) } }) front buffer

  -- a TRB is consumed where it is full
  abbrev pub out_filled : BulkWorld D → Front → Buffer → BulkWorld D
  out_filled w front buffer = with_ring w (filled_if (nat_le buffer.length w.ring.consumer.progress.moved) w.ring front buffer.flags)

  -- bytes of the TRB in front are gathered for the next chunk
  unfoldable pub out_gathered : BulkWorld D → BulkCommand → List ℕ → BulkWorld D
  out_gathered w command bytes = record w {
    ring = with_progress w.ring (counted w.ring.consumer.progress (list_length bytes));
    bulk = record w.bulk { stage = Moves (with_moved command (list_length bytes)); taken = w.bulk.taken ++ bytes };
  }

  -- the device takes the chunk
  unfoldable pub out_handed : BulkWorld D → BulkCommand → BulkWorld D
  out_handed w command = record w {
    bulk = record w.bulk { stage = Moves (record command { done = with_chunk command.done (list_length w.bulk.taken) }); taken = [] };
    device = kind.took w.device 1 w.bulk.taken;
  }

  -- a chunk that is full goes to the device
  abbrev pub handed_if : Bool → BulkWorld D → BulkCommand → BulkWorld D
  handed_if true w command = out_handed w command
  handed_if false w command = w

  abbrev pub out_went : BulkWorld D → BulkCommand → ℕ → BulkWorld D
  out_went w command count = handed_if (list_length w.bulk.taken == count) w command

  -- how many bytes a step moves: the least of what the chunk lacks, of what is left of the TRB, and of H
  abbrev pub out_count : BulkWorld D → BulkCommand → ℕ → Buffer → ℕ
  out_count w command count buffer =
      min (min (count - list_length w.bulk.taken) (buffer.length - w.ring.consumer.progress.moved)) command.left

  abbrev pub out_drawn : Option (List ℕ) → BulkWorld D → BulkCommand → ℕ → Front → Buffer → BulkWorld D
  out_drawn None w command count front buffer = with_ring w (failed w.ring front buffer.length buffer.flags)
  out_drawn (Some bytes) w command count front buffer =
      out_filled (out_went (out_gathered w command bytes) (with_moved command (list_length bytes)) count) front buffer

  unfoldable pub out_moved : BulkWorld D → BulkCommand → ℕ → Front → Buffer → BulkWorld D
  out_moved w command count front buffer =
      out_drawn (bytes_out w.ring.memory buffer w.ring.consumer.progress.moved (out_count w command count buffer)) w command count front buffer

  -- the device gives instead (case 10): Bulk-Out is halted at once
  abbrev pub out_broken : BulkWorld D → BulkCommand → ℕ → BulkWorld D × Stepped
  out_broken w command count = (broken_off kind w command (with_given command.done count), record { acted = Worked; halts = BulkOut; ends = true })

  -- by what the device does next
  abbrev pub out_by : Phase → BulkWorld D → BulkCommand → Front → Buffer → BulkWorld D × Stepped
  out_by Absent w command front buffer = (w, waits)
  out_by (Gives count) w command front buffer = out_broken w command count
  out_by (Takes count) w command front buffer = (out_moved w command count front buffer, worked)
  out_by (Ended end) w command front buffer = (data_dropped w command front buffer, worked)

  -- a Normal TRB of a command's data
  unfoldable pub out_ran : BulkWorld D → BulkCommand → Front → Buffer → BulkWorld D × Stepped
  out_ran w command front buffer =
      if nat_le buffer.length w.ring.consumer.progress.moved then (with_ring w (filled w.ring front buffer.flags), worked)
      else if has_chunk w.bulk then out_broken w command 0
      else if command.is_kept then (data_dropped w command front buffer, worked)
      else out_by (kind.phase w.device 1) w command front buffer

  -- a Normal TRB that is no data: the rest of a TD that has some is dropped, and any other waits
  abbrev pub out_beside : BulkWorld D → Front → Buffer → BulkWorld D × Stepped
  out_beside w front buffer = if w.ring.consumer.progress.fed then (rest_dropped w front buffer, worked) else (w, waits)

  abbrev pub halting : BulkWorld D × Halting → BulkWorld D × Stepped
  halting after = (after.0, record { acted = Worked; halts = after.1; ends = false })

  -- a Normal TRB of a TD whose bytes move
  abbrev pub out_staged : BulkStage → BulkWorld D → Front → Buffer → BulkWorld D × Stepped
  out_staged Awaits w front buffer =
      if w.ring.consumer.progress.fed then (rest_dropped w front buffer, worked) else halting (cbw_ran kind w front buffer)
  out_staged Faulty w front buffer = (w, waits)
  out_staged (Moves command) w front buffer = if takes_bytes command then out_ran w command front buffer else out_beside w front buffer
  out_staged (Tells csw sent) w front buffer = out_beside w front buffer

  -- another TRB may be the last of a CBW: of a TD with a Normal TRB, if only one of 0 bytes
  abbrev pub ends_cbw : BulkWorld D → Flags → Bool
  ends_cbw w flags =
      is_awaiting w.bulk.stage && w.bulk.gathers && runs w.ring.consumer.progress.ending && not flags.chain

  abbrev pub out_last : BulkWorld D → Front → PipeTrb → Flags → BulkWorld D × Stepped
  out_last w front trb flags = halting (received_if kind (ends_cbw w flags) (with_ring w (took_other w.ring front trb)))
