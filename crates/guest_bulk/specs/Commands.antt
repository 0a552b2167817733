-- A CBW on Bulk-Out, and what it begins (BOT 5.1, 6.2 and 6.6.1).
use Rattle.std.specs.Prelude.{ℕ, ◌-◌, ◌%◌, ◌==◌, min, Bool, true, false, not, ◌&&◌, List, [], ◌++◌, length as list_length, take, drop, slice_index, Option, None, Some, Result, Ok, Err}
use Rattle.bulk_only.specs.declared.cases.Done.{Done}
use Rattle.bulk_only.specs.declared.cases.Done.TheVariants as did
use Rattle.bulk_only.specs.declared.command.Cbw.{Cbw}
use Rattle.bulk_only.specs.declared.command.CbwFault.{CbwFault}
use Rattle.bulk_only.specs.Command.{cbw_in, cleared_lun}
use Rattle.guest_memory.specs.declared.rings.context.Front.{Front}
use Rattle.guest_pipes.specs.Step.{World, failed, filled, with_progress}
use Rattle.guest_tags.specs.declared.buffer.Buffer.{Buffer}
use Rattle.guest_tags.specs.Devices.{Kind}
use Rattle.guest_out.specs.Immediate.{bytes_out}
use Rattle.uas_iu.specs.declared.Iu.TheVariants.{Command}
use Rattle.uas_iu.specs.Lun.{lun_text}
use Rattle.uas_iu.specs.Units.{unit_text}
use Rattle.guest_bulk.specs.declared.bulk.Bulk.{Bulk}
use Rattle.guest_bulk.specs.declared.bulk.BulkCommand.{BulkCommand}
use Rattle.guest_bulk.specs.declared.bulk.BulkStage.{BulkStage}
use Rattle.guest_bulk.specs.declared.bulk.BulkStage.TheVariants.{Awaits, Faulty, Moves, Tells}
use Rattle.guest_bulk.specs.declared.bulk.Halting.{Halting}
use Rattle.guest_bulk.specs.declared.bulk.Halting.TheVariants.{Nothing, Both}
use Rattle.guest_bulk.specs.declared.bulk.KeptSense.{KeptSense}
use Rattle.guest_out.specs.Immediate.{tallied}

-- all that a step may change: memory, event ring and consumer; the transport; the device
pub record BulkWorld (D : Type 0) : Type 0 where
  pub ring : World
  pub bulk : Bulk
  pub device : D

abbrev pub with_ring : {D : Type 0} → BulkWorld D → World → BulkWorld D
with_ring w ring = record w { ring = ring }

-- nothing of a command is left, and this comes next
abbrev pub at_stage : Bulk → BulkStage → Bulk
at_stage bulk stage = record bulk { stage = stage; chunk = []; taken = []; gathers = false }

-- the reset FFh: a CBW is awaited
abbrev pub bulk_reset : Bulk → Bulk
bulk_reset bulk = at_stage bulk Awaits

-- as made: no sense data are kept either
abbrev pub bulk_restarted : Bulk → Bulk
bulk_restarted bulk = record (at_stage bulk Awaits) { kept = None }

-- until the reset both endpoints stay halted (6.6.1)
abbrev pub reset_due : BulkStage → Bool
reset_due Awaits = false
reset_due Faulty = true
reset_due (Moves command) = false
reset_due (Tells csw sent) = false

-- the dequeue pointer of Bulk-Out was set: what came of a CBW is forgotten
abbrev pub out_forgotten : Bulk → BulkStage → Bulk
out_forgotten bulk Awaits = record bulk { taken = []; gathers = false }
out_forgotten bulk Faulty = bulk
out_forgotten bulk (Moves command) = bulk
out_forgotten bulk (Tells csw sent) = bulk

-- that of Bulk-In was set: a CSW goes from its start again
abbrev pub in_forgotten : Bulk → BulkStage → Bulk
in_forgotten bulk Awaits = bulk
in_forgotten bulk Faulty = bulk
in_forgotten bulk (Moves command) = bulk
in_forgotten bulk (Tells csw sent) = record bulk { stage = Tells csw 0 }

-- SENSE DATA

-- of the information unit that told it: what stands behind its 16 bytes
abbrev pub sense_of : KeptSense → List ℕ
sense_of kept = drop 16 kept.text.items

-- REQUEST SENSE, 03h, without DESC (SPC-4, 6.39)
abbrev pub is_request_sense : List ℕ → Bool
is_request_sense cdb = slice_index cdb 0 == 3 && slice_index cdb 1 % 2 == 0

-- sense data that are kept answer a REQUEST SENSE of their logical unit
abbrev pub is_for : KeptSense → Cbw → Bool
is_for kept cbw = kept.lun == cbw.lun && is_request_sense cbw.cdb

-- cut to the allocation length
abbrev pub sense_for : KeptSense → Cbw → List ℕ
sense_for kept cbw = take (slice_index cbw.cdb 4) (sense_of kept)

-- WHAT A CBW BEGINS

-- Command of tag 1, the only task. Worked: of READ(10) on logical unit 1 it is 01 00 00 01, 00 00 00 00, 00 01 and six zeros, and the CDB.
abbrev pub unit_of : Cbw → List ℕ
unit_of cbw = unit_text (Command 1 (lun_text cbw.lun) (cleared_lun cbw.cdb cbw.lun))

-- all H bytes are still to move
abbrev pub command_of : Cbw → Done → Bool → BulkCommand
command_of cbw done is_kept = record {
  tag = cbw.tag;
  length = cbw.length;
  is_in = cbw.is_in;
  lun = cbw.lun;
  left = cbw.length;
  done = done;
  is_kept = is_kept;
}

-- its bytes go to the device, and are on their way
abbrev pub takes_bytes : BulkCommand → Bool
takes_bytes command = not command.is_in && not (command.left == 0)

-- the same to the host
abbrev pub gives_bytes : BulkCommand → Bool
gives_bytes command = command.is_in && not (command.left == 0)

-- so many bytes more moved
abbrev pub with_moved : BulkCommand → ℕ → BulkCommand
with_moved command count = record command { left = command.left - count }

module _ {D : Type 0} (kind : Kind D) where
  -- kept sense data are given, and no task begins
  unfoldable pub kept_begun : BulkWorld D → KeptSense → Cbw → BulkWorld D
  kept_begun w kept cbw =
      let sense = sense_for kept cbw in
      record w { bulk = record { stage = Moves (command_of cbw (did.In (list_length sense)) true); chunk = sense; taken = []; gathers = false; kept = None } }

  -- the device receives the command
  unfoldable pub task_begun : BulkWorld D → Cbw → BulkWorld D
  task_begun w cbw = record w {
    bulk = record { stage = Moves (command_of cbw did.Nothing false); chunk = []; taken = []; gathers = false; kept = None };
    device = (kind.received w.device (unit_of cbw)).0;
  }

  -- a CBW forgets sense data that are kept
  abbrev pub begun_if : Bool → BulkWorld D → KeptSense → Cbw → BulkWorld D
  begun_if true w kept cbw = kept_begun w kept cbw
  begun_if false w kept cbw = task_begun w cbw

  abbrev pub begun_by : Option KeptSense → BulkWorld D → Cbw → BulkWorld D
  begun_by None w cbw = task_begun w cbw
  begun_by (Some kept) w cbw = begun_if (is_for kept cbw) w kept cbw

  -- bytes that aren't a valid CBW halt both endpoints
  abbrev pub cbw_taken : Result Cbw CbwFault → BulkWorld D → BulkWorld D × Halting
  cbw_taken (Err fault) w = (record w { bulk = at_stage w.bulk Faulty }, Both)
  cbw_taken (Ok cbw) w = (begun_by w.bulk.kept (record w { bulk = record w.bulk { kept = None } }) cbw, Nothing)

  -- what was gathered, where its TD ends
  abbrev pub received_if : Bool → BulkWorld D → BulkWorld D × Halting
  received_if true w = cbw_taken (cbw_in w.bulk.taken) w
  received_if false w = (w, Nothing)

  -- the buffer isn't there: no CBW comes of the TD
  unfoldable pub cbw_lost : BulkWorld D → Front → Buffer → BulkWorld D
  cbw_lost w front buffer = record w { ring = failed w.ring front buffer.length buffer.flags; bulk = record w.bulk { taken = []; gathers = false } }

  unfoldable pub cbw_gathered : BulkWorld D → List ℕ → Front → Buffer → BulkWorld D
  cbw_gathered w bytes front buffer = record w {
    ring = filled (with_progress w.ring (tallied w.ring.consumer.progress buffer.length)) front buffer.flags;
    bulk = record w.bulk { taken = w.bulk.taken ++ bytes; gathers = true };
  }

  -- how many bytes of a TRB are gathered: up to 1,024 of a TD, which is no CBW then
  abbrev pub cbw_count : BulkWorld D → Buffer → ℕ
  cbw_count w buffer = min buffer.length (1024 - list_length w.bulk.taken)

  abbrev pub cbw_drawn : Option (List ℕ) → BulkWorld D → Front → Buffer → BulkWorld D × Halting
  cbw_drawn None w front buffer = (cbw_lost w front buffer, Nothing)
  cbw_drawn (Some bytes) w front buffer = received_if (not buffer.flags.chain) (cbw_gathered w bytes front buffer)

  -- a Normal TRB of a CBW
  unfoldable pub cbw_ran : BulkWorld D → Front → Buffer → BulkWorld D × Halting
  cbw_ran w front buffer = cbw_drawn (bytes_out w.ring.memory buffer 0 (cbw_count w buffer)) w front buffer
