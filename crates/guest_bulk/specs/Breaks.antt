-- Cases 8 and 10 (BOT 6.7), whether a TD is there or not: the device takes where bytes are to come, or gives where bytes are to go to it.
use Rattle.std.specs.Prelude.{ℕ, Bool, not, ◌&&◌, if◌then◌else◌, Option, None, Some}
use Rattle.guest_tags.specs.declared.device.Phase.{Phase}
use Rattle.guest_tags.specs.declared.device.Phase.TheVariants.{Absent, Gives, Takes, Ended}
use Rattle.guest_tags.specs.Devices.{Kind}
use Rattle.guest_bulk.specs.declared.bulk.BulkCommand.{BulkCommand}
use Rattle.guest_bulk.specs.declared.bulk.BulkStage.{BulkStage}
use Rattle.guest_bulk.specs.declared.bulk.BulkStage.TheVariants.{Awaits, Faulty, Moves, Tells}
use Rattle.guest_bulk.specs.declared.bulk.Stepped.{Stepped}
use Rattle.guest_bulk.specs.Commands.{BulkWorld, gives_bytes, takes_bytes}
use Rattle.guest_bulk.specs.Incoming.{in_broken}
use Rattle.guest_bulk.specs.Outgoing.{out_broken}
use Rattle.guest_bulk.specs.Verdicts.{has_chunk}

module _ {D : Type 0} (kind : Kind D) where
  -- a step that halts a pipe so, or none
  abbrev pub Break : Type 0
  Break = Option (BulkWorld D × Stepped)

  abbrev pub in_break_by : Phase → BulkWorld D → BulkCommand → Break
  in_break_by Absent w command = None
  in_break_by (Gives count) w command = None
  in_break_by (Takes count) w command = Some (in_broken kind w command count)
  in_break_by (Ended end) w command = None

  -- Bulk-In, once what was given has gone out, and where no kept sense data are
  abbrev pub in_break_at : BulkStage → BulkWorld D → Break
  in_break_at Awaits w = None
  in_break_at Faulty w = None
  in_break_at (Moves command) w =
      if gives_bytes command && (not (has_chunk w.bulk) && not command.is_kept) then in_break_by (kind.phase w.device 1) w command else None
  in_break_at (Tells csw sent) w = None

  abbrev pub in_break : BulkWorld D → Break
  in_break w = in_break_at w.bulk.stage w

  abbrev pub out_break_by : Phase → BulkWorld D → BulkCommand → Break
  out_break_by Absent w command = None
  out_break_by (Gives count) w command = Some (out_broken kind w command count)
  out_break_by (Takes count) w command = None
  out_break_by (Ended end) w command = None

  -- Bulk-Out; kept sense data are a chunk
  abbrev pub out_break_at : BulkStage → BulkWorld D → Break
  out_break_at Awaits w = None
  out_break_at Faulty w = None
  out_break_at (Moves command) w =
      if not (takes_bytes command) then None
      else if has_chunk w.bulk then Some (out_broken kind w command 0)
      else if command.is_kept then None
      else out_break_by (kind.phase w.device 1) w command
  out_break_at (Tells csw sent) w = None

  abbrev pub out_break : BulkWorld D → Break
  out_break w = out_break_at w.bulk.stage w

  abbrev pub broke : BulkWorld D → Break → BulkWorld D × Option Stepped
  broke w None = (w, None)
  broke w (Some done) = (done.0, Some done.1)
