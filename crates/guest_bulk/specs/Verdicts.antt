-- How a command ends, and its CSW (BOT 5.2 and 6.7).
use Rattle.std.specs.Prelude.{ℕ, ◌+◌, ◌-◌, ◌^◌, ◌==◌, min, nat_lt, Bool, true, false, not, ◌&&◌, if◌then◌else◌, List, length as list_length, take, drop, Option, None, Some}
use Rattle.bulk_only.specs.declared.cases.Done.{Done}
use Rattle.bulk_only.specs.declared.cases.Done.TheVariants as did
use Rattle.bulk_only.specs.declared.status.Csw.{Csw}
use Rattle.bulk_only.specs.declared.status.CswStatus.{CswStatus}
use Rattle.bulk_only.specs.Cases.{verdict_of}
use Rattle.bulk_only.specs.Status.{csw_text}
use Rattle.guest_memory.specs.Bytes.{is_there}
use Rattle.guest_memory.specs.declared.rings.context.Front.{Front}
use Rattle.guest_memory.specs.declared.rings.trb.Flags.{Flags}
use Rattle.guest_memory.specs.declared.rings.trb.PipeTrb.{PipeTrb}
use Rattle.guest_pipes.specs.Gate.{took_other}
use Rattle.guest_pipes.specs.Step.{babbled, failed, filled, poured, shortened}
use Rattle.guest_tags.specs.declared.buffer.Buffer.{Buffer}
use Rattle.guest_tags.specs.declared.device.End.{End}
use Rattle.guest_tags.specs.declared.device.End.TheVariants.{Good, Check, Response}
use Rattle.guest_tags.specs.declared.device.Phase.{Phase}
use Rattle.guest_tags.specs.declared.device.Phase.TheVariants.{Absent, Gives, Takes, Ended}
use Rattle.guest_tags.specs.Devices.{Kind}
use Rattle.guest_bulk.specs.declared.bulk.Bulk.{Bulk}
use Rattle.guest_bulk.specs.declared.bulk.BulkCommand.{BulkCommand}
use Rattle.guest_bulk.specs.declared.bulk.BulkStage.{BulkStage}
use Rattle.guest_bulk.specs.declared.bulk.BulkStage.TheVariants.{Awaits, Tells}
use Rattle.guest_bulk.specs.declared.bulk.KeptSense.{KeptSense}
use Rattle.guest_bulk.specs.Commands.{BulkWorld, at_stage, with_ring}

-- WHAT THE DEVICE DID

-- two numbers of bytes together, as 64 bits hold them
abbrev pub together : ℕ → ℕ → ℕ
together a b = min (a + b) (2 ^ 64 - 1)

-- it gives so many bytes more
abbrev pub with_given : Done → ℕ → Done
with_given did.Nothing count = did.In count
with_given (did.In given) count = did.In (together given count)
with_given (did.Out taken whole) count = did.In count

-- it would take so many bytes more
abbrev pub with_taking : Done → ℕ → Done
with_taking did.Nothing count = did.Out count 0
with_taking (did.In given) count = did.Out count 0
with_taking (did.Out taken whole) count = did.Out (together taken count) whole

-- it took a chunk of so many bytes
abbrev pub with_chunk : Done → ℕ → Done
with_chunk did.Nothing count = did.Out count count
with_chunk (did.In given) count = did.Out count count
with_chunk (did.Out taken whole) count = did.Out (together taken count) (together whole count)

-- something of a chunk to the host is left
abbrev pub has_chunk : Bulk → Bool
has_chunk bulk = not (list_length bulk.chunk == 0)

abbrev pub is_good : End → Bool
is_good Good = true
is_good Check = false
is_good Response = false

-- HOW IT ENDS

abbrev pub csw_of : BulkCommand → CswStatus × ℕ → Csw
csw_of command verdict = record { tag = command.tag; residue = verdict.1; status = verdict.0 }

-- the CSW that is to go out
abbrev pub told : BulkCommand → Done → Bool → BulkStage
told command done good = Tells (csw_of command (verdict_of command.length command.is_in done good)) 0

-- the sense data of a status that brings some are kept, behind the 16 bytes of the information unit's head; BUSY brings none
abbrev pub kept_by : End → ℕ → List ℕ → Option KeptSense
kept_by Good lun text = None
kept_by Check lun text = if nat_lt 16 (list_length text) then Some (record { lun = lun; text = record { items = text } }) else None
kept_by Response lun text = None

module _ {D : Type 0} (kind : Kind D) where
  -- the device did something else than what H and its direction say: its task is to be ended
  unfoldable pub broken_off : BulkWorld D → BulkCommand → Done → BulkWorld D
  broken_off w command done = record w { bulk = at_stage w.bulk (told command done false) }

  -- kept sense data were given
  unfoldable pub kept_told : BulkWorld D → BulkCommand → BulkWorld D
  kept_told w command = record w { bulk = at_stage w.bulk (told command command.done true) }

  -- the answer of the task is taken from the device
  unfoldable pub answered : BulkWorld D → BulkCommand → End → BulkWorld D
  answered w command end = record w {
    bulk = record (at_stage w.bulk (told command command.done (is_good end))) { kept = kept_by end command.lun (kind.status w.device 1) };
    device = kind.sent w.device 1;
  }

  -- once all H bytes have moved: by what the device does next, and nothing where that isn't known yet; whether its task is to be ended
  abbrev pub settled_by : Phase → BulkWorld D → BulkCommand → BulkWorld D × Bool
  settled_by Absent w command = (w, false)
  settled_by (Gives count) w command = (broken_off w command (with_given command.done count), true)
  settled_by (Takes count) w command = (broken_off w command (with_taking command.done count), true)
  settled_by (Ended end) w command = (answered w command end, false)

  unfoldable pub settled : BulkWorld D → BulkCommand → BulkWorld D × Bool
  settled w command =
      if has_chunk w.bulk then (broken_off w command command.done, true)
      else if command.is_kept then (kept_told w command, false)
      else settled_by (kind.phase w.device 1) w command

  -- THE CSW ON ITS WAY

  abbrev pub csw_sent : BulkWorld D → Csw → ℕ → BulkWorld D
  csw_sent w csw sent = record w { bulk = record w.bulk { stage = Tells csw sent } }

  abbrev pub csw_over : BulkWorld D → BulkWorld D
  csw_over w = record w { bulk = record w.bulk { stage = Awaits } }

  -- the TD in front has data of the command, and ends behind them as a short packet; a TRB without room is full
  unfoldable pub data_closed : BulkWorld D → Front → Buffer → BulkWorld D
  data_closed w front buffer =
      let left = buffer.length - w.ring.consumer.progress.moved in
      if left == 0 then with_ring w (filled w.ring front buffer.flags) else with_ring w (shortened w.ring front left buffer.flags)

  -- so many bytes of it go to an address
  unfoldable pub csw_poured : BulkWorld D → Csw → ℕ → ℕ → ℕ → BulkWorld D
  csw_poured w csw sent to count =
      csw_sent (with_ring w (poured w.ring to (take count (drop sent (csw_text csw))))) csw (sent + count)

  -- the buffer isn't there: it goes into the next TD
  unfoldable pub csw_lost : BulkWorld D → Csw → Front → Buffer → BulkWorld D
  csw_lost w csw front buffer = csw_sent (with_ring w (failed w.ring front buffer.length buffer.flags)) csw 0

  -- the TD ends with it: as a short packet, or full
  unfoldable pub csw_short : BulkWorld D → Front → Buffer → BulkWorld D
  csw_short w front buffer =
      csw_over (with_ring w (shortened w.ring front (buffer.length - w.ring.consumer.progress.moved) buffer.flags))

  unfoldable pub csw_full : BulkWorld D → Front → Flags → BulkWorld D
  csw_full w front flags = csw_over (with_ring w (filled w.ring front flags))

  -- the TD is shorter: the endpoint halts, and the next TD gets it whole
  unfoldable pub csw_babbled : BulkWorld D → Csw → Front → Flags → BulkWorld D
  csw_babbled w csw front flags = csw_sent (with_ring w (babbled w.ring front flags)) csw 0

  -- a TRB that is full, with all of it or not
  abbrev pub csw_on : Bool → Bool → BulkWorld D → Csw → Front → Flags → BulkWorld D
  csw_on true out w csw front flags = with_ring w (filled w.ring front flags)
  csw_on false true w csw front flags = csw_full w front flags
  csw_on false false w csw front flags = csw_babbled w csw front flags

  abbrev pub csw_moved : BulkWorld D → Csw → ℕ → Front → Buffer → BulkWorld D
  csw_moved w csw sent front buffer =
      if nat_lt w.ring.consumer.progress.moved buffer.length then csw_short w front buffer
      else csw_on buffer.flags.chain (13 - sent == 0) w csw front buffer.flags

  -- a Normal TRB takes so many bytes of it
  unfoldable pub csw_some : BulkWorld D → Csw → ℕ → ℕ → Front → Buffer → BulkWorld D
  csw_some w csw sent count front buffer =
      let to = buffer.pointer + w.ring.consumer.progress.moved in
      if is_there w.ring.memory to count then csw_moved (csw_poured w csw sent to count) csw (sent + count) front buffer
      else csw_lost w csw front buffer

  abbrev pub csw_count : BulkWorld D → ℕ → Buffer → ℕ
  csw_count w sent buffer = min (13 - sent) (buffer.length - w.ring.consumer.progress.moved)

  unfoldable pub csw_went : BulkWorld D → Csw → ℕ → Front → Buffer → BulkWorld D
  csw_went w csw sent front buffer =
      if csw_count w sent buffer == 0 then csw_moved w csw sent front buffer
      else csw_some w csw sent (csw_count w sent buffer) front buffer

  -- a Normal TRB while it is to go out
  unfoldable pub csw_ran : BulkWorld D → Csw → ℕ → Front → Buffer → BulkWorld D
  csw_ran w csw sent front buffer =
      if sent == 0 && w.ring.consumer.progress.fed then data_closed w front buffer else csw_went w csw sent front buffer

  -- another TRB, at which the TD that has bytes of it ends
  abbrev pub csw_ended : Bool → BulkWorld D → Csw → Front → PipeTrb → Flags → BulkWorld D
  csw_ended true w csw front trb flags = csw_over (with_ring w (took_other w.ring front trb))
  csw_ended false w csw front trb flags = csw_babbled w csw front flags
