-- The bytes of a log with one entry more.
use Rattle.std.proofs.Common.{◌≡◌, ◌+◌, Bool, true, false, cond, Option, Some, None, refl, arith}
use Rattle.std.specs.Prelude.{option_to_list, sum_by}
use Rattle.std.specs.Option.{option_map_or}
use Rattle.std.proofs.lemmas.List.Sums.{sum_by-append, sum_by_push}
use Rattle.scsi_cmd.specs.declared.Reply.{Reply}
use Rattle.shared_machine.specs.declared.Outcome.{Outcome}
use Rattle.shared_machine.specs.declared.Step.{Step}
use Rattle.shared_machine.specs.Laws.{reply_len}
use Rattle.shared_machine.specs.Shared.{Shared, due, shared_step}
use Rattle.shared_machine.proofs.Replying.{shared_step-room}
use Rattle.uas_log.specs.declared.Log.{Log}
use Rattle.uas_log.specs.Booking.{with_entry}
use Rattle.uas_work.specs.Booked.{booked_step}
use Rattle.bounded_log.specs.Bytes.{Bounded, bytes_after, entry_bytes, log_bytes, step_bytes}

brought : (reply : Option Reply) → sum_by reply_len (option_to_list reply) ≡ option_map_or reply_len reply 0
brought None = refl
brought (Some reply) = omega arith

entered : (log : Log) (step : Step) (outcome : Outcome)
    → log_bytes (with_entry log step outcome) ≡ log_bytes log + (step_bytes step + option_map_or reply_len outcome.reply 0)
entered log step outcome =
    omega (
      arith,
      sum_by_push step_bytes log.steps step,
      sum_by-append reply_len log.replies (option_to_list outcome.reply),
      brought outcome.reply,
    )

chosen : (acts : Bool) (bus : Shared) (log : Log) (step : Step)
    → log_bytes (cond acts (with_entry log step (shared_step bus step).1) log) ≡ log_bytes log + cond acts (entry_bytes bus step) 0
chosen true bus log step = omega (arith, entered log step (shared_step bus step).1, shared_step-room bus step)
chosen false bus log step = omega arith

-- the entries of a booked bus take as many as was told before the step
pub stepped_bytes : (it : Bounded) (step : Step) → it.bytes ≡ log_bytes it.booked.log
    → log_bytes (booked_step it.booked step).0.log ≡ bytes_after it step
stepped_bytes it step counted = omega (arith, chosen (due it.booked.bus step) it.booked.bus it.booked.log step, counted)
