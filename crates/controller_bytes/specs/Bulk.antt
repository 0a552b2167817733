-- The form of Bulk-Only Transport.
use Rattle.std.specs.Prelude.{ℕ, zero, suc, Bool, false, List, Option}
use Rattle.bulk_only.specs.declared.cases.Done.{Done}
use Rattle.bulk_only.specs.declared.cases.Done.TheVariants.{Nothing, In, Out}
use Rattle.bulk_only.specs.declared.status.Csw.{Csw}
use Rattle.bulk_only.specs.declared.status.CswStatus.{CswStatus}
use Rattle.bulk_only.specs.declared.status.CswStatus.TheVariants.{Passed, Failed, PhaseError}
use Rattle.bulk_only.specs.Status.{status_byte}
use Rattle.guest_bulk.specs.declared.bulk.Bulk.{Bulk}
use Rattle.guest_bulk.specs.declared.bulk.BulkCommand.{BulkCommand}
use Rattle.guest_bulk.specs.declared.bulk.BulkStage.{BulkStage}
use Rattle.guest_bulk.specs.declared.bulk.BulkStage.TheVariants.{Awaits, Faulty, Moves, Tells}
use Rattle.guest_bulk.specs.declared.bulk.KeptSense.{KeptSense}
use Rattle.machine_bytes.specs.Forms.{Form, counted, flag, mapped, named, nothing, number, optional, pair, tagged}
use Rattle.controller_bytes.specs.Tags.{chunk_form}

-- what the device does for a command: 0, nothing; 1, it gives so many bytes (8); 2, it takes so many, and those of whole chunks (8 each)
abbrev pub done_number : Done → ℕ
done_number Nothing = 0
done_number (In given) = 1
done_number (Out taken whole) = 2

abbrev pub given_of : Done → ℕ
given_of Nothing = 0
given_of (In given) = given
given_of (Out taken whole) = 0

abbrev pub out_in : ℕ × ℕ → Done
out_in d = Out d.0 d.1

abbrev pub out_of : Done → ℕ × ℕ
out_of Nothing = (0, 0)
out_of (In given) = (0, 0)
out_of (Out taken whole) = (taken, whole)

abbrev pub done_part : ℕ → Form Done
done_part zero = nothing Nothing
done_part (suc zero) = mapped (λ (given : ℕ). In given) given_of (number 8)
done_part (suc (suc k)) = mapped out_in out_of (pair (number 8) (number 8))

abbrev pub done_form : Form Done
done_form = tagged 3 done_number done_part

-- a command under way: tag, H (4 each), to the host, logical unit (1), what is left of H (4), what the device did, whether kept sense answers it
abbrev pub command_form : Form BulkCommand
command_form = mapped to from (pair (number 4) (pair (number 4) (pair flag (pair (number 1) (pair (number 4) (pair done_form flag))))))
  where
    to : ℕ × (ℕ × (Bool × (ℕ × (ℕ × (Done × Bool))))) → BulkCommand
    to c = record {
      tag = c.0;
      length = c.1.0;
      is_in = c.1.1.0;
      lun = c.1.1.1.0;
      left = c.1.1.1.1.0;
      done = c.1.1.1.1.1.0;
      is_kept = c.1.1.1.1.1.1;
    }

    from : BulkCommand → ℕ × (ℕ × (Bool × (ℕ × (ℕ × (Done × Bool)))))
    from c = (c.tag, (c.length, (c.is_in, (c.lun, (c.left, (c.done, c.is_kept))))))

-- a CSW's status (BOT, table 5.3)
abbrev pub csw_status_at : ℕ → CswStatus
csw_status_at zero = Passed
csw_status_at (suc zero) = Failed
csw_status_at (suc (suc k)) = PhaseError

-- a CSW: tag, residue (4 each), status; and how many bytes of it the TD in front has (8)
abbrev pub told_form : Form (Csw × ℕ)
told_form = mapped to from (pair (number 4) (pair (number 4) (pair (named 3 status_byte csw_status_at) (number 8))))
  where
    to : ℕ × (ℕ × (CswStatus × ℕ)) → Csw × ℕ
    to c = (record { tag = c.0; residue = c.1.0; status = c.1.1.0 }, c.1.1.1)

    from : Csw × ℕ → ℕ × (ℕ × (CswStatus × ℕ))
    from c = (c.0.tag, (c.0.residue, (c.0.status, c.1)))

-- what comes next: 0, a CBW; 1, the reset; 2, a command's data; 3, a CSW
abbrev pub stage_number : BulkStage → ℕ
stage_number Awaits = 0
stage_number Faulty = 1
stage_number (Moves command) = 2
stage_number (Tells csw sent) = 3

abbrev pub no_command : BulkCommand
no_command = record { tag = 0; length = 0; is_in = false; lun = 0; left = 0; done = Nothing; is_kept = false }

abbrev pub command_in : BulkStage → BulkCommand
command_in Awaits = no_command
command_in Faulty = no_command
command_in (Moves command) = command
command_in (Tells csw sent) = no_command

abbrev pub no_csw : Csw
no_csw = record { tag = 0; residue = 0; status = Passed }

abbrev pub tells_in : Csw × ℕ → BulkStage
tells_in c = Tells c.0 c.1

abbrev pub told_in : BulkStage → Csw × ℕ
told_in Awaits = (no_csw, 0)
told_in Faulty = (no_csw, 0)
told_in (Moves command) = (no_csw, 0)
told_in (Tells csw sent) = (csw, sent)

abbrev pub stage_part : ℕ → Form BulkStage
stage_part zero = nothing Awaits
stage_part (suc zero) = nothing Faulty
stage_part (suc (suc zero)) = mapped (λ (command : BulkCommand). Moves command) command_in command_form
stage_part (suc (suc (suc k))) = mapped tells_in told_in told_form

abbrev pub stage_form : Form BulkStage
stage_form = tagged 4 stage_number stage_part

-- kept sense data: logical unit, and the information unit's bytes, at most 112, behind their number (1 each)
abbrev pub kept_form : Form KeptSense
kept_form = mapped to from (pair (number 1) (counted 1 112))
  where
    to : ℕ × List ℕ → KeptSense
    to k = record { lun = k.0; text = record { items = k.1 } }

    from : KeptSense → ℕ × List ℕ
    from k = (k.lun, k.text.items)

-- the transport: what comes next, the chunk to the host, what is gathered, whether a TD is, kept sense (option)
abbrev pub bulk_form : Form Bulk
bulk_form = mapped to from (pair stage_form (pair chunk_form (pair chunk_form (pair flag (optional kept_form)))))
  where
    to : BulkStage × (List ℕ × (List ℕ × (Bool × Option KeptSense))) → Bulk
    to b = record { stage = b.0; chunk = b.1.0; taken = b.1.1.0; gathers = b.1.1.1.0; kept = b.1.1.1.1 }

    from : Bulk → BulkStage × (List ℕ × (List ℕ × (Bool × Option KeptSense)))
    from b = (b.stage, (b.chunk, (b.taken, (b.gathers, b.kept))))
