use Rattle.std.proofs.Common.{ℕ, ◌*◌, List, replicate, ap, ◌∙◌}
use Rattle.scsi_cmd.specs.declared.Op.{Op}
use Rattle.uas_profile.specs.declared.TheConstants.{BLOCK_BYTES}
use Rattle.uas_work.specs.Rounds.{round_op}
use Rattle.uas_work.proofs.rounds.command.Goals as goal

pub returns : goal.returns
returns c =
    let filled = c.in_ok-filled.ensures.items_if_clones_equal (λ y e. e) in
    let bytes = c.from_vec.ensures ∙ filled ∙ ap (λ (n : ℕ). replicate (BLOCK_BYTES * n) c.fill.result) c.from-bytes.ensures
    ∙ ap (replicate (8 * BLOCK_BYTES)) c.fill.ensures in
    ap (λ (op : Op). record { op = op; buffer = c.from_vec.result }) c.op.ensures
    ∙ ap (λ (buffer : List ℕ). record { op = round_op c.args.round c.args.half; buffer = buffer }) bytes
