-- The range has room for all the bytes.
use Rattle.std.proofs.Common.{length, ap, ◌∙◌}
use Rattle.scsi_cmd.specs.Buffers.{written_at}
use Rattle.scsi_cmd.specs.Laws.{length-with_bytes_at, written_at-fits}
use Rattle.scsi_cmd.proofs.Buffer.write_at.Goals as goal

pub returns : goal.returns
returns c =
    let old = c.args.self.now in
    let bytes = c.args.bytes.now in
    let written = ap (written_at old c.args.at) c.copy_from_slice.ensures.after ∙ written_at-fits old c.args.at bytes c.requires in
    record { bytes = written; len = ap length written ∙ length-with_bytes_at old c.args.at bytes c.requires }
