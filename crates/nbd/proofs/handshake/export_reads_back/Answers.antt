use Rattle.nbd.proofs.Texts.{export_in-export_text}
use Rattle.nbd.proofs.handshake.export_reads_back.Goals as goal

pub returns : goal.returns
returns c = export_in-export_text c.args.export.now c.requires
