use Rattle.nbd.proofs.Texts.{option_in-option_text}
use Rattle.nbd.proofs.handshake.option_reads_back.Goals as goal

pub returns : goal.returns
returns c = option_in-option_text c.args.head.now c.requires
