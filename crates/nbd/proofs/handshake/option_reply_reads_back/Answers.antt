use Rattle.nbd.proofs.Texts.{option_reply_in-option_reply_text}
use Rattle.nbd.proofs.handshake.option_reply_reads_back.Goals as goal

pub returns : goal.returns
returns c = option_reply_in-option_reply_text c.args.head.now c.requires
