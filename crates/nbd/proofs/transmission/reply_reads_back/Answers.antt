use Rattle.nbd.proofs.Texts.{reply_in-reply_text}
use Rattle.nbd.proofs.transmission.reply_reads_back.Goals as goal

pub returns : goal.returns
returns c = reply_in-reply_text c.args.reply.now c.requires
