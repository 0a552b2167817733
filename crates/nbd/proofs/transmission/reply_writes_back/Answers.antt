use Rattle.std.proofs.Common.{rules}
use Rattle.nbd.proofs.Texts.{reply_text-reply_in}
use Rattle.nbd.proofs.transmission.reply_writes_back.Goals as goal

pub returns : goal.returns
returns c = reply_text-reply_in c.args.bytes.now (search rules) (search rules)
