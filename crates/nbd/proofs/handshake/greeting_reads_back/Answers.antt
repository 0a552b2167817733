use Rattle.std.proofs.Common.{rules}
use Rattle.nbd.proofs.Texts.{greeting_in-greeting_text}
use Rattle.nbd.proofs.handshake.greeting_reads_back.Goals as goal

pub returns : goal.returns
returns c = greeting_in-greeting_text c.args.flags (search rules)
