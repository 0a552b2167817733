use Rattle.std.proofs.Common.{rules}
use Rattle.nbd.proofs.Texts.{request_in-named, request_text-request_in}
use Rattle.nbd.proofs.transmission.request_writes_back.Goals as goal

pub returns-clause-text : goal.returns-clause-text
returns-clause-text c = request_text-request_in c.args.bytes.now (search rules) (search rules)

pub returns-clause-named : goal.returns-clause-named
returns-clause-named c = request_in-named c.args.bytes.now
