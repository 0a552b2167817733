use Rattle.nbd.proofs.Texts.{request_in-request_text}
use Rattle.nbd.proofs.transmission.request_reads_back.Goals as goal

pub returns : goal.returns
returns c = request_in-request_text c.args.request.now c.requires
