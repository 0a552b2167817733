use Rattle.usbredir.proofs.Requests.{guest_in-text}
use Rattle.usbredir.proofs.guest.request_reads_back.Goals as goal

pub returns : goal.returns
returns c = guest_in-text c.args.id c.args.count c.args.packet.now c.requires.fits c.requires.data c.requires.few
