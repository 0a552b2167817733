use Rattle.usbredir.proofs.Replies.{device_in-text}
use Rattle.usbredir.proofs.device.answer_reads_back.Goals as goal

pub returns : goal.returns
returns c = device_in-text c.args.id c.args.packet.now c.requires.fits c.requires.few
