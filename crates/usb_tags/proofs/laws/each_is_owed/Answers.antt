use Rattle.usb_tags.proofs.Packets.{received_owing}
use Rattle.usb_tags.proofs.laws.each_is_owed.Goals as goal

pub returns : goal.returns
returns c = received_owing
