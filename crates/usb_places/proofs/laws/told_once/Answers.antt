use Rattle.usb_places.proofs.ToldOnce as laws
use Rattle.usb_places.proofs.laws.told_once.Goals as goal

pub returns : goal.returns
returns c = laws.told_once
