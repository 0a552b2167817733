use Rattle.usb_tags.proofs.Endings.{next_ends}
use Rattle.usb_tags.proofs.Steps.{next_balanced}
use Rattle.usb_tags.proofs.laws.each_is_answered_once.Goals as goal

pub returns-clause-once : goal.returns-clause-once
returns-clause-once c = next_balanced

pub returns-clause-place : goal.returns-clause-place
returns-clause-place c = next_ends
