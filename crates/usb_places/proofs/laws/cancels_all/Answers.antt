use Rattle.usb_places.proofs.Cancels.{cancels_all, cancels_one, finds_each, finds_held}
use Rattle.usb_places.proofs.laws.cancels_all.Goals as goal

pub returns-clause-held : goal.returns-clause-held
returns-clause-held c = finds_held

pub returns-clause-each : goal.returns-clause-each
returns-clause-each c = finds_each

pub returns-clause-one : goal.returns-clause-one
returns-clause-one c = cancels_one

pub returns-clause-all : goal.returns-clause-all
returns-clause-all c = cancels_all
