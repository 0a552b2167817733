use Rattle.block_driver.proofs.Places.{found_is}
use Rattle.block_driver.proofs.events.found_in.Goals as goal

pub returns : goal.returns
returns c = found_is c.args.layout.now c.args.pointer c.found.result c.found.ensures.there c.found.ensures.every
