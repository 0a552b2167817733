use Rattle.cycle_ring.proofs.Read.{item_read-text, item_read-stamped}
use Rattle.cycle_ring.proofs.laws.items_are_read.Goals as goal

pub returns : goal.returns
returns c = record { texts = item_read-text; cycle = item_read-stamped }
