-- The bytes with the producer's Cycle bit are those of their item.
use Rattle.std.proofs.Common.{sym, ◌∙◌}
use Rattle.cycle_ring.specs.Items.{item_read}
use Rattle.cycle_ring.proofs.places.put_raw_back.Goals as goal

pub returns-clause-holds : goal.returns-clause-holds
returns-clause-holds g c at put holds room is =
    let text = rw (← c.stamped-text.ensures) at c.raw_reads_back.ensures.text in
    c.put.ensures.holds at put (item_read c.args.bytes.now) holds room is text (c.chain_bit.ensures.bit ∙ sym c.raw_reads_back.ensures.chain)
