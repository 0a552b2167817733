-- The bytes at the place of a consumed item have its Chain bit.
use Rattle.std.proofs.Common.{List, ℕ, Some, sym, ap, ◌∙◌}
use Rattle.std.specs.Prelude.{option_map}
use Rattle.xhci_trb.specs.Words.{words_in}
use Rattle.ring_ends.specs.Held.{chain_in}
use Rattle.cycle_ring.specs.Items.{item_chain}
use Rattle.cycle_ring.proofs.Consumers.{consumed-item}
use Rattle.cycle_ring.proofs.Read.{chain_in-item}
use Rattle.cycle_ring.proofs.segment.Segment.consumed_chain.Goals as goal

pub returns : goal.returns
returns g c =
    let at = c.in_ok-place.ensures.found in
    let item = consumed-item g.row.N _ _ _ c.args.end c.args.self.now c.args.pointer at.0 _ _ (rw c.self.view_is at c.self.invariant) c.requires at.1 at.2 at.3
    c.in_ok-place.ensures.within c.index.ensures in
    let bit = c.chain_bit.ensures.bit ∙ ap (λ (b : List ℕ). chain_in (words_in b)) item.2.bytes_are ∙ chain_in-item item.0 _ item.3 in
    ap Some bit ∙ ap (option_map item_chain) (sym item.1)
