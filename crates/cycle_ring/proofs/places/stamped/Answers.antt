-- Byte 12 alone is written.
use Rattle.std.proofs.Common.{◌≡◌, ◌+◌, ◌*◌, ◌/◌, ℕ, set, slice_index, ap, rules}
use Rattle.xhci_trb.specs.Text.{bit}
use Rattle.cycle_ring.specs.Items.{stamped}
use Rattle.cycle_ring.proofs.places.stamped.Goals as goal

pub returns : goal.returns
unfolding stamped
returns c =
    let bytes = c.args.bytes.now in
    let low : c.from.result ≡ bit c.args.cycle = search rules in
    ap (λ (x : ℕ). set bytes 12 (slice_index bytes 12 / 2 * 2 + x)) low
