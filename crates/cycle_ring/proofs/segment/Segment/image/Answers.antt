-- The bytes at a place in use are its item's.
use Rattle.std.proofs.Common.{◌≡◌, Some, get_or, sym, ap, ◌∙◌, arith}
use Rattle.cycle_ring.specs.Items.{item_text}
use Rattle.cycle_ring.proofs.Held.{item-there}
use Rattle.cycle_ring.proofs.segment.Segment.image.Goals as goal

pub returns-then-is_in_use-clause-item : goal.returns-then-is_in_use-clause-item
returns-then-is_in_use-clause-item g c k within at =
    let segment = rw c.self.view_is at c.self.invariant in
    let item = c.item_at.result in
    let same = c.item_at.ensures.only k within (sym at) in
    let used = (c.is_in_use.ensures item c.item_at.ensures.bound c.end_at.ensures.end).0 c.if-is_in_use.true in
    let place : c.end_at.result.place ≡ c.args.place = c.end_at.ensures.end.place ∙ c.item_at.ensures.place in
    let there : c.index.result.now ≡ get_or c.self.inside.places.items c.end_at.result.place c.index.result.now = rw place c.index.ensures in
    let held = item-there g.row.N _ _ _ c.end_at.result _ item _ segment c.end_at.ensures.end used (omega arith) there in
    rw (same, held.1) (ap Some (held.2.bytes_are ∙ ap (item_text held.0) c.end_at.ensures.end.cycle))
