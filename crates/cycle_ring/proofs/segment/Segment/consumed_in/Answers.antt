-- The bytes at the place of a consumed item decode to it, where it is a TRB.
use Rattle.std.proofs.Common.{◌+◌, ◌*◌, Some, sym, ap, ◌∙◌}
use Rattle.std.specs.Prelude.{option_and_then}
use Rattle.cycle_ring.specs.Items.{known_of}
use Rattle.cycle_ring.specs.Segment.{with_consumer}
use Rattle.cycle_ring.proofs.Names.{item_at-only}
use Rattle.cycle_ring.proofs.Consumers.{consumed_at-item, consumed-item}
use Rattle.cycle_ring.proofs.Read.{item-decoded, item-undecoded}
use Rattle.cycle_ring.proofs.segment.Segment.consumed_in.Goals as goal

pub returns-in-Ok-clause-consumed : goal.returns-in-Ok-clause-consumed
returns-in-Ok-clause-consumed g c =
    let at = c.in_ok-passed.ensures.found in
    let item = consumed-item g.row.N _ _ _ c.args.end c.args.self.now (c.args.self.now.base + 16 * c.args.place) at.0 _ _ (rw c.self.view_is at c.self.invariant) c.requires at.1 at.2 at.3
    c.in_ok-passed.ensures.within c.index.ensures in
    let known = item-decoded c.index.result.now item.0 c.in-Ok.trb _ item.2.reads c.in-Ok.ensures.no_fault c.in-Ok.ensures.reader in
    sym (ap (option_and_then known_of) item.1 ∙ ap known_of known)

pub returns-in-Ok-clause-known : goal.returns-in-Ok-clause-known
returns-in-Ok-clause-known g c =
    let at = c.in_ok-passed.ensures.found in
    let segment = rw c.self.view_is at c.self.invariant in
    let stands = item_at-only g.row.N at.0 (c.args.self.now.base + 16 * c.args.place) c.args.self.now segment.ring.least_places at.2 in
    let item = consumed-item g.row.N _ _ _ c.args.end c.args.self.now (c.args.self.now.base + 16 * c.args.place) at.0 _ _ segment c.requires at.1 at.2 at.3
    c.in_ok-passed.ensures.within c.index.ensures in
    let known = item-decoded c.index.result.now item.0 c.in-Ok.trb _ item.2.reads c.in-Ok.ensures.no_fault c.in-Ok.ensures.reader in
    let put = consumed_at-item g.row.N at.0 (c.args.self.now.base + 16 * c.args.place) (with_consumer g.row.N c.args.self.now c.args.end) at.2 at.1 in
    (at.0, (at.1, stands.1), sym put ∙ item.1 ∙ ap Some known)

pub returns-in-Err-clause-consumed : goal.returns-in-Err-clause-consumed
returns-in-Err-clause-consumed g c =
    let at = c.in_ok-passed.ensures.found in
    let item = consumed-item g.row.N _ _ _ c.args.end c.args.self.now (c.args.self.now.base + 16 * c.args.place) at.0 _ _ (rw c.self.view_is at c.self.invariant) c.requires at.1 at.2 at.3
    c.in_ok-passed.ensures.within c.index.ensures in
    let foreign = item-undecoded c.index.result.now item.0 c.in-Err.field-0 item.2.reads c.in-Err.ensures.first_fault in
    sym (ap (option_and_then known_of) item.1 ∙ ap known_of foreign)
