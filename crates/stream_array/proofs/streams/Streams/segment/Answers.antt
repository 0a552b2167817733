-- A stream's ring is its segment, with what its consumer has passed.
use Rattle.std.proofs.Common.{◌≡◌, refl, subst, sym}
use Rattle.cycle_ring.specs.Items.{ItemRing}
use Rattle.stream_array.proofs.Named.{AtStream-read, ring-at, standing-at}
use Rattle.stream_array.proofs.streams.Streams.segment.Goals as goal

pub returns-clause-ring : goal.returns-clause-ring
returns-clause-ring c =
    let at = AtStream-read c.self.inside.segments.items c.self.inside.contexts c.args.self.now c.args.stream c.index.result.now c.self.invariant.0 c.self.view_is
    c.requires.some c.requires.last c.index.ensures in
    let Same : ItemRing → Type 0 = λ r. r ≡ record c.index.result.now { got = r.got } in
    subst Same (sym (ring-at _ _ _ _ _ at)) refl

pub returns-clause-standing : goal.returns-clause-standing
returns-clause-standing c =
    let at = AtStream-read c.self.inside.segments.items c.self.inside.contexts c.args.self.now c.args.stream c.index.result.now c.self.invariant.0 c.self.view_is
    c.requires.some c.requires.last c.index.ensures in
    standing-at _ _ _ _ _ at
