-- The contexts show the rings.
use Rattle.std.proofs.Common.{List, subst}
use Rattle.cycle_ring.specs.Items.{ItemRing}
use Rattle.stream_array.specs.Rings.{IsShown}
use Rattle.stream_array.proofs.Named.{IsShown-streams}
use Rattle.stream_array.proofs.streams.Streams.contexts.Goals as goal

pub returns : goal.returns
returns c =
    let Shown : List ItemRing → Type 0 = λ rings. IsShown rings c.self.inside.contexts in
    subst Shown c.self.view_is (IsShown-streams c.self.inside.segments.items c.self.inside.contexts c.self.invariant.0)
