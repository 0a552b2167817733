-- The bytes at the consumer's end are the first pending item's, if there is one.
use Rattle.std.proofs.Common.{◌≡◌, ℕ, ◌+◌, ◌-◌, ◌*◌, ◌<◌, List, length, refl, sym, ap, ◌∙◌, arith, inl, inr}
use Rattle.std.proofs.lemmas.Bool.{cases_lt, false≢true}
use Rattle.std.proofs.lemmas.Option.{slice_get_past}
use Rattle.cycle_ring.specs.Segment.{items_before}
use Rattle.cycle_ring.proofs.Consumers.{within-consumer}
use Rattle.cycle_ring.proofs.Held.{item-there}
use Rattle.cycle_ring.proofs.segment.Segment.front_raw.Goals as goal

pub is_in_use-requires : goal.is_in_use-requires
is_in_use-requires g c = omega (arith, within-consumer g.row.N c.args.self.now c.args.end c.requires)
