use Rattle.std.proofs.Common.{◌≡◌, ℕ, ◌+◌, ◌-◌, ◌<◌, ◌≤◌, List, ◌++◌, take, map, length}
use Rattle.std.specs.Vec.{vec_len}
use Rattle.ring_ends.specs.Counted.{IsEnd}
use Rattle.cycle_ring.specs.Items.{Item, known}
use Rattle.cycle_ring.specs.Segment.{HoldsItems}
use Rattle.cycle_ring.proofs.places.put_back.Given as goal

abbrev pub invariant-loop-trb : goal.invariant-loop-trb
invariant-loop-trb g l = record {
  within : l.end.place < g.row.N - 1;
  size : vec_len l.places ≡ g.row.N;
  holds : (at : ℕ) (put : List Item) → HoldsItems g.row.N l.base l.initial.places.items at put → length put + l.trb-index ≤ g.row.N - 2
      → IsEnd (g.row.N - 1) (at + length put) l.initial.end
      → HoldsItems g.row.N l.base l.places.items at (put ++ map known (take l.trb-index l.trbs)) × IsEnd (g.row.N - 1) (at + length put + l.trb-index) l.end;
}
