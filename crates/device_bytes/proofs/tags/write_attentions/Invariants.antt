use Rattle.std.proofs.Common.{◌≡◌, drop}
use Rattle.machine_bytes.specs.Sparse.{places_write}
use Rattle.device_bytes.specs.Devices.{attentions_of, unit_place}
use Rattle.device_bytes.proofs.Places.{HasAt}
use Rattle.device_bytes.proofs.tags.write_attentions.Given as goal

-- those that are left, written behind, are all of them; those so far have the form
abbrev pub invariant-loop-number : goal.invariant-loop-number
invariant-loop-number l = record {
  wrote : places_write unit_place (l.cells, l.place) l.number (drop l.number (attentions_of l.tasks.units))
      ≡ places_write unit_place (l.fn.cells, l.fn.first) 0 (attentions_of l.tasks.units);
  has : HasAt unit_place (attentions_of l.tasks.units) l.number;
}
