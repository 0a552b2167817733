use Rattle.std.proofs.Common.{◌≡◌, ℕ, drop, map}
use Rattle.machine_bytes.specs.Sparse.{places_write}
use Rattle.device_bytes.specs.Devices.{saved_tag, tag_place}
use Rattle.device_bytes.proofs.Places.{HasAt, plain_place}
use Rattle.device_bytes.proofs.tags.write_tags.Given as goal

-- those that are left, written behind, are all of them; those so far have the form
abbrev pub invariant-loop-at : goal.invariant-loop-at
invariant-loop-at l = record {
  wrote : (chunk : ℕ) → places_write (tag_place l.tasks.units chunk) (l.cells, l.place) l.at (drop l.at (map saved_tag l.tasks.slots))
      ≡ places_write (tag_place l.tasks.units chunk) (l.fn.cells, l.fn.first) 0 (map saved_tag l.tasks.slots);
  has : HasAt plain_place (map saved_tag l.tasks.slots) l.at;
}
