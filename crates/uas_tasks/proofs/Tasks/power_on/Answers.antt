use Rattle.std.proofs.Common.{map}
use Rattle.std.proofs.lemmas.List.{length-map}
use Rattle.uas_tasks.specs.Machine.{powered}
use Rattle.uas_tasks.proofs.Places.{IsSoundMachine-units, shapes_of-powered, written_over}
use Rattle.uas_tasks.proofs.Tasks.power_on.Goals as goal

pub invariant_of-self : goal.invariant_of-self
invariant_of-self c =
    let units = c.self.inside.units.items in
    let units_now = rw c.deref_mut.ensures.value at c.power_units.ensures in
    rw (units_now, written_over c.self.inside.units.len units (map powered units) c.self.inside.units.ok.0 (length-map units powered))
    (IsSoundMachine-units units (map powered units) c.self.inside.stale.items c.self.inside.slots.items c.self.invariant (shapes_of-powered units))
