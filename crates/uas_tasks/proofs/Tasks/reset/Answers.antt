use Rattle.std.proofs.Common.{map}
use Rattle.std.proofs.lemmas.List.{length-map}
use Rattle.uas_tasks.specs.Machine.{attentive}
use Rattle.uas_tasks.proofs.Places.{IsSoundMachine-units, shapes_of-attentive, written_over}
use Rattle.uas_tasks.proofs.Tasks.reset.Goals as goal

pub invariant_of-self : goal.invariant_of-self
invariant_of-self c =
    let units = c.self.inside.units.items in
    let units_now = rw c.deref_mut.ensures.value at c.establish_attentions.ensures in
    rw (units_now, written_over c.self.inside.units.len units (map attentive units) c.self.inside.units.ok.0 (length-map units attentive))
    (IsSoundMachine-units units (map attentive units) c.self.inside.stale.items c.self.inside.slots.items c.self.invariant (shapes_of-attentive units))
