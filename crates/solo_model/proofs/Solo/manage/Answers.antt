use Rattle.std.proofs.Common.{length-set}
use Rattle.scsi_cmd.specs.Laws.{AllHeld-set}
use Rattle.solo_model.specs.Laws.{IsSound-management}
use Rattle.solo_model.specs.Soundness.{IsSound}
use Rattle.solo_model.proofs.Solo.manage.Goals as goal

pub invariant_of-self : goal.invariant_of-self
invariant_of-self c = record {
  number = c.self.invariant.number;
  places = simp length-set c.self.invariant.places;
  tasks =
      AllHeld-set (IsSound c.self.inside.unit.count) c.self.inside.tasks _ _ c.self.invariant.tasks
      (IsSound-management c.self.inside.unit.count _ _ _ _ c.management.ensures);
}
