use Rattle.std.proofs.Common.{arith}
use Rattle.solo_model.proofs.Solo.settle.Goals as goal

pub invariant_of-self : goal.invariant_of-self
invariant_of-self c = record {
  number = c.self.invariant.number;
  places = omega (arith, c.settle_at-settled.auto.tasks, c.self.invariant.places);
  tasks = c.settle_at-settled.ensures.sound _ c.self.invariant.tasks;
}
