use Rattle.std.proofs.Common.{arith}
use Rattle.solo_model.proofs.Solo.send.Goals as goal

pub invariant_of-self : goal.invariant_of-self
invariant_of-self c = record {
  number = c.self.invariant.number;
  places = omega (arith, c.send_at.auto.tasks, c.self.invariant.places);
  tasks = c.send_at.ensures.sound _ c.self.invariant.tasks;
}
