use Rattle.solo_model.proofs.Carried.{sound-all}
use Rattle.solo_model.proofs.machine.carry_slot.Goals as goal

pub carry_at-requires-clause-sound : goal.carry_at-requires-clause-sound
carry_at-requires-clause-sound c = rw c.heed_noted.ensures (sound-all c.args.unit.now.count c.ended_at-ended.result c.args.tasks.now c.requires.sound)
