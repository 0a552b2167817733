use Rattle.solo_model.specs.Soundness.{IsSound}
use Rattle.scsi_cmd.specs.Laws.{AllHeld-held, AllHeld-set, held_at-read}
use Rattle.solo_model.proofs.machine.move_at.Goals as goal

pub move_chunk-requires : goal.move_chunk-requires
move_chunk-requires c = AllHeld-held (IsSound c.args.unit.now.count) _ _ _ c.requires.sound (held_at-read _ _ _ _ c.requires.slot c.in-Some.is)

pub returns-in-Some-clause-sound : goal.returns-in-Some-clause-sound
returns-in-Some-clause-sound c =
    AllHeld-set (IsSound c.move_chunk.new.unit.count) _ _ _ (rw c.move_chunk.ensures.count c.requires.sound) c.move_chunk.ensures.sound
