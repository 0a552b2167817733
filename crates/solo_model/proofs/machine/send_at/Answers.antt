use Rattle.solo_model.specs.Soundness.{IsSound}
use Rattle.scsi_cmd.specs.Laws.{AllHeld-held, AllHeld-set, held_at-read}
use Rattle.solo_model.proofs.machine.send_at.Goals as goal

pub returns-in-Some-clause-sound : goal.returns-in-Some-clause-sound
returns-in-Some-clause-sound c = λ count all.
    AllHeld-set (IsSound count) c.args.tasks.now c.args.slot _ all
    (c.send.ensures.sound count (AllHeld-held (IsSound count) c.args.tasks.now c.args.slot _ all (held_at-read _ _ _ _ c.requires.slot c.in-Some.is)))
