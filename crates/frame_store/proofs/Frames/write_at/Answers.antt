use Rattle.frame_store.proofs.FramesLaws.{written_at}
use Rattle.frame_store.proofs.Frames.write_at.Goals as goal

pub returns-clause-written : goal.returns-clause-written
returns-clause-written c address len is fits =
    rw c.copy_from_slice.ensures.after (written_at c.args.self.now c.args.place c.args.bytes.now address len is fits)
