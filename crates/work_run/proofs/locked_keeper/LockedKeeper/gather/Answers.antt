use Rattle.std.proofs.Math.Logic.{∥∥₁_map}
use Rattle.work_run.specs.KeptTexts.{HasKept}
use Rattle.work_run.proofs.KeptText.{has_more}
use Rattle.work_run.proofs.locked_keeper.LockedKeeper.gather.Goals as goal

-- the records that were gathered
pub invariant_of-self-in_default : goal.invariant_of-self-in_default
invariant_of-self-in_default g c =
    let old = c.args.self.now in
    record {
      file = rw c.in_default.ensures.writer old.file;
      fails = rw c.in_default.ensures.writer old.fails;
      stopped = old.stopped;
      goes = old.goes;
      limits = old.limits;
      synced = rw c.in_default.ensures.writer old.synced;
      text = λ is. ∥∥₁_map {B = HasKept g.J.KeptLog.tells g.J.KeptLog.tags g.J.KeptLog.units c.gather.new.self.place (g.F.KeptFile.written c.gather.new.self.writer.file)
          c.gather.new.self.waiting.items} (old.text is) (λ kept.
          rw c.in_default.ensures.writer (has_more _ _ _ c.args.log.now _ _ _ _ _ kept c.in_default.ensures.added));
    }

-- and those before a fault
pub invariant_of-self-clause-text : goal.invariant_of-self-clause-text
invariant_of-self-clause-text g c = λ is.
    ∥∥₁_map {B = HasKept g.J.KeptLog.tells g.J.KeptLog.tags g.J.KeptLog.units c.gather.new.self.place (g.F.KeptFile.written c.gather.new.self.writer.file)
    c.gather.new.self.waiting.items} (c.args.self.now.text is) (λ kept.
    rw c.gather.ensures.writer (has_more _ _ _ c.args.log.now _ _ _ _ _ kept c.gather.ensures.added))

pub invariant_of-self-clause-synced : goal.invariant_of-self-clause-synced
invariant_of-self-clause-synced g c = rw c.gather.ensures.writer c.args.self.now.synced
