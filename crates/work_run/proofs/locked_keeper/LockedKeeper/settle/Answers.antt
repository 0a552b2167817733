use Rattle.std.proofs.Common.{◌≡◌, None, rules}
use Rattle.std.proofs.Math.Logic.{∥∥₁_map}
use Rattle.work_run.specs.KeptTexts.{HasKept}
use Rattle.work_run.proofs.KeptText.{has_written, synced_more}
use Rattle.work_run.proofs.locked_keeper.LockedKeeper.settle.Goals as goal

-- what waited was written
pub invariant_of-self : goal.invariant_of-self
invariant_of-self g c =
    let old = c.args.self.now in
    let none : old.stop ≡ None = search rules in
    let text = ∥∥₁_map {B = HasKept g.J.KeptLog.tells g.J.KeptLog.tags g.J.KeptLog.units c.settle.new.self.place (g.F.KeptFile.written c.settle.new.self.writer.file)
    c.settle.new.self.waiting.items} (old.text (old.goes none)) (λ kept.
    rw c.settle.ensures.place (has_written _ _ _ _ _ _ _ _ kept c.in-Ok.ensures.bytes c.in-Ok.ensures.none)) in
    record {
      file = rw c.settle.ensures.file old.file;
      fails = rw c.settle.ensures.same old.fails;
      stopped = old.stopped;
      goes = old.goes;
      limits = old.limits;
      text = λ is. text;
      synced = λ told. synced_more c.in-Ok.has_synced _ _ _ _ _ _ _ _ text c.in-Ok.ensures.none c.in-Ok.ensures.synced told (old.synced told);
    }
