use Rattle.std.proofs.Common.{refl, ◌∙◌}
use Rattle.work_run.proofs.KeptText.{has_begun, head_beginning}
use Rattle.work_run.proofs.locked_keeper.LockedKeeper.new.Goals as goal

-- the head alone
pub invariant_of-result : goal.invariant_of-result
invariant_of-result g c = record {
  file = c.requires.file;
  fails = c.requires.fails;
  stopped = λ is. absurd cc;
  goes = λ is. refl;
  limits = λ is. absurd cc;
  text = λ is. ∣ has_begun _ _ _ _ _ _ c.requires.head c.requires.none c.requires.place ∣₁;
  synced = λ told. ∣ head_beginning _ _ _ (c.requires.synced ∙ c.requires.head told) ∣₁;
}
