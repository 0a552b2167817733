-- A step that is taken so many times.
use Rattle.std.proofs.Common.{◌≡◌, ℕ, suc, ◌+◌, refl, arith}
use Rattle.uas_driver.specs.Recovery.{times}

pub times-none : {A : Type 0} (step : A → A) (a : A) → times 0 step a ≡ a
unfolding times
times-none step a = refl

times-suc : {A : Type 0} (turns : ℕ) (step : A → A) (a : A) → times (suc turns) step a ≡ step (times turns step a)
unfolding times
times-suc turns step a = refl

pub times-more : {A : Type 0} (turns : ℕ) (step : A → A) (a : A) → times (turns + 1) step a ≡ step (times turns step a)
times-more turns step a = let next : turns + 1 ≡ suc turns = omega arith in rw next (times-suc turns step a)
