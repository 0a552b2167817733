-- All that a step of an OUT pipe may change.
use Rattle.std.specs.Prelude.{ℕ, List}
use Rattle.guest_pipes.specs.Step.{World}

-- memory, event ring and consumer; what is gathered from TRBs; the device
pub record OutWorld (D : Type 0) : Type 0 where
  pub ring : World
  pub taken : List ℕ
  pub device : D
