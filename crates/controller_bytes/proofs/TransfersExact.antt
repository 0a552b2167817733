-- The form of the pipes is exact.
use Rattle.std.proofs.Common.{refl}
use Rattle.machine_bytes.specs.Exact.{IsExact}
use Rattle.machine_bytes.proofs.Exact.{counted-exact, mapped-exact, number-exact, pair-exact}
use Rattle.controller_bytes.specs.Transfers.{pipes_form}
use Rattle.controller_bytes.proofs.ConsumersExact.{consumer-exact}
use Rattle.controller_bytes.proofs.PipesExact.{pipe-exact}

pub pipes-exact : IsExact pipes_form
pipes-exact =
    mapped-exact _ _ _ (pair-exact _ _ consumer-exact (pair-exact _ _ (number-exact 8) (pair-exact _ _ (counted-exact 2 4096) (pair-exact _ _ pipe-exact
    (pair-exact _ _ pipe-exact pipe-exact))))) (λ t has. refl)
