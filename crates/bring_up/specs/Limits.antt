-- That waits end.
use Rattle.std.specs.Prelude.{◌≡◌, ℕ, ◌⊎◌, Some, None}
use Rattle.bring_up.specs.declared.waits.Wait.{Wait}
use Rattle.bring_up.specs.declared.waits.Waited.{Waited}
use Rattle.bring_up.specs.declared.waits.Waited.TheVariants.{So, Late, On}
use Rattle.bring_up.specs.Accesses.{later}

abbrev pub GoesOn : Waited → Type 0
GoesOn So = ⊥
GoesOn Late = ⊥
GoesOn (On wait) = Unit {0}

-- a wait that goes on keeps its limit, and rests for a period at most
abbrev pub WaitGoesOn : Wait → ℕ → ℕ → Waited → Type 0
WaitGoesOn wait now period So = Unit {0}
WaitGoesOn wait now period Late = Unit {0}
WaitGoesOn wait now period (On next) = (next.limit ≡ wait.limit) × ((next.rest ≡ None) ⊎ (next.rest ≡ Some (later now period)))
