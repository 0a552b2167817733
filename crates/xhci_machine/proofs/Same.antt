-- Two states of endpoints are one, or differ.
use Rattle.std.proofs.Common.{◌≡◌, true, false, refl}
use Rattle.std.specs.Prelude.{◌≢◌}
use Rattle.guest_pipes.specs.declared.consumer.EndpointState.{EndpointState}
use Rattle.guest_pipes.specs.declared.consumer.EndpointState.TheVariants.{Disabled, Running, Halted, Stopped, Error}
use Rattle.xhci_machine.specs.Turns.{same_state}

pub same_refl : (state : EndpointState) → same_state state state ≡ true
same_refl Disabled = refl
same_refl Running = refl
same_refl Halted = refl
same_refl Stopped = refl
same_refl Error = refl

pub same_not : (was now : EndpointState) → was ≢ now → same_state was now ≡ false
same_not Disabled Disabled differ = absurd (differ refl)
same_not Disabled Running differ = refl
same_not Disabled Halted differ = refl
same_not Disabled Stopped differ = refl
same_not Disabled Error differ = refl
same_not Running Disabled differ = refl
same_not Running Running differ = absurd (differ refl)
same_not Running Halted differ = refl
same_not Running Stopped differ = refl
same_not Running Error differ = refl
same_not Halted Disabled differ = refl
same_not Halted Running differ = refl
same_not Halted Halted differ = absurd (differ refl)
same_not Halted Stopped differ = refl
same_not Halted Error differ = refl
same_not Stopped Disabled differ = refl
same_not Stopped Running differ = refl
same_not Stopped Halted differ = refl
same_not Stopped Stopped differ = absurd (differ refl)
same_not Stopped Error differ = refl
same_not Error Disabled differ = refl
same_not Error Running differ = refl
same_not Error Halted differ = refl
same_not Error Stopped differ = refl
same_not Error Error differ = absurd (differ refl)
