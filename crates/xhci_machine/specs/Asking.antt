-- What a call of `work_asking` makes of memory and the controller: calls of `work` of one step each, up to the first step that lacks memory.
use Rattle.std.specs.Prelude.{◌≡◌, ℕ, zero, suc, ◌<◌, Bool, true, false, Option, Some, None}
use Rattle.guest_memory.specs.Bytes.{Memory}
use Rattle.guest_memory.specs.declared.rings.wanting.Range.{Range}
use Rattle.xhci_machine.specs.declared.Machine.{Machine}
use Rattle.xhci_machine.specs.declared.work.Worked.{Worked}
use Rattle.xhci_machine.specs.Wanted.{wanted}
use Rattle.xhci_machine.specs.Worked.{IsWorked}

-- a call of `work` with a budget of 1, where nothing is wanted, that says so of what there is to do
abbrev pub StepWorked : Bool → Memory × Machine → Memory × Machine → Type 0
StepWorked more before after =
    (wanted before.0 before.1 ≡ None) × (worked : Worked) × IsWorked 1 before.0 before.1 after.0 after.1 worked × (worked.more ≡ more)

-- so many of them, each of which took its step
abbrev pub StepsWorked : ℕ → Memory × Machine → Memory × Machine → Type 0
StepsWorked zero at after = after ≡ at
StepsWorked (suc n) at after = (before : Memory × Machine) × StepsWorked n at before × StepWorked true before after

-- the budget is used up, or one more call took no step
abbrev pub AskingEnds : Bool → ℕ → ℕ → Memory × Machine → Memory × Machine → Type 0
AskingEnds true budget steps at after = (steps ≡ budget) × (after ≡ at)
AskingEnds false budget steps at after = (steps < budget) × StepWorked false at after

-- the next step would lack memory, and the range is named that it lacks first; else none is
abbrev pub AskingOver : Option Range → ℕ → Worked → Memory × Machine → Memory × Machine → Type 0
AskingOver (Some range) budget worked at after = (worked.steps < budget) × (worked.more ≡ true) × (wanted at.0 at.1 ≡ Some range) × (after ≡ at)
AskingOver None budget worked at after = AskingEnds worked.more budget worked.steps at after

pub record IsAsked (budget : ℕ) (before after : Memory × Machine) (worked : Worked) (named : Option Range) : Type 0 where
  pub at : Memory × Machine
  pub taken : StepsWorked worked.steps before at
  pub over : AskingOver named budget worked at after

-- of a call of `work` with a budget of 1: it took one step, or none
abbrev pub TookOne : Worked → Type 0
TookOne worked = (worked.more ≡ true → worked.steps ≡ 1) × (worked.more ≡ false → worked.steps ≡ 0)
