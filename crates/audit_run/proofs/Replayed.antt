-- Steps that were booked without a fault, and what their replay comes to.
use Rattle.std.proofs.Common.{◌≡◌, ℕ, zero, suc, ◌+◌, ◌<◌, ◌≤◌, List, [], ◌∷◌, length, get_or, drop, None, refl, arith, ap, sym, ◌∙◌}
use Rattle.std.proofs.lemmas.List.{at_drop_more}
use Rattle.std.specs.List.{AllByRecursion}
use Rattle.shared_machine.specs.declared.Step.{Step}
use Rattle.shared_machine.specs.declared.Step.TheVariants.{Submit, Task, CommandPipe, Data, Status, Engine, Event, Retire, Take}
use Rattle.shared_machine.specs.Bus.{AllTicketed, HasTicket}
use Rattle.shared_machine.specs.Shared.{Shared}
use Rattle.log_text.specs.declared.Version.{Version}
use Rattle.log_text.specs.Text.{StepFits}
use Rattle.audit_run.specs.replay.Replaying.{first_fault}

-- a step within the limits of a text has a small ticket
step-ticketed : (version : Version) (clients : ℕ) (step : Step) → StepFits version clients step → HasTicket step
step-ticketed version clients (Submit client tag ticket command) fits = fits.2
step-ticketed version clients (Task client ticket task) fits = fits.1
step-ticketed version clients CommandPipe fits = tt
step-ticketed version clients (Data tag) fits = tt
step-ticketed version clients (Status tag) fits = tt
step-ticketed version clients Engine fits = tt
step-ticketed version clients Event fits = tt
step-ticketed version clients (Retire pipe tag) fits = tt
step-ticketed version clients (Take client) fits = tt

pub all-ticketed : (version : Version) (clients : ℕ) (steps : List Step) → AllByRecursion (StepFits version clients) steps → AllTicketed steps
all-ticketed version clients [] all = tt
all-ticketed version clients (step ∷ rest) all = (step-ticketed version clients step all.0, all-ticketed version clients rest all.1)

pub ticketed-at : (steps : List Step) (k : ℕ) (step : Step) → AllTicketed steps → k < length steps → step ≡ get_or steps k step → HasTicket step
ticketed-at [] k step all within is = absurd (omega arith)
ticketed-at (one ∷ rest) zero step all within is = rw is all.0
ticketed-at (one ∷ rest) (suc k) step all within is = ticketed-at rest k step all.1 (omega arith) is

-- no fault is left behind the last step
pub fault-end : (number : ℕ) (state : Shared) (steps : List Step) (k : ℕ) → length steps ≤ k → first_fault number state (drop k steps) ≡ None
unfolding first_fault
fault-end number state [] zero ends = refl
fault-end number state [] (suc k) ends = refl
fault-end number state (step ∷ rest) zero ends = absurd (omega arith)
fault-end number state (step ∷ rest) (suc k) ends = fault-end number state rest k (omega arith)

-- the first fault of what is left is that of a step and the rest
pub fault-here : (number : ℕ) (state : Shared) (steps : List Step) (k : ℕ) (step : Step) → k < length steps → step ≡ get_or steps k step
    → first_fault number state (drop k steps) ≡ first_fault number state (step ∷ drop (k + 1) steps)
fault-here number state steps k step within is =
    at_drop_more (first_fault number state) steps k step within
    ∙ ap (λ one. first_fault number state (one ∷ drop (k + 1) steps)) (sym is)
