-- What the workers take who have no client: the controller, and the dispatcher of events and retirements. A gate says which steps are
-- allowed: says step true where it allowed the step, says step false where it didn't.
use Rattle.std.specs.Prelude.{◌≡◌, ℕ, ◌<◌, ◌≤◌, Bool, true, false}
use Rattle.uas_profile.specs.declared.Pipe.{Pipe}
use Rattle.uas_profile.specs.declared.Pipe.TheVariants.{Command, Status as StatusPipe, DataIn, DataOut}
use Rattle.shared_machine.specs.declared.Step.{Step}
use Rattle.shared_machine.specs.declared.Step.TheVariants.{Submit, Task, CommandPipe, Data, Status, Engine, Event, Retire, Take}
use Rattle.shared_machine.specs.Bus.{HasTicket}
use Rattle.shared_machine.specs.Shared.{Shared, due, greatest_tag}
use Rattle.uas_work.specs.Booked.{BookedState, booked_step}

-- WHOSE A STEP IS

-- the tag is one of a client that is there
abbrev pub IsTag : Shared → ℕ → Type 0
IsTag state tag = (0 < tag) × (tag ≤ greatest_tag state)

-- what the controller and the device do
abbrev pub IsControl : Shared → Step → Type 0
IsControl state (Submit client tag ticket command) = ⊥
IsControl state (Task client ticket task) = ⊥
IsControl state CommandPipe = Unit {0}
IsControl state (Data tag) = IsTag state tag
IsControl state (Status tag) = IsTag state tag
IsControl state Engine = Unit {0}
IsControl state Event = ⊥
IsControl state (Retire pipe tag) = ⊥
IsControl state (Take client) = ⊥

-- a TD is left over on a pipe with streams alone
abbrev pub IsRetirementOn : Shared → Pipe → ℕ → Type 0
IsRetirementOn state Command tag = ⊥
IsRetirementOn state StatusPipe tag = IsTag state tag
IsRetirementOn state DataIn tag = IsTag state tag
IsRetirementOn state DataOut tag = IsTag state tag

-- what the host does for no client in particular
abbrev pub IsDispatch : Shared → Step → Type 0
IsDispatch state (Submit client tag ticket command) = ⊥
IsDispatch state (Task client ticket task) = ⊥
IsDispatch state CommandPipe = ⊥
IsDispatch state (Data tag) = ⊥
IsDispatch state (Status tag) = ⊥
IsDispatch state Engine = ⊥
IsDispatch state Event = Unit {0}
IsDispatch state (Retire pipe tag) = IsRetirementOn state pipe tag
IsDispatch state (Take client) = ⊥

-- WHAT IS FOUND

-- a step isn't due, or wasn't allowed
abbrev pub IsLeft : (Step → Bool → Type 0) → Shared → Step → Type 0
IsLeft says state step = due state step ≡ true → says step false

-- no step of this kind is both due and allowed
abbrev pub AreLeft : (Shared → Step → Type 0) → (Step → Bool → Type 0) → Shared → Type 0
AreLeft kind says state = (step : Step) → kind state step → IsLeft says state step

-- so it is of such steps of the tags up to this one
abbrev pub AreLeftUpTo : (ℕ → Step) → (Step → Bool → Type 0) → Shared → ℕ → Type 0
AreLeftUpTo step says state upto = (tag : ℕ) → 0 < tag → tag ≤ upto → IsLeft says state (step tag)

-- and of the tags below this one
abbrev pub AreLeftBelow : (ℕ → Step) → (Step → Bool → Type 0) → Shared → ℕ → Type 0
AreLeftBelow step says state below = (tag : ℕ) → 0 < tag → tag < below → IsLeft says state (step tag)

-- and of all tags
abbrev pub AllAreLeft : (ℕ → Step) → (Step → Bool → Type 0) → Shared → Type 0
AllAreLeft step says state = AreLeftUpTo step says state (greatest_tag state)

-- what comes before a retirement of a tag on a pipe isn't due, or wasn't allowed
abbrev pub AreLeftBeforeRetirement : (Step → Bool → Type 0) → Shared → Pipe → ℕ → Type 0
AreLeftBeforeRetirement says state Command tag = ⊥
AreLeftBeforeRetirement says state StatusPipe tag = IsLeft says state Event × AreLeftBelow (Retire StatusPipe) says state tag
AreLeftBeforeRetirement says state DataIn tag =
    IsLeft says state Event × AllAreLeft (Retire StatusPipe) says state × AreLeftBelow (Retire DataIn) says state tag
AreLeftBeforeRetirement says state DataOut tag =
    IsLeft says state Event × AllAreLeft (Retire StatusPipe) says state × AllAreLeft (Retire DataIn) says state
    × AreLeftBelow (Retire DataOut) says state tag

-- What comes before a step in the order of those who have no client isn't due, or wasn't allowed: command pipe, engine, data and status
-- of the one; event and retirements of the other.
abbrev pub AreLeftBefore : (Step → Bool → Type 0) → Shared → Step → Type 0
AreLeftBefore says state (Submit client tag ticket command) = ⊥
AreLeftBefore says state (Task client ticket task) = ⊥
AreLeftBefore says state CommandPipe = Unit {0}
AreLeftBefore says state (Data tag) =
    IsLeft says state CommandPipe × IsLeft says state Engine × AreLeftBelow Data says state tag
AreLeftBefore says state (Status tag) =
    IsLeft says state CommandPipe × IsLeft says state Engine × AllAreLeft Data says state × AreLeftBelow Status says state tag
AreLeftBefore says state Engine = IsLeft says state CommandPipe
AreLeftBefore says state Event = Unit {0}
AreLeftBefore says state (Retire pipe tag) = AreLeftBeforeRetirement says state pipe tag
AreLeftBefore says state (Take client) = ⊥

-- the first step of this kind that is due and allowed
pub record IsFirstOf (kind : Shared → Step → Type 0) (says : Step → Bool → Type 0) (state : Shared) (step : Step) : Type 0 where
  pub of_kind : kind state step
  pub acts : due state step ≡ true
  pub allowed : says step true
  pub ticket : HasTicket step
  pub first : AreLeftBefore says state step

-- WHAT WAS DONE

-- the first of this kind is booked
pub record TookOne (kind : Shared → Step → Type 0) (says : Step → Bool → Type 0) (old new : BookedState) : Type 0 where
  pub step : Step
  pub is : IsFirstOf kind says old.bus step
  pub booked : new ≡ (booked_step old step).0

-- nothing was done, as none of this kind was both due and allowed
pub record LeftAll (kind : Shared → Step → Type 0) (says : Step → Bool → Type 0) (old new : BookedState) : Type 0 where
  pub same : new ≡ old
  pub left : AreLeft kind says old.bus

abbrev pub TookOrLeft : (Shared → Step → Type 0) → (Step → Bool → Type 0) → BookedState → BookedState → Bool → Type 0
TookOrLeft kind says old new true = TookOne kind says old new
TookOrLeft kind says old new false = LeftAll kind says old new

-- the first of this kind was found, but could not be booked
pub record WantsOne (kind : Shared → Step → Type 0) (says : Step → Bool → Type 0) (old new : BookedState) : Type 0 where
  pub step : Step
  pub is : IsFirstOf kind says old.bus step
  pub same : new ≡ old
