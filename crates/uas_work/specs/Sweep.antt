-- What whoever holds the lock books of those who have no client: step after step, until none is left.
use Rattle.std.specs.Prelude.{◌≡◌, ℕ, zero, suc, ◌⊎◌, Bool, true, false}
use Rattle.shared_machine.specs.declared.Step.{Step}
use Rattle.shared_machine.specs.Bus.{HasTicket}
use Rattle.shared_machine.specs.Shared.{Shared, due}
use Rattle.uas_work.specs.Booked.{BookedState, booked_step}
use Rattle.uas_work.specs.Control.{AreLeft, IsControl, IsDispatch}

-- a step is the controller's or the dispatcher's, and due and allowed
pub record IsOpen (says : Step → Bool → Type 0) (state : Shared) (step : Step) : Type 0 where
  pub whose : IsControl state step ⊎ IsDispatch state step
  pub acts : due state step ≡ true
  pub allowed : says step true
  pub ticket : HasTicket step

-- a step of the controller's or the dispatcher's, which was due and allowed, is booked
pub record BookedOne (says : Step → Bool → Type 0) (old new : BookedState) : Type 0 where
  pub step : Step
  pub whose : IsControl old.bus step ⊎ IsDispatch old.bus step
  pub acts : due old.bus step ≡ true
  pub allowed : says step true
  pub booked : new ≡ (booked_step old step).0

-- one more is booked behind those before it
pub record OneMore (says : Step → Bool → Type 0) (Before : BookedState → Type 0) (new : BookedState) : Type 0 where
  pub between : BookedState
  pub before : Before between
  pub one : BookedOne says between new

-- so many of them are booked, one after the other
unfoldable pub IsSwept : (Step → Bool → Type 0) → BookedState → ℕ → BookedState → Type 0
IsSwept says old zero new = new ≡ old
IsSwept says old (suc count) new = OneMore says (IsSwept says old count) new

-- some of them are
pub record WasSwept (says : Step → Bool → Type 0) (old new : BookedState) : Type 0 where
  pub count : ℕ
  pub swept : IsSwept says old count new

-- none is due and allowed any more
abbrev pub AreAllLeft : (Step → Bool → Type 0) → BookedState → Type 0
AreAllLeft says now = AreLeft IsControl says now.bus × AreLeft IsDispatch says now.bus

-- one is booked, or none is left
abbrev pub BookedOrLeft : (Step → Bool → Type 0) → BookedState → BookedState → Bool → Type 0
BookedOrLeft says old new true = BookedOne says old new
BookedOrLeft says old new false = (new ≡ old) × AreAllLeft says old
