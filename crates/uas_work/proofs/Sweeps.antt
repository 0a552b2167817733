-- What is booked of those who have no client is a sweep.
use Rattle.std.proofs.Common.{◌≡◌, ℕ, suc, Bool, true, false, Result, Ok, Err, IfOk, OnErr, MatchResult, refl, sym, subst, inl, inr, ◌+◌, arith}
use Rattle.shared_machine.specs.declared.Step.{Step}
use Rattle.shared_machine.specs.Bus.{HasTicket}
use Rattle.shared_machine.specs.Shared.{Shared, due}
use Rattle.uas_work.specs.declared.Booking.{Booking}
use Rattle.uas_work.specs.Booked.{BookedState, booked_step}
use Rattle.uas_work.specs.Control.{AreLeft, IsControl, IsDispatch, LeftAll, TookOne, TookOrLeft, WantsOne}
use Rattle.uas_work.specs.Sweep.{BookedOne, BookedOrLeft, IsOpen, IsSwept}

-- the controller's step is one, and so is the dispatcher's
pub by_control : (says : Step → Bool → Type 0) (old new : BookedState) → TookOne IsControl says old new → BookedOne says old new
by_control says old new took =
    record { step = took.step; whose = inl took.is.of_kind; acts = took.is.acts; allowed = took.is.allowed; booked = took.booked }

pub by_dispatch : (says : Step → Bool → Type 0) (old new : BookedState) → TookOne IsDispatch says old new → BookedOne says old new
by_dispatch says old new took =
    record { step = took.step; whose = inr took.is.of_kind; acts = took.is.acts; allowed = took.is.allowed; booked = took.booked }

-- and so is a step that is open
pub by_open : (says : Step → Bool → Type 0) (old new : BookedState) (step : Step) (took : Bool) → took ≡ true → IsOpen says old.bus step
    → new ≡ (booked_step old step).0 → BookedOrLeft says old new took
by_open says old new step true is open' booked =
    record { step = step; whose = open'.whose; acts = open'.acts; allowed = open'.allowed; booked = booked }
by_open says old new step false is open' booked = absurd (cc)

-- what is booked of a step that is open
pub opened : (says : Step → Bool → Type 0) (old new : BookedState) (step : Step) (result : Result Bool Booking) → IsOpen says old.bus step
    → IfOk result (λ took. took ≡ true) → IfOk result (λ took. new ≡ (booked_step old step).0) → OnErr result (new ≡ old)
    → MatchResult result (BookedOrLeft says old new) (λ booking. new ≡ old)
opened says old new step (Ok took) is took' booked same = by_open says old new step took took' is booked
opened says old new step (Err booking) is took' booked same = same

-- a step of the controller's is open where it is due and allowed, and so is one of the dispatcher's
pub open_control : (says : Step → Bool → Type 0) (state : Shared) (step : Step) → IsControl state step → due state step ≡ true → says step true
    → HasTicket step → IsOpen says state step
open_control says state step whose acts allowed ticket = record { whose = inl whose; acts = acts; allowed = allowed; ticket = ticket }

pub open_dispatch : (says : Step → Bool → Type 0) (state : Shared) (step : Step) → IsDispatch state step → due state step ≡ true → says step true
    → HasTicket step → IsOpen says state step
open_dispatch says state step whose acts allowed ticket = record { whose = inr whose; acts = acts; allowed = allowed; ticket = ticket }

-- where the controller had none, the dispatcher's says what is booked
dispatched : (says : Step → Bool → Type 0) (old new : BookedState) (result : Result Bool Booking) → AreLeft IsControl says old.bus
    → MatchResult result (TookOrLeft IsDispatch says old new) (λ booking. WantsOne IsDispatch says old new)
    → MatchResult result (BookedOrLeft says old new) (λ booking. new ≡ old)
dispatched says old new (Ok true) left took = by_dispatch says old new took
dispatched says old new (Ok false) left none = (none.same, (left, none.left))
dispatched says old new (Err booking) left wants = wants.same

pub then_dispatched : (says : Step → Bool → Type 0) (old between new : BookedState) (result : Result Bool Booking)
    → LeftAll IsControl says old between → MatchResult result (TookOrLeft IsDispatch says between new) (λ booking. WantsOne IsDispatch says between new)
    → MatchResult result (BookedOrLeft says old new) (λ booking. new ≡ old)
then_dispatched says old between new result none took =
    dispatched says old new result none.left
    (subst (λ it. MatchResult result (TookOrLeft IsDispatch says it new) (λ booking. WantsOne IsDispatch says it new)) none.same took)

-- nothing is booked by no step
pub swept_none : (says : Step → Bool → Type 0) (old : BookedState) → IsSwept says old 0 old
unfolding IsSwept
swept_none says old = refl

-- a sweep goes on with one more
pub swept_more : (says : Step → Bool → Type 0) (old between new : BookedState) (count : ℕ) (took : Bool) → IsSwept says old count between
    → BookedOrLeft says between new took → took ≡ true → IsSwept says old (count + 1) new
unfolding IsSwept
swept_more says old between new count true before one is =
    let e : suc count ≡ count + 1 = omega arith in
    subst (λ n. IsSwept says old n new) e (record { between = between; before = before; one = one })
swept_more says old between new count false before left is = absurd (cc)

-- or ends, as nothing changed
pub swept_same : (says : Step → Bool → Type 0) (old between new : BookedState) (count : ℕ) → IsSwept says old count between → new ≡ between
    → IsSwept says old count new
swept_same says old between new count before same = subst (IsSwept says old count) (sym same) before
