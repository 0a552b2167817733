-- A bus with more steps stays one, whatever is booked.
use Rattle.std.proofs.Common.{◌≡◌, ℕ, zero, suc, Bool, true, false, List, [], ◌∷◌, ◌++◌, length, take, drop, get_or, Result, Ok, Err, IfOk, IfErr, MatchResult, refl, sym, ap, subst, ⊎_elim}
use Rattle.std.specs.Prelude.{if◌then◌else◌}
use Rattle.shared_machine.specs.declared.Step.{Step}
use Rattle.shared_machine.specs.declared.Step.TheVariants.{Take}
use Rattle.shared_machine.specs.declared.Outcome.{Outcome}
use Rattle.shared_machine.specs.Shared.{Shared, due, shared_step}
use Rattle.uas_log.specs.Booking.{with_entry}
use Rattle.uas_work.specs.declared.Booking.{Booking}
use Rattle.uas_work.specs.Booked.{BookedState, IsLater, booked_step}
use Rattle.uas_work.specs.Control.{TookOrLeft, WantsOne}
use Rattle.uas_work.specs.Sweep.{IsSwept, WasSwept}
use Rattle.uas_work.specs.Pumps.{Entered, EnteredOrLeft, Served, TakenOrLeft, asked}

-- a list begins with itself
begins_with_itself : (xs : List Step) → take (length xs) xs ≡ xs
begins_with_itself [] = refl
begins_with_itself (x ∷ xs) = ap (λ list. x ∷ list) (begins_with_itself xs)

-- and still does with one more at its end
begins_more : (first now : List Step) (step : Step) → take (length first) now ≡ first → take (length first) (now ++ step ∷ []) ≡ first
begins_more [] now step is = refl
begins_more (x ∷ xs) [] step is = absurd (cc)
begins_more (x ∷ xs) (y ∷ ys) step is =
    let head : y ≡ x = ap (λ list. get_or list 0 x) is in
    let rest : take (length xs) ys ≡ xs = ap (λ list. drop 1 list) is in
    λ i. head i ∷ begins_more xs ys step rest i

-- a bus has the steps that it has
pub later_same : (first : BookedState) → IsLater first first
later_same first = record { tags = refl; units = refl; limit = refl; steps = begins_with_itself first.log.steps }

later_log : (acts : Bool) (first now : BookedState) (bus : Shared) (step : Step) (outcome : Outcome) → IsLater first now
    → IsLater first (record now { bus = bus; log = if acts then with_entry now.log step outcome else now.log })
later_log true first now bus step outcome it =
    record { tags = it.tags; units = it.units; limit = it.limit; steps = begins_more first.log.steps now.log.steps step it.steps }
later_log false first now bus step outcome it = record { tags = it.tags; units = it.units; limit = it.limit; steps = it.steps }

-- and one more, or none where it is idle
pub later_step : (first old new : BookedState) (step : Step) → IsLater first old → new ≡ (booked_step old step).0 → IsLater first new
later_step first old new step it is =
    subst (IsLater first) (sym is) (later_log (due old.bus step) first old (shared_step old.bus step).0 step (shared_step old.bus step).1 it)

later_as : (first old new : BookedState) → IsLater first old → new ≡ old → IsLater first new
later_as first old new it is = subst (IsLater first) (sym is) it

-- what the controller or the dispatcher books
pub later_turn : (first old new : BookedState) (kind : Shared → Step → Type 0) (says : Step → Bool → Type 0) (result : Result Bool Booking)
    → MatchResult result (TookOrLeft kind says old new) (λ booking. WantsOne kind says old new) → IsLater first old → IsLater first new
later_turn first old new kind says (Ok true) took it = later_step first old new took.step it took.booked
later_turn first old new kind says (Ok false) left it = later_as first old new it left.same
later_turn first old new kind says (Err booking) wants it = later_as first old new it wants.same

later_entered : (first old new : BookedState) (tags client : ℕ) → EnteredOrLeft tags client old new → IsLater first old → IsLater first new
later_entered first old new tags client came it =
    ⊎_elim (λ (same : new ≡ old). later_as first old new it same)
    (λ (entered : Entered tags client old new). later_step first old new (asked client entered.tag entered.slip) it entered.booked) came

later_taken : (first old new : BookedState) (client : ℕ) (says : Step → Bool → Type 0) (took : Bool) → TakenOrLeft says client old new took
    → IsLater first old → IsLater first new
later_taken first old new client says true taken it = later_step first old new (Take client) it taken.2
later_taken first old new client says false left it = later_as first old new it left.1

-- and a pump
pub later_served : {A : Type 0} (first old new : BookedState) (tags client : ℕ) (says : Step → Bool → Type 0) (result : Result A Booking)
    → MatchResult result (λ served. Served says tags client old new) (λ booking. EnteredOrLeft tags client old new) → IsLater first old → IsLater first new
later_served first old new tags client says (Ok booked) served it =
    later_taken first served.between new client says served.took served.taken (later_entered first old served.between tags client served.entered it)
later_served first old new tags client says (Err booking) came it = later_entered first old new tags client came it

-- and whoever sweeps
later_steps : (first old : BookedState) (says : Step → Bool → Type 0) (count : ℕ) (new : BookedState) → IsSwept says old count new
    → IsLater first old → IsLater first new
unfolding IsSwept
later_steps first old says zero new same it = later_as first old new it same
later_steps first old says (suc count) new more it =
    later_step first more.between new more.one.step (later_steps first old says count more.between more.before it) more.one.booked

pub later_swept : (first old new : BookedState) (says : Step → Bool → Type 0) (result : Result ℕ Booking)
    → IfOk result (λ taken. IsSwept says old taken new) → IfErr result (λ booking. WasSwept says old new) → IsLater first old → IsLater first new
later_swept first old new says (Ok taken) swept some it = later_steps first old says taken new swept it
later_swept first old new says (Err booking) swept some it = later_steps first old says some.count new some.swept it
