-- What is so of the retirement under way in a matched state: cited by MatchedFlows and MatchedEngine, and where rings and host are compared with it.
use Rattle.std.proofs.Common.{◌≡◌, ℕ, ◌≤◌, Bool, true, false, ◌&&◌, List, [], ◌∷◌, length, Option, Some, None, IfSome, refl, arith, ap, sym, subst, ◌∙◌}
use Rattle.std.specs.Option.{option_map_or}
use Rattle.std.specs.Prelude.{nat_lt}
use Rattle.std.proofs.lemmas.Bool.{and_right, eqb-true, false≢true}
use Rattle.uas_profile.specs.declared.Pipe.{Pipe}
use Rattle.uas_profile.specs.declared.Pipe.TheVariants.{Command, Status, DataIn, DataOut}
use Rattle.uas_profile.specs.declared.Place.{Place}
use Rattle.uas_profile.specs.Pipes.{same_pipe}
use Rattle.shared_machine.specs.declared.Completion.{Completion}
use Rattle.shared_machine.specs.declared.Completion.TheVariants.{EngineDone}
use Rattle.shared_machine.specs.declared.Retirement.{Retirement}
use Rattle.shared_machine.specs.declared.RetirementStage.{RetirementStage}
use Rattle.shared_machine.specs.declared.RetirementStage.TheVariants.{StopAsked, StopAnswered, MoveAsked, MoveAnswered}
use Rattle.shared_machine.specs.declared.Td.{Td}
use Rattle.shared_machine.specs.Shared.{Shared, is_asked, is_held}
use Rattle.machine_invariant.specs.Matched.{same_place, times, retired_places, answered_place, answered_places, was_moved, is_passed, IsRetiring, IsMatched}
use Rattle.machine_invariant.specs.Matched.{IsOwnEngineEvent, IsAtStage, is_whole, is_whole_on, is_whole_at, has_trb_at, under}
use Rattle.shared_machine.specs.Td.{Entry, is_in_ring, has_data_trb, has_trb_on, trbs_on, td_on}
use Rattle.machine_invariant.proofs.MatchedLeftOver.{ltb-self}
use Rattle.machine_invariant.proofs.MatchedPlaces.{same_place-true, one_if-true}

-- what is so of the one that may be there
pub of-some : {T : Type 0} (P : T → Type 0) (found : Option T) (x : T) → IfSome found P → found ≡ Some x → P x
of-some P found x all is = subst (λ o. IfSome o P) is all

pub if-some : {T : Type 0} (P : T → Type 0) (found : Option T) → ((x : T) → found ≡ Some x → P x) → IfSome found P
if-some P None each = tt
if-some P (Some x) each = each x refl

-- the retirement under way is of a TD that is left over
pub retiring-of : (state : Shared) (r : Retirement) → IsMatched state → state.retirement ≡ Some r → IsRetiring state r
retiring-of state r all is = of-some (IsRetiring state) state.retirement r all.retiring is

-- ONCE THE CONTROLLER WAS MOVED

whole-empty_td : (trbs : ℕ) (td : Option Td) → is_whole trbs td ≡ true → has_data_trb trbs td ≡ false
whole-empty_td trbs None whole = refl
whole-empty_td trbs (Some td) whole =
    ap (λ n. is_in_ring td.state && nat_lt n trbs) (eqb-true td.consumed trbs whole) ∙ and_right (is_in_ring td.state) (nat_lt trbs trbs) (ltb-self trbs)

-- a TD of which every TRB was taken has none that may be taken
pub whole-empty : (pipe : Pipe) (entry : Entry) → is_whole_on pipe entry ≡ true → has_trb_on pipe entry ≡ false
whole-empty pipe entry whole = whole-empty_td (trbs_on pipe entry) (td_on pipe entry) whole

whole-empty_at : (pipe : Pipe) (held : Option Entry) → option_map_or (is_whole_on pipe) held false ≡ true →
    option_map_or (has_trb_on pipe) held false ≡ false
whole-empty_at pipe None whole = refl
whole-empty_at pipe (Some entry) whole = whole-empty pipe entry whole

-- every TRB of the TD that is retired is consumed
pub moved-whole : (state : Shared) (r : Retirement) → IsMatched state → state.retirement ≡ Some r → r.stage ≡ MoveAnswered →
    is_whole_at state r.pipe r.place ≡ true
moved-whole state r all is moved = (subst (λ stage. IsAtStage state r.pipe r.place stage) moved (retiring-of state r all is).stage).1

pub moved-empty : (state : Shared) (r : Retirement) → IsMatched state → state.retirement ≡ Some r → r.stage ≡ MoveAnswered →
    has_trb_at state r.pipe r.place ≡ false
moved-empty state r all is moved = whole-empty_at r.pipe (under state.parts r.place) (moved-whole state r all is moved)

-- HELD PIPES

pub same_pipe-self : (pipe : Pipe) → same_pipe pipe pipe ≡ true
same_pipe-self Command = refl
same_pipe-self Status = refl
same_pipe-self DataIn = refl
same_pipe-self DataOut = refl

pub same_pipe-true : (one other : Pipe) → same_pipe one other ≡ true → one ≡ other
same_pipe-true Command Command is = refl
same_pipe-true Status Status is = refl
same_pipe-true DataIn DataIn is = refl
same_pipe-true DataOut DataOut is = refl
same_pipe-true one other is = absurd (false≢true is)

-- a pipe is held exactly where the retirement is on it
pub held-is : (state : Shared) (r : Retirement) (pipe : Pipe) → state.retirement ≡ Some r → is_held state pipe ≡ same_pipe r.pipe pipe
held-is state r pipe is = ap (λ found. option_map_or (λ (retirement : Retirement). same_pipe retirement.pipe pipe) found false) is

pub held-own : (state : Shared) (r : Retirement) → state.retirement ≡ Some r → is_held state r.pipe ≡ true
held-own state r is = held-is state r r.pipe is ∙ same_pipe-self r.pipe

-- no pipe is held where none is under way
pub held-none : (state : Shared) (pipe : Pipe) → state.retirement ≡ None → is_held state pipe ≡ false
held-none state pipe none = ap (λ found. option_map_or (λ (retirement : Retirement). same_pipe retirement.pipe pipe) found false) none

-- PASSED

abbrev pub passed_in : Pipe → Place → Option Retirement → Bool
passed_in pipe place found =
    option_map_or (λ (retirement : Retirement). same_pipe retirement.pipe pipe && (same_place retirement.place place && was_moved retirement.stage)) found false

pub passed-is : (state : Shared) (r : Retirement) (pipe : Pipe) (place : Place) → state.retirement ≡ Some r →
    is_passed state pipe place ≡ (same_pipe r.pipe pipe && (same_place r.place place && was_moved r.stage))
passed-is state r pipe place is = ap (passed_in pipe place) is

-- no TD is passed before Set TR Dequeue Pointer was executed
pub passed-before : (state : Shared) (r : Retirement) (pipe : Pipe) (place : Place) → state.retirement ≡ Some r → was_moved r.stage ≡ false →
    is_passed state pipe place ≡ false
passed-before state r pipe place is before =
    passed-is state r pipe place is
    ∙ and_right (same_pipe r.pipe pipe) (same_place r.place place && was_moved r.stage)
    (and_right (same_place r.place place) (was_moved r.stage) before)

pub passed-none : (state : Shared) (pipe : Pipe) (place : Place) → state.retirement ≡ None → is_passed state pipe place ≡ false
passed-none state pipe place none = ap (passed_in pipe place) none

-- THE EVENT OF ITS COMMAND

-- one at most waits
pub answered-once : (found : Option Retirement) → length (answered_places found) ≤ 1
answered-once None = omega arith
answered-once (Some r) = at r.stage
  where
    at : (stage : RetirementStage) → length (answered_place stage r.place) ≤ 1
    at StopAsked = omega arith
    at StopAnswered = omega arith
    at MoveAsked = omega arith
    at MoveAnswered = omega arith

-- an event that is first is of the retirement under way, whose command was executed, and no other waits
pub record IsAnswered (found : Option Retirement) (place : Place) (more : List Place) : Type 0 where
  pub retirement : Retirement
  pub is : found ≡ Some retirement
  pub place_same : retirement.place ≡ place
  pub answered : is_asked retirement.stage ≡ false
  pub alone : more ≡ []

cons-first : (one other : Place) (first second : List Place) → one ∷ first ≡ other ∷ second → one ≡ other
cons-first one other first second is = cc

cons-rest : (one other : Place) (first second : List Place) → one ∷ first ≡ other ∷ second → first ≡ second
cons-rest one other first second is = cc

nil-cons : (one : Place) (more : List Place) → [] ≡ one ∷ more → ⊥
nil-cons one more is = absurd (omega (arith, ap (λ places. length places) is))

pub answered-first : (found : Option Retirement) (place : Place) (more : List Place) → answered_places found ≡ place ∷ more → IsAnswered found place more
answered-first None place more is = absurd (nil-cons place more is)
answered-first (Some r) place more is = at r.stage refl is
  where
    lone : is_asked r.stage ≡ false → r.place ∷ [] ≡ place ∷ more → IsAnswered (Some r) place more
    lone answered one = record {
      retirement = r;
      is = refl;
      place_same = cons-first r.place place [] more one;
      answered = answered;
      alone = sym (cons-rest r.place place [] more one);
    }

    at : (stage : RetirementStage) → r.stage ≡ stage → answered_place stage r.place ≡ place ∷ more → IsAnswered (Some r) place more
    at StopAsked so one = absurd (nil-cons place more one)
    at StopAnswered so one = lone (ap is_asked so) one
    at MoveAsked so one = absurd (nil-cons place more one)
    at MoveAnswered so one = lone (ap is_asked so) one

-- the same of an event that waits anywhere
answered-named : (found : Option Retirement) (place : Place) → 1 ≤ times place (answered_places found) →
    (r : Retirement) × (found ≡ Some r) × (r.place ≡ place) × (is_asked r.stage ≡ false)
answered-named None place some = absurd (omega (arith, some))
answered-named (Some r) place some = at r.stage refl some
  where
    named : is_asked r.stage ≡ false → 1 ≤ times place (r.place ∷ []) →
        (one : Retirement) × (Some r ≡ Some one) × (one.place ≡ place) × (is_asked one.stage ≡ false)
    named answered one = (r, refl, same_place-true r.place place (one_if-true (same_place r.place place) (omega (arith, one))), answered)

    at : (stage : RetirementStage) → r.stage ≡ stage → 1 ≤ times place (answered_place stage r.place) →
        (one : Retirement) × (Some r ≡ Some one) × (one.place ≡ place) × (is_asked one.stage ≡ false)
    at StopAsked so one = absurd (omega (arith, one))
    at StopAnswered so one = named (ap is_asked so) one
    at MoveAsked so one = absurd (omega (arith, one))
    at MoveAnswered so one = named (ap is_asked so) one

pub own-engine_event : (state : Shared) (place : Place) → IsMatched state → 1 ≤ times place (retired_places state.events) → IsOwnEngineEvent state place
own-engine_event state place all some =
    let own = answered-named state.retirement place (subst (λ places. 1 ≤ times place places) all.retired some) in
    record { retirement = own.0; under_way = own.1; place_same = own.2; answered = own.3 }

pub first-engine_event : (state : Shared) (place : Place) (rest : List Completion) → IsMatched state → state.events ≡ EngineDone place ∷ rest →
    IsAnswered state.retirement place (retired_places rest)
first-engine_event state place rest all is =
    answered-first state.retirement place (retired_places rest) (sym all.retired ∙ ap (λ events. retired_places events) is)
