-- Events stay behind no response that they are not to come behind. Cited by OrderedManaged, OrderedActs and Ordered.
use Rattle.std.proofs.Common.{◌≡◌, ℕ, ◌≤◌, ◌+◌, true, false, List, [], ◌∷◌, ◌++◌, refl, arith, ap, sym, ◌∙◌}
use Rattle.std.specs.Prelude.{◌==◌, ◌&&◌}
use Rattle.std.proofs.lemmas.Bool.{false≢true}
use Rattle.uas_profile.specs.declared.Place.{Place}
use Rattle.shared_machine.specs.declared.Completion.{Completion}
use Rattle.shared_machine.specs.declared.Completion.TheVariants.{CommandDone, DataDone, StatusDone, EngineDone}
use Rattle.shared_machine.specs.Part.{Part}
use Rattle.shared_machine.specs.Soundness.{one_if}
use Rattle.machine_invariant.specs.Ordered.{ticket_at, is_ended_by, IsNotEnded, AreNotEnded, AreBehind}
use Rattle.machine_invariant.specs.Matched.{same_place, data_events, status_events}
use Rattle.machine_invariant.proofs.MatchedPlaces.{one_self, same_place-true}
use Rattle.machine_invariant.proofs.OrderedMessages.{notes_at, IsSameAt}

-- how many events are of a place's data or status TD
abbrev pub named_in : Place → List Completion → ℕ
named_in place events = data_events place events + status_events place events

-- what notes what stays
noted-same : (parts after : List Part) (place other : Place) → IsSameAt parts after place → IsSameAt parts after other
    → is_ended_by after place other ≡ is_ended_by parts place other
noted-same parts after place other same other_same =
    ap (λ b. (place.client == other.client) && b)
    (ap (λ ticket. notes_at after place ticket) other_same.ticket ∙ same.notes (ticket_at parts other))

unnoted-same : (parts after : List Part) (place : Place) (events : List Completion) → IsSameAt parts after place
    → ((other : Place) → 1 ≤ named_in other events → IsSameAt parts after other) → AreNotEnded parts place events → AreNotEnded after place events
unnoted-same parts after place [] same each is = tt
unnoted-same parts after place (CommandDone other ∷ rest) same each is = (tt, unnoted-same parts after place rest same each is.1)
unnoted-same parts after place (DataDone other ∷ rest) same each is = (
  noted-same parts after place other same (each other (omega (arith, one_self other))) ∙ is.0,
  unnoted-same parts after place rest same (λ one named. each one (omega (arith, named))) is.1,
)
unnoted-same parts after place (StatusDone other ∷ rest) same each is = (
  noted-same parts after place other same (each other (omega (arith, one_self other))) ∙ is.0,
  unnoted-same parts after place rest same (λ one named. each one (omega (arith, named))) is.1,
)
unnoted-same parts after place (EngineDone other ∷ rest) same each is = (tt, unnoted-same parts after place rest same each is.1)

pub behind-same : (parts after : List Part) (events : List Completion) → ((place : Place) → 1 ≤ named_in place events → IsSameAt parts after place)
    → AreBehind parts events → AreBehind after events
behind-same parts after [] each is = tt
behind-same parts after (CommandDone place ∷ rest) each is = behind-same parts after rest each is
behind-same parts after (DataDone place ∷ rest) each is = behind-same parts after rest (λ other named. each other (omega (arith, named))) is
behind-same parts after (StatusDone place ∷ rest) each is =
    let others : (other : Place) → 1 ≤ named_in other rest → IsSameAt parts after other = λ other named. each other (omega (arith, named)) in
    (unnoted-same parts after place rest (each place (omega (arith, one_self place))) others is.0, behind-same parts after rest others is.1)
behind-same parts after (EngineDone place ∷ rest) each is = behind-same parts after rest each is

-- one more event, of nothing that a response before it noted
unnoted-more : (parts : List Part) (place : Place) (last : Completion) (events : List Completion) → IsNotEnded parts place last → AreNotEnded parts place events
    → AreNotEnded parts place (events ++ last ∷ [])
unnoted-more parts place last [] unnoted is = (unnoted, tt)
unnoted-more parts place last (event ∷ rest) unnoted is = (is.0, unnoted-more parts place last rest unnoted is.1)

-- an event alone is behind nothing
behind-alone : (parts : List Part) (event : Completion) → AreBehind parts (event ∷ [])
behind-alone parts (CommandDone place) = tt
behind-alone parts (DataDone place) = tt
behind-alone parts (StatusDone place) = (tt, tt)
behind-alone parts (EngineDone place) = tt

pub behind-more : (parts : List Part) (last : Completion) (events : List Completion)
    → ((place : Place) → 1 ≤ status_events place events → IsNotEnded parts place last) → AreBehind parts events → AreBehind parts (events ++ last ∷ [])
behind-more parts last [] unnoted is = behind-alone parts last
behind-more parts last (CommandDone place ∷ rest) unnoted is = behind-more parts last rest unnoted is
behind-more parts last (DataDone place ∷ rest) unnoted is = behind-more parts last rest unnoted is
behind-more parts last (StatusDone place ∷ rest) unnoted is = (
  unnoted-more parts place last rest (unnoted place (omega (arith, one_self place))) is.0,
  behind-more parts last rest (λ other named. unnoted other (omega (arith, named))) is.1,
)
behind-more parts last (EngineDone place ∷ rest) unnoted is = behind-more parts last rest unnoted is

-- the first event is taken
pub behind-rest : (parts : List Part) (event : Completion) (rest : List Completion) → AreBehind parts (event ∷ rest) → AreBehind parts rest
behind-rest parts (CommandDone place) rest is = is
behind-rest parts (DataDone place) rest is = is
behind-rest parts (StatusDone place) rest is = is.1
behind-rest parts (EngineDone place) rest is = is

-- none of the events is of what the response noted
noted-apart : (parts : List Part) (place first other : Place) → is_ended_by parts place first ≡ false → is_ended_by parts place other ≡ true
    → one_if (same_place first other) ≡ 0
noted-apart parts place first other unnoted noted =
    elim (same_place first other) as (λ b. same_place first other ≡ b → one_if b ≡ 0) [
      | true ↦ λ at. absurd (false≢true (sym unnoted ∙ ap (λ p. is_ended_by parts place p) (same_place-true first other at) ∙ noted))
      | false ↦ λ at. refl
    ] refl

pub unnoted-none : (parts : List Part) (place other : Place) (events : List Completion) → AreNotEnded parts place events → is_ended_by parts place other ≡ true
    → (data_events other events ≡ 0) × (status_events other events ≡ 0)
unnoted-none parts place other [] is noted = (refl, refl)
unnoted-none parts place other (CommandDone first ∷ rest) is noted = unnoted-none parts place other rest is.1 noted
unnoted-none parts place other (DataDone first ∷ rest) is noted =
    let more = unnoted-none parts place other rest is.1 noted in
    (omega (arith, more.0, noted-apart parts place first other is.0 noted), more.1)
unnoted-none parts place other (StatusDone first ∷ rest) is noted =
    let more = unnoted-none parts place other rest is.1 noted in
    (more.0, omega (arith, more.1, noted-apart parts place first other is.0 noted))
unnoted-none parts place other (EngineDone first ∷ rest) is noted = unnoted-none parts place other rest is.1 noted
