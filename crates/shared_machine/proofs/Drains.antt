-- Where a drain ends, and what it leaves.
use Rattle.std.proofs.Common.{◌≡◌, ℕ, zero, suc, ◌+◌, ◌-◌, ◌<◌, ◌≤◌, true, false, cond, List, [], ◌∷◌, ◌++◌, length-append, refl, arith, ap, sym, subst, ◌∙◌}
use Rattle.std.proofs.Common.{rules}
use Rattle.std.specs.Prelude.{◌==◌, length}
use Rattle.std.proofs.lemmas.Bool.{eqb-true, eqb-false, false≢true}
use Rattle.shared_machine.specs.declared.Step.{Step}
use Rattle.shared_machine.specs.Shared.{Shared, due, greatest_tag, shared_step}
use Rattle.shared_machine.specs.Replay.{replayed}
use Rattle.shared_machine.specs.Drain.{Drained, drained, round, rounds, tried, tried_one, tries}
use Rattle.shared_machine.specs.Laws.{NoneDue, AllDue, LeadsTo}
use Rattle.shared_machine.proofs.NumberOfClients.{length-parts}
use Rattle.shared_machine.proofs.NumberOfTags.{kept-tags}

-- ONE TRY

-- a try takes no step, or one of those that may act
pub tried_one-left : (now : Shared × ℕ) (step : Step) → (tried_one now step).1 ≤ now.1
tried_one-left now step = search rules

-- a try that takes no step, though one more may act, found none due and changed nothing
pub tried_one-none : (now : Shared × ℕ) (step : Step) → 0 < now.1 → now.1 ≤ (tried_one now step).1 → (due now.0 step ≡ false) × (tried_one now step ≡ now)
tried_one-none now step some none = search rules

-- a try keeps the number of clients
pub tried_one-parts : (now : Shared × ℕ) (step : Step) → length (tried_one now step).0.parts ≡ length now.0.parts
tried_one-parts now step = search (rules, length-parts)

-- A LIST OF TRIES

-- tries take no more steps than may act
pub tried-left : (now : Shared × ℕ) (steps : List Step) → (tried now steps).1 ≤ now.1
tried-left now [] = omega arith
tried-left now (step ∷ steps) = omega (arith, tried_one-left now step, tried-left (tried_one now step) steps)

-- tries that take no step, though one more may act, found none due and changed nothing
pub tried-none : (now : Shared × ℕ) (steps : List Step) → 0 < now.1 → now.1 ≤ (tried now steps).1 → NoneDue now.0 steps × (tried now steps ≡ now)
tried-none now [] some none = (tt, refl)
tried-none now (step ∷ steps) some none =
    let one = tried_one-none now step some (omega (arith, tried-left (tried_one now step) steps)) in
    let P : Shared × ℕ → Type 0 = λ t. now.1 ≤ (tried t steps).1 in
    let rest = tried-none now steps some (subst P one.1 none) in
    ((one.0, rest.0), ap (λ (t : Shared × ℕ). tried t steps) one.1 ∙ rest.1)

-- tries keep the number of clients
pub tried-parts : (now : Shared × ℕ) (steps : List Step) → length (tried now steps).0.parts ≡ length now.0.parts
tried-parts now [] = refl
tried-parts now (step ∷ steps) = tried-parts (tried_one now step) steps ∙ tried_one-parts now step

-- a try keeps how many tags a client has
pub tried_one-tags : (now : Shared × ℕ) (step : Step) → (tried_one now step).0.tags ≡ now.0.tags
tried_one-tags now step = search (rules, kept-tags)

pub tried-tags : (now : Shared × ℕ) (steps : List Step) → (tried now steps).0.tags ≡ now.0.tags
tried-tags now [] = refl
tried-tags now (step ∷ steps) = tried-tags (tried_one now step) steps ∙ tried_one-tags now step

-- and the greatest tag
pub tried-greatest : (now : Shared × ℕ) (steps : List Step) → greatest_tag (tried now steps).0 ≡ greatest_tag now.0
tried-greatest now steps = rw (tried-parts now steps, tried-tags now steps) refl

-- ROUNDS

-- what a drain of so many steps leaves after a round
abbrev pub ended : ℕ → Shared × ℕ → Drained → Drained
ended was after rest =
    cond (after.1 == 0) (record { state = after.0; left = 0; quiet = false })
    (cond (after.1 == was) (record { state = after.0; left = after.1; quiet = true }) rest)

-- what is so where a drain ends is so after a round, if it is so of what may follow
pub ended-so : (P : Drained → Type 0) (was : ℕ) (after : Shared × ℕ) (rest : Drained) →
    (after.1 ≡ 0 → P (record { state = after.0; left = 0; quiet = false })) →
    (0 < after.1 → after.1 ≡ was → P (record { state = after.0; left = after.1; quiet = true })) →
    (0 < after.1 → (after.1 ≡ was → ⊥) → P rest) → P (ended was after rest)
ended-so P was after rest spent quiet more =
    elim (after.1 == 0) as (λ b. (after.1 == 0) ≡ b → P (cond b (record { state = after.0; left = 0; quiet = false })
    (cond (after.1 == was) (record { state = after.0; left = after.1; quiet = true }) rest))) [
      | true ↦ λ none. spent (eqb-true _ _ none)
      | false ↦ λ some. let apart : after.1 ≡ 0 → ⊥ = eqb-false _ _ some in let left : 0 < after.1 = omega arith in
          elim (after.1 == was) as (λ b. (after.1 == was) ≡ b → P (cond b (record { state = after.0; left = after.1; quiet = true }) rest)) [
            | true ↦ λ same. quiet left (eqb-true _ _ same)
            | false ↦ λ fewer. more left (eqb-false _ _ fewer)
          ] refl
    ] refl

-- where it ends quiet, nothing is due
abbrev pub QuietIsDone : Drained → Type 0
QuietIsDone end = end.quiet ≡ true → NoneDue end.state (tries (greatest_tag end.state))

-- where it doesn't end quiet, it took as many steps as it may
abbrev pub UnquietIsSpent : Drained → Type 0
UnquietIsSpent end = end.quiet ≡ false → end.left ≡ 0

-- where it ends quiet, more steps may act
abbrev pub QuietIsSpare : Drained → Type 0
QuietIsSpare end = end.quiet ≡ true → 0 < end.left

-- a round that took no step, though more may act, leaves none due
pub round-none : (now : Shared × ℕ) → 0 < (round now).1 → (round now).1 ≡ now.1 → NoneDue (round now).0 (tries (greatest_tag (round now).0))
round-none now some same =
    let still = tried-none now (tries (greatest_tag now.0)) (omega arith) (omega arith) in
    let P : Shared × ℕ → Type 0 = λ t. NoneDue t.0 (tries (greatest_tag t.0)) in
    subst P (sym still.1) still.0

-- rounds that end quiet leave nothing due
pub rounds-quiet : (most : ℕ) (now : Shared × ℕ) → QuietIsDone (rounds most now)
unfolding rounds
rounds-quiet zero now = λ is. absurd (false≢true is)
rounds-quiet (suc more) now =
    ended-so QuietIsDone now.1 (round now) (rounds more (round now))
    (λ none is. absurd (false≢true is)) (λ some same is. round-none now some same) (λ some fewer. rounds-quiet more (round now))

-- rounds that don't end quiet took as many steps as they may, if there are more rounds than that
pub rounds-unquiet : (most : ℕ) (now : Shared × ℕ) → now.1 < most → UnquietIsSpent (rounds most now)
unfolding rounds
rounds-unquiet zero now few = absurd (omega arith)
rounds-unquiet (suc more) now few =
    ended-so UnquietIsSpent now.1 (round now) (rounds more (round now))
    (λ none is. refl) (λ some same is. absurd (false≢true (sym is)))
    (λ some fewer. rounds-unquiet more (round now) (omega (arith, tried-left now (tries (greatest_tag now.0)))))

-- rounds that end quiet could have taken more
pub rounds-spare : (most : ℕ) (now : Shared × ℕ) → QuietIsSpare (rounds most now)
unfolding rounds
rounds-spare zero now = λ is. absurd (false≢true is)
rounds-spare (suc more) now =
    ended-so QuietIsSpare now.1 (round now) (rounds more (round now))
    (λ none is. absurd (false≢true is)) (λ some same is. some) (λ some fewer. rounds-spare more (round now))

-- rounds keep the number of clients
pub rounds-parts : (most : ℕ) (now : Shared × ℕ) → length (rounds most now).state.parts ≡ length now.0.parts
unfolding rounds
rounds-parts zero now = refl
rounds-parts (suc more) now =
    let same = tried-parts now (tries (greatest_tag now.0)) in
    ended-so (λ end. length end.state.parts ≡ length now.0.parts) now.1 (round now) (rounds more (round now))
    (λ none. same) (λ some equal. same) (λ some fewer. rounds-parts more (round now) ∙ same)

-- and how many tags a client has
pub rounds-tags : (most : ℕ) (now : Shared × ℕ) → (rounds most now).state.tags ≡ now.0.tags
unfolding rounds
rounds-tags zero now = refl
rounds-tags (suc more) now =
    let same = tried-tags now (tries (greatest_tag now.0)) in
    ended-so (λ end. end.state.tags ≡ now.0.tags) now.1 (round now) (rounds more (round now))
    (λ none. same) (λ some equal. same) (λ some fewer. rounds-tags more (round now) ∙ same)

-- WHAT A DRAIN TAKES

-- a run goes on after another
pub replayed-append : (state : Shared) (first second : List Step) → (replayed state (first ++ second)).0 ≡ (replayed (replayed state first).0 second).0
replayed-append state [] second = refl
replayed-append state (step ∷ first) second = replayed-append (shared_step state step).0 first second

-- steps that are each due go on after others
pub AllDue-append : (state : Shared) (first second : List Step) → AllDue state first → AllDue (replayed state first).0 second → AllDue state (first ++ second)
AllDue-append state [] second due more = more
AllDue-append state (step ∷ first) second due more = (due.0, AllDue-append (shared_step state step).0 first second due.1 more)

-- some steps that act lead from here to there, and are what is missing there
pub record Taken (now after : Shared × ℕ) : Type 0 where
  pub steps : List Step
  pub run : LeadsTo now.0 steps after.0
  pub spent : length steps + after.1 ≡ now.1

-- no step leads from a state to itself
pub Taken-none : (now : Shared × ℕ) → Taken now now
Taken-none now = record { steps = []; run = record { due = tt; state = refl }; spent = omega arith }

-- steps go on after others
pub Taken-append : (now after last : Shared × ℕ) → Taken now after → Taken after last → Taken now last
Taken-append now after last first second = record {
  steps = first.steps ++ second.steps;
  run = record {
    due = AllDue-append now.0 first.steps second.steps first.run.due (subst (λ s. AllDue s second.steps) (sym first.run.state) second.run.due);
    state = replayed-append now.0 first.steps second.steps ∙ ap (λ s. (replayed s second.steps).0) first.run.state ∙ second.run.state;
  };
  spent = omega (arith, length-append first.steps second.steps, first.spent, second.spent);
}

-- a try takes its step, or none
pub tried_one-taken : (now : Shared × ℕ) (step : Step) → Taken now (tried_one now step)
tried_one-taken now step =
    elim (now.1 == 0) as (λ b. (now.1 == 0) ≡ b → Taken now (cond {A = Shared × ℕ} b now (cond (due now.0 step) ((shared_step now.0 step).0, now.1 - 1) now))) [
      | true ↦ λ none. Taken-none now
      | false ↦ λ some. let apart : now.1 ≡ 0 → ⊥ = eqb-false _ _ some in
          elim (due now.0 step) as (λ b. due now.0 step ≡ b → Taken now (cond {A = Shared × ℕ} b ((shared_step now.0 step).0, now.1 - 1) now)) [
            | true ↦ λ is. record { steps = step ∷ []; run = record { due = (is, tt); state = refl }; spent = omega arith }
            | false ↦ λ is. Taken-none now
          ] refl
    ] refl

-- tries take the steps that are due in their turn
pub tried-taken : (now : Shared × ℕ) (steps : List Step) → Taken now (tried now steps)
tried-taken now [] = Taken-none now
tried-taken now (step ∷ steps) =
    Taken-append now (tried_one now step) (tried (tried_one now step) steps) (tried_one-taken now step) (tried-taken (tried_one now step) steps)

-- so do rounds
pub rounds-taken : (most : ℕ) (now : Shared × ℕ) → Taken now ((rounds most now).state, (rounds most now).left)
unfolding rounds
rounds-taken zero now = Taken-none now
rounds-taken (suc more) now =
    let one = tried-taken now (tries (greatest_tag now.0)) in
    ended-so (λ end. Taken now (end.state, end.left)) now.1 (round now) (rounds more (round now))
    (λ none. subst (λ n. Taken now ((round now).0, n)) none one) (λ some same. one)
    (λ some fewer. let rest = rounds more (round now) in Taken-append now (round now) (rest.state, rest.left) one (rounds-taken more (round now)))

-- THE DRAIN

-- a drain that ends quiet leaves nothing due that it tries
pub drained-quiet : (state : Shared) (limit : ℕ) → QuietIsDone (drained state limit)
drained-quiet state limit = rounds-quiet (suc limit) (state, limit)

-- a drain that doesn't end quiet took as many steps as it may
pub drained-unquiet : (state : Shared) (limit : ℕ) → UnquietIsSpent (drained state limit)
drained-unquiet state limit = rounds-unquiet (suc limit) (state, limit) (omega arith)

-- a drain that ends quiet could have taken more
pub drained-spare : (state : Shared) (limit : ℕ) → QuietIsSpare (drained state limit)
drained-spare state limit = rounds-spare (suc limit) (state, limit)

-- a drain keeps the number of clients
pub drained-parts : (state : Shared) (limit : ℕ) → length (drained state limit).state.parts ≡ length state.parts
drained-parts state limit = rounds-parts (suc limit) (state, limit)

-- a drain is a run of steps that act, so many as it took of those that it may
pub drained-run : (state : Shared) (limit : ℕ) →
    (steps : List Step) × LeadsTo state steps (drained state limit).state × (length steps + (drained state limit).left ≡ limit)
drained-run state limit = let taken = rounds-taken (suc limit) (state, limit) in (taken.steps, taken.run, taken.spent)

pub drained-tags : (state : Shared) (limit : ℕ) → (drained state limit).state.tags ≡ state.tags
drained-tags state limit = rounds-tags (suc limit) (state, limit)
