-- The submissions of each client, counted.
use Rattle.std.proofs.Common.{◌≡◌, ℕ, ◌+◌, ◌<◌, ◌≤◌, ◌*◌, ◌^◌, ◌==◌, Bool, true, false, cond, List, [], ◌∷◌, ◌++◌, length, length-set, refl, arith, ◌∙◌}
use Rattle.std.specs.Prelude.{All, slice_index, slice_index_or, sum_by}
use Rattle.std.proofs.lemmas.List.{get_or-set_same, get_or-set_other}
use Rattle.std.proofs.lemmas.List.Sums.{sum_by-le, sum_by_push}
use Rattle.std.proofs.lemmas.Grind.{common_steps}
use Rattle.uas_profile.specs.declared.TheConstants.{MAX_CLIENTS}
use Rattle.shared_machine.specs.declared.Step.{Step}
use Rattle.shared_machine.specs.declared.Step.TheVariants.{Submit, Task, CommandPipe, Data, Status, Engine, Event, Retire, Take}
use Rattle.uas_work.specs.Booked.{IsCounted, asked_by, turns_in, with_turn, with_turn_of}

-- A CLIENT HAS NO MORE SUBMISSIONS THAN THERE ARE STEPS

cond_most : (b : Bool) → cond b 1 0 ≤ 1
cond_most true = omega arith
cond_most false = omega arith

asked_most : (client : ℕ) (step : Step) → asked_by client step ≤ 1
asked_most client (Submit owner tag ticket command) = cond_most (owner == client)
asked_most client (Task owner ticket task) = cond_most (owner == client)
asked_most client CommandPipe = omega arith
asked_most client (Data tag) = omega arith
asked_most client (Status tag) = omega arith
asked_most client Engine = omega arith
asked_most client Event = omega arith
asked_most client (Retire pipe tag) = omega arith
asked_most client (Take owner) = omega arith

all_most : (client : ℕ) (steps : List Step) → All (λ step. asked_by client step ≤ 1) steps
all_most client steps = λ k other within. asked_most client (slice_index_or steps k other)

pub turns_most : (client : ℕ) (steps : List Step) → turns_in client steps ≤ length steps
turns_most client steps = let most : sum_by (asked_by client) steps ≤ length steps * 1 = sum_by-le (asked_by client) 1 steps (all_most client steps) in omega arith

-- ONE MORE STEP

pub turns_more : (client : ℕ) (steps : List Step) (step : Step) → turns_in client (steps ++ step ∷ []) ≡ turns_in client steps + asked_by client step
turns_more client steps step = sum_by_push (asked_by client) steps step

-- a step that is no submission counts for nobody
counted-quiet : (turns : List ℕ) (steps : List Step) (step : Step) → ((client : ℕ) → asked_by client step ≡ 0) → IsCounted turns steps
    → IsCounted turns (steps ++ step ∷ [])
counted-quiet turns steps step none it = (it.0, λ client within. omega (arith, it.1 client within, turns_more client steps step, none client))

turn-at : (turns : List ℕ) (owner client : ℕ) (same : Bool) → owner == client ≡ same → client < length turns
    → slice_index (with_turn_of turns owner) client ≡ slice_index turns client + cond same 1 0
turn-at turns owner client true is within = grind (arith, common_steps, get_or-set_same {A = ℕ})
turn-at turns owner client false is within = grind (arith, common_steps, get_or-set_other {A = ℕ})

-- one of a client counts for that client
counted-asked : (turns : List ℕ) (steps : List Step) (step : Step) (owner : ℕ) → ((client : ℕ) → asked_by client step ≡ cond (owner == client) 1 0)
    → IsCounted turns steps → IsCounted (with_turn_of turns owner) (steps ++ step ∷ [])
counted-asked turns steps step owner asks it = (
  length-set turns owner (slice_index turns owner + 1) ∙ it.0,
  λ client within. omega (
    arith,
    it.1 client within,
    turns_more client steps step,
    asks client,
    turn-at turns owner client (owner == client) refl (omega (arith, it.0)),
  ),
)

pub counted-more : (turns : List ℕ) (steps : List Step) (step : Step) → IsCounted turns steps → IsCounted (with_turn turns step) (steps ++ step ∷ [])
counted-more turns steps (Submit owner tag ticket command) it =
    counted-asked turns steps (Submit owner tag ticket command) owner (λ client. refl) it
counted-more turns steps (Task owner ticket task) it = counted-asked turns steps (Task owner ticket task) owner (λ client. refl) it
counted-more turns steps CommandPipe it = counted-quiet turns steps CommandPipe (λ client. refl) it
counted-more turns steps (Data tag) it = counted-quiet turns steps (Data tag) (λ client. refl) it
counted-more turns steps (Status tag) it = counted-quiet turns steps (Status tag) (λ client. refl) it
counted-more turns steps Engine it = counted-quiet turns steps Engine (λ client. refl) it
counted-more turns steps Event it = counted-quiet turns steps Event (λ client. refl) it
counted-more turns steps (Retire pipe tag) it = counted-quiet turns steps (Retire pipe tag) (λ client. refl) it
counted-more turns steps (Take owner) it = counted-quiet turns steps (Take owner) (λ client. refl) it

-- no count is near its end
pub counted-small : (turns : List ℕ) (steps : List Step) (limit : ℕ) → IsCounted turns steps → length steps ≤ limit → limit < 2 ^ 32
    → (client : ℕ) → client < MAX_CLIENTS → slice_index turns client < 2 ^ 32
counted-small turns steps limit it most small client within = omega (arith, it.1 client within, turns_most client steps)
