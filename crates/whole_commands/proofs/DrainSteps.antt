-- A drain takes steps of the bus's own. Cited by the law.
use Rattle.std.proofs.Common.{◌≡◌, ℕ, zero, suc, ◌+◌, ◌-◌, true, false, cond, List, [], ◌∷◌, ◌++◌, map, length-append, refl, arith, ap, sym, subst, ◌∙◌}
use Rattle.std.specs.Prelude.{All, ◌==◌, length}
use Rattle.std.proofs.lemmas.Bool.{eqb-false}
use Rattle.std.proofs.lemmas.List.Elements.{All-append, All-cons, All-head, All-map, All-nil, All-tail}
use Rattle.uas_profile.specs.declared.Pipe.TheVariants.{Status, DataIn, DataOut}
use Rattle.shared_machine.specs.declared.Step.{Step}
use Rattle.shared_machine.specs.declared.Step.TheVariants.{CommandPipe, Data, Status as StatusStep, Engine, Event, Retire}
use Rattle.shared_machine.specs.Shared.{Shared, due, greatest_tag, shared_step}
use Rattle.shared_machine.specs.Drain.{all_tags, retirements, round, rounds, tried, tried_one, tries}
use Rattle.shared_machine.specs.Laws.{AllDue, LeadsTo}
use Rattle.shared_machine.specs.Replay.{replayed}
use Rattle.shared_machine.proofs.Drains.{AllDue-append, ended-so, replayed-append}
use Rattle.isolation.specs.Isolation.{IsIsolated}
use Rattle.isolation.proofs.WholeRuns.{replayed-isolated}
use Rattle.whole_commands.specs.OnTheBus.{DrainTakesBusSteps, IsBusStep}

-- some steps of the bus's own that act lead from here to there, and are what is missing there
record Taken (now after : Shared × ℕ) : Type 0 where
  steps : List Step
  run : LeadsTo now.0 steps after.0
  spent : length steps + after.1 ≡ now.1
  own : All IsBusStep steps

none-taken : (now : Shared × ℕ) → Taken now now
none-taken now = record { steps = []; run = record { due = tt; state = refl }; spent = omega arith; own = All-nil IsBusStep }

both-taken : (now after last : Shared × ℕ) → Taken now after → Taken after last → Taken now last
both-taken now after last first second = record {
  steps = first.steps ++ second.steps;
  run = record {
    due = AllDue-append now.0 first.steps second.steps first.run.due (subst (λ s. AllDue s second.steps) (sym first.run.state) second.run.due);
    state = replayed-append now.0 first.steps second.steps ∙ ap (λ s. (replayed s second.steps).0) first.run.state ∙ second.run.state;
  };
  spent = omega (arith, length-append first.steps second.steps, first.spent, second.spent);
  own = All-append IsBusStep first.steps second.steps first.own second.own;
}

one-taken : (now : Shared × ℕ) (step : Step) → IsBusStep step → Taken now (tried_one now step)
one-taken now step own =
    elim (now.1 == 0) as (λ b. (now.1 == 0) ≡ b → Taken now (cond {A = Shared × ℕ} b now (cond (due now.0 step) ((shared_step now.0 step).0, now.1 - 1) now))) [
      | true ↦ λ none. none-taken now
      | false ↦ λ some. let apart : now.1 ≡ 0 → ⊥ = eqb-false _ _ some in
          elim (due now.0 step) as (λ b. due now.0 step ≡ b → Taken now (cond {A = Shared × ℕ} b ((shared_step now.0 step).0, now.1 - 1) now)) [
            | true ↦ λ is. record {
              steps = step ∷ [];
              run = record { due = (is, tt); state = refl };
              spent = omega arith;
              own = All-cons IsBusStep step [] own (All-nil IsBusStep);
            }
            | false ↦ λ is. none-taken now
          ] refl
    ] refl

all-taken : (now : Shared × ℕ) (steps : List Step) → All IsBusStep steps → Taken now (tried now steps)
all-taken now [] own = none-taken now
all-taken now (step ∷ steps) own =
    both-taken now (tried_one now step) (tried (tried_one now step) steps) (one-taken now step (All-head IsBusStep step steps own))
    (all-taken (tried_one now step) steps (All-tail IsBusStep step steps own))

-- the tries of a round
of-tags : (kind : ℕ → Step) (tags : List ℕ) → ((tag : ℕ) → IsBusStep (kind tag)) → All IsBusStep (map kind tags)
of-tags kind tags own = All-map IsBusStep kind tags (λ k d within. own _)

tries-own : (greatest : ℕ) → All IsBusStep (tries greatest)
tries-own greatest =
    let tags : List ℕ = all_tags greatest in
    let first : List Step = CommandPipe ∷ Engine ∷ Event ∷ [] in
    let moves : List Step = first ++ map Data tags in
    let answers : List Step = moves ++ map StatusStep tags in
    let status : List Step = answers ++ retirements greatest Status in
    let data_in : List Step = status ++ retirements greatest DataIn in
    let own_first : All IsBusStep first =
    All-cons IsBusStep CommandPipe (Engine ∷ Event ∷ []) tt (All-cons IsBusStep Engine (Event ∷ []) tt (All-cons IsBusStep Event [] tt (All-nil IsBusStep))) in
    let own_moves : All IsBusStep moves = All-append IsBusStep first (map Data tags) own_first (of-tags Data tags (λ tag. tt)) in
    let own_answers : All IsBusStep answers = All-append IsBusStep moves (map StatusStep tags) own_moves (of-tags StatusStep tags (λ tag. tt)) in
    let own_status : All IsBusStep status = All-append IsBusStep answers (retirements greatest Status) own_answers (of-tags (Retire Status) tags (λ tag. tt)) in
    let own_data_in : All IsBusStep data_in = All-append IsBusStep status (retirements greatest DataIn) own_status (of-tags (Retire DataIn) tags (λ tag. tt)) in
    All-append IsBusStep data_in (retirements greatest DataOut) own_data_in (of-tags (Retire DataOut) tags (λ tag. tt))

rounds-own : (most : ℕ) (now : Shared × ℕ) → Taken now ((rounds most now).state, (rounds most now).left)
unfolding rounds
rounds-own zero now = none-taken now
rounds-own (suc more) now =
    let one = all-taken now (tries (greatest_tag now.0)) (tries-own (greatest_tag now.0)) in
    ended-so (λ end. Taken now (end.state, end.left)) now.1 (round now) (rounds more (round now))
    (λ none. subst (λ n. Taken now ((round now).0, n)) none one) (λ some same. one)
    (λ some fewer. let rest = rounds more (round now) in both-taken now (round now) (rest.state, rest.left) one (rounds-own more (round now)))

pub drain-own : DrainTakesBusSteps
drain-own state limit =
    let all = rounds-own (suc limit) (state, limit) in
    record {
      steps = all.steps;
      run = all.run;
      spent = all.spent;
      own = all.own;
      isolated = λ client. subst (λ last. IsIsolated state all.steps (replayed state all.steps).1 last client) all.run.state
          (replayed-isolated state all.steps client);
    }
